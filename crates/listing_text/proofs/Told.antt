-- However a schedule ends: it is stopped or accepted, and where it is accepted the outcome's bytes are those of its reports, and the
-- schedule is not too long.
-- Assumes nothing.
use Prim.Native.Nat.{ℕ, suc, ◌≤◌}
use mathlib.Core.Path.{◌≡◌, refl}
use mathlib.Core.Bool.{Bool, true, false, cond}
use mathlib.Core.List.{List, []}
use native.Mathlib.Omega.{arith}
use lib.ListN.{length}
use lib.Dec.{ltb, leb}
use borrow.Author.Tests.{leb-true, le-leb, ltb-false}
use Rattle.outcome.specs.Outcome.{Outcome, Accepted, Refused}
use Rattle.outcome.specs.Course.{Course, at_start}
use Rattle.outcome.specs.Schedule.{Told, stopped, accepted, tell}
use Rattle.outcome.proofs.Told.{Fault, told_from}
use Rattle.outcome.specs.Whole.{settle, run_of}

-- ---- the bytes that an outcome tells
pub record Bytes (t : Told) (room b : ℕ) : Type 0 where
  pub all : b ≡ length t.reports
  pub within : b ≤ room

AllTold : Told → Type 0
AllTold t = (w c e b : ℕ) → t.outcome ≡ Accepted w c e b → b ≡ length t.reports

all_stopped : (k n at present : ℕ) → Fault k → AllTold (stopped k n at present)
unfolding AllTold
all_stopped k n at present f w c e b h = cc

all_accepted : (x : Course) (done : List ℕ) → AllTold (accepted x done)
unfolding AllTold
all_accepted x done w c e b h = cc

all_told : (s : List ℕ) → AllTold (tell s)
unfolding tell
all_told s =
    told_from s AllTold (λ more x at done. Unit) all_stopped (λ more x at done kept closed end. all_accepted x done)
    (λ more x at len done y kept p e. tt) (suc (length s)) at_start 0 0 [] tt

-- what is accepted behind a test that may refuse
passed : (x : Bool) (o : Outcome) (k w c e b : ℕ) → cond x o (Refused k 0 0 0) ≡ Accepted w c e b → (x ≡ true) × (o ≡ Accepted w c e b)
passed true o k w c e b h = (refl, h)
passed false o k w c e b h = absurd (cc)

abbrev told : Outcome → List ℕ → Told
told o reports = record { outcome = o; reports = reports }

settled_bytes : (o : Outcome) (reports : List ℕ) (room w c e b : ℕ) → AllTold (told o reports) → settle (told o reports) room ≡ Accepted w c e b → Bytes (told o reports) room b
unfolding settle AllTold
settled_bytes (Accepted w' c' e' b') reports room w c e b all h =
    let p = passed (leb b' room) _ 17 w c e b h in
    let same : b ≡ b' = let q = p.1 in cc in
    record { all = all w c e b p.1; within = rw same (leb-true b' room p.0) }
settled_bytes (Refused k n at present) reports room w c e b all h = absurd (cc)

short : (x : Bool) (o : Outcome) (w c e b : ℕ) → cond x (Refused 16 0 0 0) o ≡ Accepted w c e b → (x ≡ false) × (o ≡ Accepted w c e b)
short true o w c e b h = absurd (cc)
short false o w c e b h = (refl, h)

pub run_bytes : (s : List ℕ) (room w c e b : ℕ) → run_of s room ≡ Accepted w c e b → Bytes (tell s) room b
unfolding run_of
run_bytes s room w c e b h =
    settled_bytes (tell s).outcome (tell s).reports room w c e b (all_told s) (short (ltb 65536 (length s)) _ w c e b h).1

pub run_short : (s : List ℕ) (room w c e b : ℕ) → run_of s room ≡ Accepted w c e b → length s ≤ 65536
unfolding run_of
run_short s room w c e b h = ltb-false _ _ (short (ltb 65536 (length s)) _ w c e b h).0

-- ---- more room gives the same
settled_more : (o : Outcome) (reports : List ℕ) (room more w c e b : ℕ) → room ≤ more → settle (told o reports) room ≡ Accepted w c e b → settle (told o reports) more ≡ Accepted w c e b
unfolding settle
settled_more (Accepted w' c' e' b') reports room more w c e b wider h =
    let p = passed (leb b' room) _ 17 w c e b h in
    rw (le-leb b' more (omega (arith, leb-true b' room p.0))) p.1
settled_more (Refused k n at present) reports room more w c e b wider h = h

pub run_more : (s : List ℕ) (room more w c e b : ℕ) → room ≤ more → run_of s room ≡ Accepted w c e b → run_of s more ≡ Accepted w c e b
unfolding run_of
run_more s room more w c e b wider h =
    let p = short (ltb 65536 (length s)) _ w c e b h in
    rw p.0 (settled_more (tell s).outcome (tell s).reports room more w c e b wider p.1)
