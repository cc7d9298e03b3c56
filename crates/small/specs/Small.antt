-- The small cabinet (02, P6): a run with a dial at each exit. Opening, enter, turn and poll. It is sound where its run is: dials are
-- not judged. Definitions only. Assumes nothing.
use Rattle.std.specs.Prelude.{ℕ, not, cond, List, [], ◌∷◌, eqb, leb, get_or, set, replicate, Result, Ok, Err, ⊤}
use Rattle.order.specs.declared.After.{After}
use Rattle.order.specs.declared.Refusal.{Refusal}
use Rattle.order.specs.Order.{◌⟶◌, first_of, refused_by}
use Rattle.moves.specs.declared.Turn.{Turn}
use Rattle.moves.specs.Answer.{Answer, Values, answered, values_of}
use Rattle.run.specs.declared.Run.{Run}
use Rattle.run.specs.Run.{open_of, sound, enter_of, turn_of}
use Rattle.dials.specs.declared.Dial.{Dial}
use Rattle.dials.specs.Dials.{open_dial, advance_of, yield_of, poll_of}
use Rattle.small.specs.declared.Cabinet.{Cabinet}

-- what an opening, entering, a turn and a poll give: the refusal's number, 0 where it was carried out, or the turn's answer, and the
-- cabinet after it; a poll its yield too, which is 0 where it was refused
pub record Opened : Type 0 where
  pub refusal : ℕ
  pub cabinet : Cabinet

pub record Entered : Type 0 where
  pub refusal : ℕ
  pub cabinet : Cabinet

pub record Turned : Type 0 where
  pub answer : Answer
  pub cabinet : Cabinet

pub record Polled : Type 0 where
  pub refusal : ℕ
  pub yielded : ℕ
  pub cabinet : Cabinet

abbrev pub opened : After Cabinet ⊤ → Opened
opened a = record { refusal = refused_by a.answer; cabinet = a.state }

abbrev pub entered : After Cabinet ⊤ → Entered
entered a = record { refusal = refused_by a.answer; cabinet = a.state }

abbrev pub turned : After Cabinet Turn → Turned
turned a = record { answer = answered a.answer; cabinet = a.state }

abbrev pub yielded_by : Result ℕ Refusal → ℕ
yielded_by (Ok n) = n
yielded_by (Err e) = 0

abbrev pub polled : After Cabinet ℕ → Polled
polled a = record { refusal = refused_by a.answer; yielded = yielded_by a.answer; cabinet = a.state }

abbrev pub cabinet_of : Run → List Dial → Cabinet
cabinet_of x ds = record { run = x; dials = ds }

-- the dial of exit i
abbrev pub dial_at : List Dial → ℕ → Dial
dial_at ds i = get_or ds i open_dial

-- opening: 1, 2; also of a refused one dials and last readings are 0
unfoldable pub open_small : ℕ → ℕ → Opened
open_small w c = record { refusal = (open_of w c).refusal; cabinet = cabinet_of (open_of w c).run (replicate 64 open_dial) }

-- token t on entry wire v: 9, 4, 5, 6, 7
unfoldable pub enter_small : Cabinet → ℕ → ℕ → Entered
enter_small x t v =
    let e = enter_of x.run t v in
    record { refusal = e.refusal; cabinet = cabinet_of e.run x.dials }

-- where a number is dealt at exit i, dial i goes on by one
abbrev pub advanced_at : List Dial → ℕ → List Dial
advanced_at ds i = set ds i (advance_of (dial_at ds i))

unfoldable pub dials_after : List Dial → Values → List Dial
dials_after ds a = cond a.dealt (advanced_at ds a.exit) ds

-- a turn of token t: 9, 4, 8
unfoldable pub turn_small : Cabinet → ℕ → Turned
turn_small x t =
    let m = turn_of x.run t in
    record { answer = m.answer; cabinet = cabinet_of m.run (dials_after x.dials (values_of m.answer)) }

-- a poll of exit i: 9 record not sound; 5 exit not below the width
unfoldable pub poll_no : Cabinet → ℕ → ℕ
poll_no x i = first_of ((not (sound x.run) ⟶ 9) ∷ (leb x.run.width i ⟶ 5) ∷ [])

abbrev pub polled_at : List Dial → ℕ → List Dial
polled_at ds i = set ds i (poll_of (dial_at ds i)).dial

unfoldable pub poll_small : Cabinet → ℕ → Polled
poll_small x i =
    let n = poll_no x i in
    record {
      refusal = n;
      yielded = cond (eqb n 0) (yield_of (dial_at x.dials i)) 0;
      cabinet = cabinet_of x.run (cond (eqb n 0) (polled_at x.dials i) x.dials);
    }
