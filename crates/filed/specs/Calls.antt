-- The calls of a schedule: those of its own enter and turn records, read off its bytes (01, "Schedule bytes"). Definitions only.
-- Assumes nothing.
use Rattle.std.specs.Prelude.{ℕ, zero, suc, ◌+◌, List, [], ◌∷◌, ◌++◌, length}
use Rattle.records.specs.declared.Record.{Record}
use Rattle.records.specs.declared.Record.TheVariants.{Open, Enter, Turn, Close, Number}
use Rattle.records.specs.Reading.{Read, Got, Refused as Unread}
use Rattle.outcome.specs.Schedule.{record_at}
use Rattle.promise.specs.History.{Call, enter, turn}

-- the call that a record makes: none for an open, a close or a report
unfoldable pub call_in : Record → List Call
call_in (Open w c) = []
call_in (Enter t v) = enter t v ∷ []
call_in (Turn t) = turn t ∷ []
call_in (Close e) = []
call_in (Number t v n) = []

-- where a record was read, its call, and the calls behind its length
unfoldable pub calls_read : Read → (ℕ → List Call) → List Call
calls_read (Got r len) behind = call_in r ++ behind len
calls_read (Unread k present) behind = []

-- The calls from the offset `at` on, as far as records read. The first argument bounds the records; there are at most as many as
-- bytes.
unfoldable pub calls_from : ℕ → List ℕ → ℕ → List Call
calls_from zero s at = []
calls_from (suc more) s at = calls_read (record_at s at) (λ len. calls_from more s (at + len))

unfoldable pub calls_in : List ℕ → List Call
calls_in s = calls_from (suc (length s)) s 0
