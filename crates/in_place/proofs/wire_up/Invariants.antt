-- `in_place::wire_up` meets its contract. The invariant: the rows of the layers passed are in the table. Assumes nothing.
use Rattle.std.proofs.Common.{◌≡◌, ◌<◌, ℕ, [], length, get_or}
use Rattle.network.specs.Rows.{row_array}
use Rattle.in_place.proofs.wire_up.Given as goal

abbrev pub invariant-loop-layer : goal.invariant-loop-layer
invariant-loop-layer l = record {
  long : length l.table ≡ 36;
  rows : (K : ℕ) → K < l.layer → get_or l.table K [] ≡ row_array l.width l.construction K;
}
