-- The readers of `panels` meet their contracts: a record is read by the reader of its kind, on the bytes behind its head, and a series or
-- a beside reads its members. Assumes nothing.
use Rattle.std.proofs.Common.{rules, arith, refl, ◌∙◌}
use Rattle.std.proofs.lemmas.Result.{err_from_is_err_and}
use Rattle.designs.specs.Designs.{body_of}
use Rattle.panels.proofs.Turns.{turned_away, shorter, stays_low, width_there, read_inner, leaf_body}
use Rattle.panels.proofs.Going.{series_adds, beside_adds, begin, ended, series_size, beside_size, stopped_at, made_whole, past_shorter, turned_series, turned_beside, small}
use Rattle.panels.proofs.+readers.Goals as goal

pub record_reader-returns-in_err-kind : goal.record_reader-returns-in_err-kind
record_reader-returns-in_err-kind t c =
    let p = err_from_is_err_and c.from_residual.result c.from_residual.ensures.1 in
    rw (p.1, p.2) (turned_away _ c.in_err-kind.ensures)

pub record_reader-series_reader-requires : goal.record_reader-series_reader-requires
record_reader-series_reader-requires t c = let o = c.in_ok-kind.ensures in let less = shorter o in (omega arith, (stays_low o c.requires.0, omega arith, omega arith))

pub record_reader-beside_reader-requires : goal.record_reader-beside_reader-requires
record_reader-beside_reader-requires t c = let o = c.in_ok-kind.ensures in let less = shorter o in (omega arith, (stays_low o c.requires.0, omega arith, omega arith))

pub record_reader-leaf-requires : goal.record_reader-leaf-requires
record_reader-leaf-requires t c = let low = stays_low c.in_ok-kind.ensures c.requires.0 in (omega (arith, c.in_ok-kind.ensures.at_is), λ e. width_there c.in_ok-kind.ensures (rw e at c.in-Leaf.is))

pub record_reader-returns-in-Series : goal.record_reader-returns-in-Series
unfolding body_of
record_reader-returns-in-Series t c = read_inner c.in_ok-kind.ensures (rw c.in-Series.is c.series_reader.ensures)

pub record_reader-returns-in-Beside : goal.record_reader-returns-in-Beside
unfolding body_of
record_reader-returns-in-Beside t c = read_inner c.in_ok-kind.ensures (rw c.in-Beside.is c.beside_reader.ensures)

pub record_reader-returns-in-Leaf : goal.record_reader-returns-in-Leaf
record_reader-returns-in-Leaf t c = read_inner c.in_ok-kind.ensures (rw (c.in-Leaf.is, leaf_body) c.leaf.ensures)

pub series_reader-loop-rest-init : goal.series_reader-loop-rest-init
series_reader-loop-rest-init t c = (refl, begin _ _ _ _ _ _ _ _ series_adds _ c.none-sum.ensures)

pub series_reader-returns-in_err-p : goal.series_reader-returns-in_err-p
series_reader-returns-in_err-p t c =
    let p = err_from_is_err_and c.from_residual.result c.from_residual.ensures.1 in
    rw (p.1, p.2) (stopped_at c.loop-rest.invariant.1 (search rules) (omega arith) (omega arith) (rw c.loop-rest.invariant.0 at c.in_err-p.ensures))

pub series_reader-more-sum-requires : goal.series_reader-more-sum-requires
series_reader-more-sum-requires t c = let s = small _ _ _ _ _ c.in_ok-p.ensures.answer in omega (arith, s.deep, c.loop-rest.invariant.1.low, c.loop-rest.invariant.1.inside)

pub series_reader-past-rest-requires-clause-within : goal.series_reader-past-rest-requires-clause-within
series_reader-past-rest-requires-clause-within t c = (made_whole _ _ c.in_ok-p.ensures).body

pub series_reader-loop-rest-smaller : goal.series_reader-loop-rest-smaller
series_reader-loop-rest-smaller t c = omega (arith, past_shorter c.past-rest.ensures (made_whole _ _ c.in_ok-p.ensures))

pub series_reader-loop-rest-preserved : goal.series_reader-loop-rest-preserved
series_reader-loop-rest-preserved t c =
    let left = c.loop-rest.invariant.0 in
    (c.past-rest.ensures.left_is ∙ left, turned_series c.loop-rest.invariant.1 (search rules) (rw left at c.in_ok-p.ensures) c.exits-exits.ensures c.link.ensures c.more-sum.ensures (rw left at c.past-rest.ensures))

pub series_reader-returns : goal.series_reader-returns
series_reader-returns t c = ended c.loop-rest.invariant.1 (search rules) (rw c.unwrap_or.ensures (series_size _ c.loop-rest.invariant.1.sum_is)) c.sized.ensures

pub beside_reader-loop-rest-init : goal.beside_reader-loop-rest-init
beside_reader-loop-rest-init t c = (refl, begin _ _ _ _ _ _ _ _ beside_adds _ c.none-sum.ensures)

pub beside_reader-returns-in_err-p : goal.beside_reader-returns-in_err-p
beside_reader-returns-in_err-p t c =
    let p = err_from_is_err_and c.from_residual.result c.from_residual.ensures.1 in
    rw (p.1, p.2) (stopped_at c.loop-rest.invariant.1 (search rules) (omega arith) (omega arith) (rw c.loop-rest.invariant.0 at c.in_err-p.ensures))

pub beside_reader-more-sum-requires : goal.beside_reader-more-sum-requires
beside_reader-more-sum-requires t c = let s = small _ _ _ _ _ c.in_ok-p.ensures.answer in omega (arith, s.wide, c.loop-rest.invariant.1.low, c.loop-rest.invariant.1.inside)

pub beside_reader-past-rest-requires-clause-within : goal.beside_reader-past-rest-requires-clause-within
beside_reader-past-rest-requires-clause-within t c = (made_whole _ _ c.in_ok-p.ensures).body

pub beside_reader-loop-rest-smaller : goal.beside_reader-loop-rest-smaller
beside_reader-loop-rest-smaller t c = omega (arith, past_shorter c.past-rest.ensures (made_whole _ _ c.in_ok-p.ensures))

pub beside_reader-loop-rest-preserved : goal.beside_reader-loop-rest-preserved
beside_reader-loop-rest-preserved t c =
    let left = c.loop-rest.invariant.0 in
    (c.past-rest.ensures.left_is ∙ left, turned_beside c.loop-rest.invariant.1 (search rules) (rw left at c.in_ok-p.ensures) c.more-sum.ensures (rw left at c.past-rest.ensures))

pub beside_reader-returns : goal.beside_reader-returns
beside_reader-returns t c = ended c.loop-rest.invariant.1 (search rules) (rw c.unwrap_or.ensures (beside_size _ c.loop-rest.invariant.1.sum_is)) c.sized.ensures
