-- What reading a design answers is told apart by its numbers. Assumes nothing.
use mathlib.Core.Path.{◌≡◌, ap, sym}
use Rattle.std.proofs.Common.{Result, Ok, Err}
use Rattle.order.proofs.Numbers.{number_some, number_tells}
use Rattle.designs.specs.declared.Fault.{Fault}
use Rattle.panels.specs.declared.Panel.{Panel}
use Rattle.panels.specs.Answers.{Answer, answer_by}

pub answer_tells : (r s : Result Panel Fault) → answer_by r ≡ answer_by s → r ≡ s
answer_tells (Ok p) (Ok q) e =
    let same : p ≡ q = rw (ap (λ (a : Answer). a.width) e, ap (λ (a : Answer). a.depth) e, ap (λ (a : Answer). a.filled) e) in
    rw same
answer_tells (Ok p) (Err y) e = absurd (number_some y.refusal (sym (ap (λ (a : Answer). a.refusal) e)))
answer_tells (Err x) (Ok q) e = absurd (number_some x.refusal (ap (λ (a : Answer). a.refusal) e))
answer_tells (Err x) (Err y) e =
    let refusal = number_tells x.refusal y.refusal (ap (λ (a : Answer). a.refusal) e) in
    let same : x ≡ y = rw (refusal, ap (λ (a : Answer). a.offset) e, ap (λ (a : Answer). a.present) e) in
    rw same
