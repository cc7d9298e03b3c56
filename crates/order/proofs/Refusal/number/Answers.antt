-- `order::Refusal::number` meets its contract: the discriminant is the variant's place and one more. Assumes nothing.
use Rattle.order.proofs.Numbers.{number_place}
use Rattle.order.proofs.Refusal.number.Goals as goal

pub returns : goal.returns
returns c = number_place c.args.self
