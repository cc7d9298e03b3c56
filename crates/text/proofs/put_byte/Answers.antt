-- `text::put_byte` meets its contract: a place past the end stores nothing. Assumes nothing.
use Rattle.std.proofs.Common.{◌≡◌, ◌∙◌, arith}
use Rattle.text.specs.Text.{next_place}
use Rattle.text.proofs.Text.{next_is, puts_inside, puts_outside}
use Rattle.text.proofs.put_byte.Goals.{then-at-out, else-at-out}
use Rattle.text.proofs.put_byte.Goals as goal

pub returns : goal.returns
returns c =
    let next : c.saturating_add.result ≡ next_place c.args.at = c.saturating_add.ensures ∙ next_is c.args.at (omega arith) in
    elim c.if-at-out.branch [
      | then-at-out w ↦ rw w.out-is (puts_inside _ next)
      | else-at-out w ↦ rw w.out-is (puts_outside _ next w.if-at-out.false)
    ]
