-- `listing_text::listing` meets its contract: what is put is the text of what was run. Assumes nothing.
use Rattle.std.proofs.Common.{rules, sym}
use lib.Seq.{length-take-le}
use Rattle.listing_text.specs.Listing.{listing_of}
use Rattle.listing_text.proofs.Whole.{listing_few, reports_within, accepted_puts, refused_puts}
use Rattle.listing_text.proofs.listing.Goals as goal

pub slice_bounds-reports-end : goal.slice_bounds-reports-end
slice_bounds-reports-end c = reports_within (search rules) c.run.ensures c.in-Ok.is

pub slice_bounds-filled-end : goal.slice_bounds-filled-end
slice_bounds-filled-end c = sym (length-take-le _ _ (reports_within (search rules) c.run.ensures c.in-Ok.is))

pub returns-in-Ok : goal.returns-in-Ok
returns-in-Ok c =
    c.put_if_room.ensures (listing_of c.args.bytes.now) (listing_few _)
    (λ lent next left k. accepted_puts (search rules) c.run.ensures c.in-Ok.is (search rules))

pub returns-in-Err : goal.returns-in-Err
returns-in-Err c =
    c.put_if_room-in-Err.ensures (listing_of c.args.bytes.now) (listing_few _)
    (λ lent next left k. refused_puts (search rules) c.run.ensures c.in-Err.is (search rules))
