-- `listing::list_all` meets its contract: the room is enough for every listing. Assumes nothing.
use Rattle.std.proofs.Common.{◌≤◌, length, arith}
use Rattle.listing_text.specs.Listing.{listing_of}
use Rattle.listing_text.proofs.Whole.{listing_most, lists_ok, lists_whole}
use Rattle.listing.proofs.list_all.Goals as goal

pub unwrap-requires : goal.unwrap-requires
unwrap-requires c =
    let fits : length (listing_of c.args.bytes.now) ≤ length c.args.out.now = omega (arith, listing_most c.args.bytes.now) in
    lists_ok fits c.listing.ensures

pub returns : goal.returns
returns c =
    let fits : length (listing_of c.args.bytes.now) ≤ length c.args.out.now = omega (arith, listing_most c.args.bytes.now) in
    lists_whole fits (rw c.unwrap.ensures at c.listing.ensures)
