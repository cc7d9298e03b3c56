-- The worked cases of designs hold: each is computed. Assumes nothing.
use mathlib.Core.Path.{refl}
use Rattle.order.specs.Order.{first_of}
use Rattle.network.specs.Widths.{width_ok, construction_ok, open_no, levels, depth_of}
use Rattle.network.specs.Wiring.{feed_at, part, bitonic, periodic, place}
use Rattle.network.specs.Rows.{tabulate, rows, place_of}
use Rattle.records.specs.Fields.{spelt}
use Rattle.records.specs.Reading.{present_of}
use Rattle.designs.specs.Panels.{feed_sheet}
use Rattle.designs.specs.Members.{joined_to, equal_to, joined, all_equal}
use Rattle.feed_sheet.specs.Limits.{among, distinct}
use Rattle.designs.specs.Records.{length_fits, behind, head_no}
use Rattle.designs.specs.Leaves.{judged, cross_no, leaf_of}
use Rattle.designs.specs.Designs.{first, members_in, size_no, joined_at, body_of, record_at, design_of}
use Rattle.designs.specs.Cases.{feed_of, Cases}

pub cases : Cases
unfolding first_of present_of width_ok construction_ok open_no levels depth_of feed_at part bitonic periodic place tabulate rows place_of spelt feed_sheet joined_to equal_to joined all_equal among distinct length_fits behind head_no judged cross_no leaf_of first members_in size_no joined_at body_of record_at design_of feed_of
cases = record {
  cell_feeds = refl;
  spelt_is_named = refl;
  named_feeds = refl;
  three_feed = refl;
  six_feed = refl;
  no_bytes = refl;
  byte_after = refl;
  past_parent = refl;
  cut_within = refl;
  no_width_byte = refl;
}
