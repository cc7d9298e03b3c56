-- Each public contract allows one answer: any two answers that it allows on the same arguments are equal, and so is what is left in
-- everything lent. The contracts are the functions' own: `ended` is the signature with what is seen of each parameter after the call, and
-- `Learnt` is what a caller learns by the `ensures`. Definitions only. Assumes nothing.
use Rattle.std.specs.Prelude.{◌≡◌, []}
use contract.Lifetimes.{Lfts}
use denote.Triple.Entry.{Args, Res}
use denote.Triple.Clauses.{Ended, Lasts, AtExit, at_exit}
use Rattle.network as network
use Rattle.sheets as sheets
use Rattle.run as run
use Rattle.gaps as gaps
use Rattle.records as records
use Rattle.schedule as schedule
use Rattle.feed_sheet as feed_sheet
use Rattle.feeds as feeds
use Rattle.feed_gaps as feed_gaps
use Rattle.panels as panels
use Rattle.dials as dials
use Rattle.small as small
use Rattle.listing_text as listing_text
use Rattle.trace_text as trace_text
use Rattle.panel_text as panel_text

-- what a contract says of the arguments, the answer and the parameters at exit
abbrev pub Says : Ended → Type 1
Says T = (κs : Lfts T.signature.lifetimes) → Args T.signature κs → Res T.signature κs → AtExit T κs → Type 0

-- in what two answers are alike
abbrev pub Alike : Ended → Type 1
Alike T = (κs : Lfts T.signature.lifetimes) → Res T.signature κs → Res T.signature κs → Type 0

-- of any two answers that a contract allows: they are alike, and the last values of everything lent, l and m, are equal
abbrev pub OneBy : (T : Ended) → Alike T → Says T → Type 0
OneBy T alike says = (κs : Lfts T.signature.lifetimes) (a : Args T.signature κs) (r s : Res T.signature κs) (l m : Lasts T κs a) → says κs a r (at_exit T κs a l) → says κs a s (at_exit T κs a m) → alike κs r s × (l ≡ m)

abbrev pub One : (T : Ended) → Says T → Type 0
One T = OneBy T (λ κs r s. r ≡ s)

pub record OneAnswer : Type 0 where
  -- network
  pub width_ok : One network.specs.contracts.width_ok.ended network.proofs.width_ok.Reads.Learnt
  pub construction_ok : One network.specs.contracts.construction_ok.ended network.proofs.construction_ok.Reads.Learnt
  pub check_open : One network.specs.contracts.check_open.ended network.proofs.check_open.Reads.Learnt
  pub depth_of : One network.specs.contracts.depth_of.ended network.proofs.depth_of.Reads.Learnt
  pub row : One network.specs.contracts.row.ended network.proofs.row.Reads.Learnt
  pub place_of : One network.specs.contracts.place_of.ended network.proofs.place_of.Reads.Learnt
  -- sheets; a view is the bytes that it shows and their place, and the place of no bytes is left open
  pub sheet : One sheets.specs.contracts.sheet.ended sheets.proofs.sheet.Reads.Learnt
  pub check_view : One sheets.specs.contracts.check_view.ended sheets.proofs.check_view.Reads.Learnt
  pub view : OneBy sheets.specs.contracts.view.ended (λ κs r s. (r.now ≡ s.now) × ((r.now ≡ [] → ⊥) → r.ref_ptr ≡ s.ref_ptr)) sheets.proofs.view.Reads.Learnt
  -- run
  pub opening : One run.specs.contracts.Run.«open».ended run.proofs.Run.«open».Reads.Learnt
  pub is_sound : One run.specs.contracts.Run.is_sound.ended run.proofs.Run.is_sound.Reads.Learnt
  pub enter : One run.specs.contracts.Run.enter.ended run.proofs.Run.enter.Reads.Learnt
  pub turn : One run.specs.contracts.Run.turn.ended run.proofs.Run.turn.Reads.Learnt
  -- gaps
  pub gap_list : One gaps.specs.contracts.gap_list.ended gaps.proofs.gap_list.Reads.Learnt
  -- records
  pub read_record : One records.specs.contracts.read_record.ended records.proofs.read_record.Reads.Learnt
  pub read_in_schedule : One records.specs.contracts.read_in_schedule.ended records.proofs.read_in_schedule.Reads.Learnt
  pub field_of_two : One records.specs.contracts.field_of_two.ended records.proofs.field_of_two.Reads.Learnt
  pub field_of_four : One records.specs.contracts.field_of_four.ended records.proofs.field_of_four.Reads.Learnt
  pub size_of : One records.specs.contracts.size_of.ended records.proofs.size_of.Reads.Learnt
  pub write_record : One records.specs.contracts.write_record.ended records.proofs.write_record.Reads.Learnt
  -- schedule
  pub run : One schedule.specs.contracts.run.ended schedule.proofs.run.Reads.Learnt
  -- feed_sheet
  pub in_limits : One feed_sheet.specs.contracts.in_limits.ended feed_sheet.proofs.in_limits.Reads.Learnt
  pub is_unpaired : One feed_sheet.specs.contracts.is_unpaired.ended feed_sheet.proofs.is_unpaired.Reads.Learnt
  pub is_permutation : One feed_sheet.specs.contracts.is_permutation.ended feed_sheet.proofs.is_permutation.Reads.Learnt
  pub feed_check : One feed_sheet.specs.contracts.check.ended feed_sheet.proofs.check.Reads.Learnt
  pub fed_at : One feed_sheet.specs.contracts.fed_at.ended feed_sheet.proofs.fed_at.Reads.Learnt
  -- feeds
  pub feed_opening : One feeds.specs.contracts.FeedRun.«open».ended feeds.proofs.FeedRun.«open».Reads.Learnt
  pub feed_is_sound : One feeds.specs.contracts.FeedRun.is_sound.ended feeds.proofs.FeedRun.is_sound.Reads.Learnt
  pub feed_enter : One feeds.specs.contracts.FeedRun.enter.ended feeds.proofs.FeedRun.enter.Reads.Learnt
  pub feed_turn : One feeds.specs.contracts.FeedRun.turn.ended feeds.proofs.FeedRun.turn.Reads.Learnt
  -- feed_gaps
  pub feed_gap_list : One feed_gaps.specs.contracts.gap_list.ended feed_gaps.proofs.gap_list.Reads.Learnt
  -- panels
  pub panel : One panels.specs.contracts.read.ended panels.proofs.read.Reads.Learnt
  -- dials
  pub dial_opening : One dials.specs.contracts.Dial.«open».ended dials.proofs.Dial.«open».Reads.Learnt
  pub dial_advance : One dials.specs.contracts.Dial.advance.ended dials.proofs.Dial.advance.Reads.Learnt
  pub dial_poll : One dials.specs.contracts.Dial.poll.ended dials.proofs.Dial.poll.Reads.Learnt
  pub highest : One dials.specs.contracts.highest.ended dials.proofs.highest.Reads.Learnt
  -- small
  pub small_opening : One small.specs.contracts.Cabinet.«open».ended small.proofs.Cabinet.«open».Reads.Learnt
  pub small_enter : One small.specs.contracts.Cabinet.enter.ended small.proofs.Cabinet.enter.Reads.Learnt
  pub small_turn : One small.specs.contracts.Cabinet.turn.ended small.proofs.Cabinet.turn.Reads.Learnt
  pub small_poll : One small.specs.contracts.Cabinet.poll.ended small.proofs.Cabinet.poll.Reads.Learnt
  -- listing_text
  pub listing : One listing_text.specs.contracts.listing.ended listing_text.proofs.listing.Reads.Learnt
  -- trace_text
  pub trace : One trace_text.specs.contracts.trace.ended trace_text.proofs.trace.Reads.Learnt
  -- panel_text
  pub panel_text : One panel_text.specs.contracts.panel.ended panel_text.proofs.panel.Reads.Learnt
