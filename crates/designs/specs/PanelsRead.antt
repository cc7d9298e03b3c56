-- What holds of every panel that is read (02, P3). The statements only; the proof is `panels_read` of proofs/Fair. Assumes nothing.
use Rattle.std.specs.Prelude.{ℕ, ◌%◌, ◌<◌, ◌≤◌, ◌≡◌, true, List, ◌++◌}
use Rattle.network.specs.Rows.{tabulate, sheet_of}
use Rattle.feed_sheet.specs.Limits.{permutation}
use Rattle.designs.specs.Panels.{Panel, named, feed_sheet}
use Rattle.designs.specs.Leaves.{made}
use Rattle.designs.specs.Designs.{design_of}

-- width 1 to 64, depth at most 36, an even width where there are cells, and each row, the exits' too, a permutation
pub record FairPanel (p : Panel) : Type 0 where
  pub some : 1 ≤ p.width
  pub wide : p.width ≤ 64
  pub deep : p.depth ≤ 36
  pub even : 0 < p.depth → p.width % 2 ≡ 0
  pub rows : (L : ℕ) → L ≤ p.depth → permutation (tabulate (p.place L) p.width) ≡ true

pub record PanelsRead : Type 0 where
  pub fair : (s : List ℕ) (p : Panel) → design_of s ≡ made p → FairPanel p
  -- the feed sheet of a named network: its sheet, and a row in order for the exits
  pub named_feeds : (w c : ℕ) → feed_sheet (named w c) ≡ sheet_of w c ++ tabulate (λ v. v) w
