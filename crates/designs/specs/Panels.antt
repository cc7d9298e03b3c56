-- Panels, and how they are put together (02, P3). Definitions only. Assumes nothing.
use Rattle.std.specs.Prelude.{ℕ, ◌+◌, ◌-◌, ◌*◌, cond, List, ltb, eqb, length, get_or}
use Rattle.network.specs.Widths.{depth_of}
use Rattle.network.specs.Rows.{place_of, rows}

-- Wire v of level L goes to `place L v`: below the depth that is 2c + s, inlet s of cell c of layer L, as in a sheet; at
-- level `depth` it is the exit.
pub record Panel : Type 0 where
  pub width : ℕ
  pub depth : ℕ
  pub place : ℕ → ℕ → ℕ

-- one cell, wires in order
abbrev pub cell : Panel
cell = record { width = 2; depth = 1; place = λ L v. v }

-- a named network: the rows of its sheet, and wire v of the last level is exit v
abbrev pub named : ℕ → ℕ → Panel
named w c = record { width = w; depth = depth_of w c; place = λ L v. cond (ltb L (depth_of w c)) (place_of w c L v) v }

-- a cross has no cells: byte v is where wire v goes
abbrev pub cross : List ℕ → Panel
cross places = record { width = length places; depth = 0; place = λ L v. get_or places v 0 }

-- p, then q: the exit row of p is put together with the first row of q
abbrev pub in_series : Panel → Panel → Panel
in_series p q = record {
  width = p.width;
  depth = p.depth + q.depth;
  place = λ L v. cond (ltb L p.depth) (p.place L v) (q.place (L - p.depth) (cond (eqb L p.depth) (p.place L v) v));
}

-- p and q side by side: the wires and the cells of p come first
abbrev pub side_by_side : Panel → Panel → Panel
side_by_side p q = record {
  width = p.width + q.width;
  depth = p.depth;
  place = λ L v. cond (ltb v p.width) (p.place L v) (p.width + q.place L (v - p.width));
}

-- the feed sheet: a row for each layer, and one for the exits
abbrev pub feed_length : Panel → ℕ
feed_length p = (p.depth + 1) * p.width

unfoldable pub feed_sheet : Panel → List ℕ
feed_sheet p = rows p.place p.width (p.depth + 1)
