-- Rows of sites, and how boxes and orientations stand to them (LEF/DEF 5.8 Language Reference, "Rows").
use Rattle.std.specs.Prelude.{ℕ, Bool, ◌&&◌, ◌==◌, List, map, ℤ, pos, ◌+ℤ◌, ◌*ℤ◌}
use Rattle.std.specs.Ordering.{int_eq}
use Rattle.std.specs.Int.Signed.{le_z}
use Rattle.std.specs.List.{list_any, range_with_len}
use Rattle.design_model.specs.declared.geometry.Orient.{Orient}
use Rattle.design_model.specs.declared.geometry.Orient.TheVariants.{N, W, S, E, FN, FS, FW, FE}
use Rattle.design_model.specs.declared.geometry.Point.{Point}
use Rattle.design_model.specs.Geometry.{Rectangle}

-- a row, as it stands after its site was turned: the lower left corner of its first site, how many sites it has in x and in
-- y (one each where it has no DO), how far apart these are, which may be to the left or down, and a site's width and height
pub record SiteRow : Type 0 where
  pub origin : Point
  pub columns : ℕ
  pub rows : ℕ
  pub step : Point
  pub size : Point

-- numbers so far apart, from a first one on
abbrev pub places : ℤ → ℤ → ℕ → List ℤ
places first step count = map (λ i. first +ℤ (pos i *ℤ step)) (range_with_len 0 count)

-- the left edges of a row's sites, and the lower ones
abbrev pub left_edges : SiteRow → List ℤ
left_edges row = places row.origin.x row.step.x row.columns

abbrev pub lower_edges : SiteRow → List ℤ
lower_edges row = places row.origin.y row.step.y row.rows

-- a box reaches neither left of all sites of a row nor right of all
unfoldable pub spans : SiteRow → Rectangle → Bool
spans row box = list_any (λ x. le_z x box.x1) (left_edges row) && list_any (λ x. le_z box.x2 (x +ℤ row.size.x)) (left_edges row)

-- A row holds a box that stands on the lower edge of a site, and that its sites span.
unfoldable pub holds : SiteRow → Rectangle → Bool
holds row box = list_any (λ y. int_eq y box.y1) (lower_edges row) && spans row box

-- a box is on its sites where its left edge is that of a site
unfoldable pub is_on_sites : SiteRow → Rectangle → Bool
is_on_sites row box = list_any (λ x. int_eq x box.x1) (left_edges row)

-- the box of the site in a column and a line of the row, both counted from 0
abbrev pub site_box : SiteRow → ℕ → ℕ → Rectangle
site_box row i j =
    let x = row.origin.x +ℤ (pos i *ℤ row.step.x) in
    let y = row.origin.y +ℤ (pos j *ℤ row.step.y) in
    record { x1 = x; y1 = y; x2 = x +ℤ row.size.x; y2 = y +ℤ row.size.y }

-- how often an orientation turns by a quarter, counterclockwise, beside its flip
abbrev pub quarter_turns : Orient → ℕ
quarter_turns N = 0
quarter_turns W = 1
quarter_turns S = 2
quarter_turns E = 3
quarter_turns FN = 0
quarter_turns FW = 1
quarter_turns FS = 2
quarter_turns FE = 3

-- a row takes a component with as many quarter turns as its sites have, flipped or not
abbrev pub is_row_orient : Orient → Orient → Bool
is_row_orient row component = quarter_turns row == quarter_turns component

-- the width and height of a site after a turn
abbrev pub turned_size : Orient → Point → Point
turned_size N size = size
turned_size S size = size
turned_size FN size = size
turned_size FS size = size
turned_size _ size = record { x = size.y; y = size.x }

-- how far apart sites are where a row has no STEP: they touch
abbrev pub default_step : Orient → Point → Point
default_step orient size = turned_size orient size
