-- Worked rows of rows of sites.
use Rattle.std.proofs.Common.{◌≡◌, ℕ, [], ◌∷◌, true, false, ℤ, pos, refl}
use Rattle.std.specs.Prelude.{neg_ℤ}
use Rattle.design_model.specs.declared.geometry.Orient.TheVariants.{N, W, S, E, FN, FS, FW, FE}
use Rattle.design_model.specs.declared.geometry.Point.{Point}
use Rattle.design_model.specs.Geometry.{Rectangle}
use Rattle.place_rules.specs.Sites.{SiteRow, places, spans, holds, is_on_sites, site_box, is_row_orient, turned_size, default_step}

abbrev box : ℤ → ℤ → ℤ → ℤ → Rectangle
box x1 y1 x2 y2 = record { x1 = x1; y1 = y1; x2 = x2; y2 = y2 }

abbrev point : ℤ → ℤ → Point
point x y = record { x = x; y = y }

-- sites of 2 by 10 from (100, 50) on
abbrev row_of : ℕ → ℕ → ℤ → ℤ → SiteRow
row_of columns rows step_x step_y = record { origin = point (pos 100) (pos 50); columns = columns; rows = rows; step = point step_x step_y; size = point (pos 2) (pos 10) }

downward : places (pos 1) (neg_ℤ (pos 2)) 3 ≡ pos 1 ∷ neg_ℤ (pos 1) ∷ neg_ℤ (pos 3) ∷ []
downward = refl

last_site : site_box (row_of 4 2 (pos 3) (pos 12)) 3 1 ≡ box (pos 109) (pos 62) (pos 111) (pos 72)
last_site = refl

-- a box from the first site's left edge to the last one's right edge, and one of a unit more
whole_row : holds (row_of 4 1 (pos 2) (pos 0)) (box (pos 100) (pos 50) (pos 108) (pos 60)) ≡ true
unfolding holds spans
whole_row = refl

past_the_right : holds (row_of 4 1 (pos 2) (pos 0)) (box (pos 100) (pos 50) (pos 109) (pos 60)) ≡ false
unfolding holds spans
past_the_right = refl

past_the_left : holds (row_of 4 1 (pos 2) (pos 0)) (box (pos 99) (pos 50) (pos 104) (pos 60)) ≡ false
unfolding holds spans
past_the_left = refl

-- the height of a box is free, its lower edge isn't
high_box : holds (row_of 4 1 (pos 2) (pos 0)) (box (pos 101) (pos 50) (pos 103) (pos 80)) ≡ true
unfolding holds spans
high_box = refl

above_the_edge : holds (row_of 4 1 (pos 2) (pos 0)) (box (pos 100) (pos 51) (pos 102) (pos 60)) ≡ false
unfolding holds spans
above_the_edge = refl

-- sites that go to the left, and down
leftward : holds (row_of 4 2 (neg_ℤ (pos 2)) (neg_ℤ (pos 10))) (box (pos 94) (pos 40) (pos 102) (pos 50)) ≡ true
unfolding holds spans
leftward = refl

too_far_left : holds (row_of 4 2 (neg_ℤ (pos 2)) (neg_ℤ (pos 10))) (box (pos 93) (pos 40) (pos 95) (pos 50)) ≡ false
unfolding holds spans
too_far_left = refl

-- sites all at one place, and a row without sites
on_one_place : holds (row_of 4 3 (pos 0) (pos 0)) (box (pos 100) (pos 50) (pos 102) (pos 60)) ≡ true
unfolding holds spans
on_one_place = refl

no_columns : holds (row_of 0 1 (pos 2) (pos 0)) (box (pos 100) (pos 50) (pos 100) (pos 60)) ≡ false
unfolding holds spans
no_columns = refl

no_lines : holds (row_of 4 0 (pos 2) (pos 0)) (box (pos 100) (pos 50) (pos 102) (pos 60)) ≡ false
unfolding holds spans
no_lines = refl

third_site : is_on_sites (row_of 4 1 (pos 3) (pos 0)) (box (pos 106) (pos 0) (pos 110) (pos 9)) ≡ true
unfolding is_on_sites
third_site = refl

between_sites : is_on_sites (row_of 4 1 (pos 3) (pos 0)) (box (pos 105) (pos 0) (pos 110) (pos 9)) ≡ false
unfolding is_on_sites
between_sites = refl

past_the_last : is_on_sites (row_of 4 1 (pos 3) (pos 0)) (box (pos 112) (pos 0) (pos 115) (pos 9)) ≡ false
unfolding is_on_sites
past_the_last = refl

site_to_the_left : is_on_sites (row_of 4 1 (neg_ℤ (pos 3)) (pos 0)) (box (pos 91) (pos 0) (pos 92) (pos 9)) ≡ true
unfolding is_on_sites
site_to_the_left = refl

flipped : is_row_orient N FN ≡ true
flipped = refl

flipped_row : is_row_orient FS S ≡ true
flipped_row = refl

upside_down : is_row_orient N FS ≡ false
upside_down = refl

on_its_sides : is_row_orient W FE ≡ false
on_its_sides = refl

on_one_side : is_row_orient E FE ≡ true
on_one_side = refl

upright_site : turned_size FS (point (pos 2) (pos 10)) ≡ point (pos 2) (pos 10)
upright_site = refl

lying_site : turned_size FW (point (pos 2) (pos 10)) ≡ point (pos 10) (pos 2)
lying_site = refl

sites_that_touch : default_step E (point (pos 2) (pos 10)) ≡ point (pos 10) (pos 2)
sites_that_touch = refl
