-- The places of an array that are left, step by step.
use Rattle.std.proofs.Common.{◌≡◌, ℕ, zero, suc, ◌-◌, ◌<◌, List, [], ◌∷◌, ◌++◌, flat_map, ℤ, pos, ◌+ℤ◌, refl, ap, arith, Option, Some, None}
use Rattle.design_model.specs.declared.geometry.Point.{Point}
use Rattle.wire_rules.specs.Paths.{line_of}
use Rattle.wire_shapes.specs.PlacesLeft.{GivesPlace}

pub point_is : (p : Point) (x y : ℤ) → p.x ≡ x → p.y ≡ y → p ≡ record { x = x; y = y }
point_is p x y left low = rw (← left, ← low) refl

behind : (n : ℕ) → suc n - 1 ≡ n
behind n = omega arith

pub line_step : (n : ℕ) (step at there : Point) → 0 < n → there ≡ record { x = at.x +ℤ step.x; y = at.y +ℤ step.y } → line_of n step at ≡ at ∷ line_of (n - 1) step there
unfolding line_of
line_step zero step at there some e = absurd (omega arith)
line_step (suc n) step at there some e = rw (e, behind n) refl

pub row_step : (in_row rows columns : ℕ) (across up at row there : Point) → in_row ≡ 0 → 0 < rows → there ≡ record { x = row.x +ℤ up.x; y = row.y +ℤ up.y }
    → line_of columns across row ++ flat_map (line_of columns across) (line_of (rows - 1) up there)
    ≡ line_of in_row across at ++ flat_map (line_of columns across) (line_of rows up row)
unfolding line_of
row_step in_row rows columns across up at row there done some e = rw (done, line_step rows up row there some e) refl

pub no_row : (in_row rows columns : ℕ) (across up at row : Point) → in_row ≡ 0 → rows ≡ 0
    → line_of in_row across at ++ flat_map (line_of columns across) (line_of rows up row) ≡ []
unfolding line_of
no_row in_row rows columns across up at row done none = rw (done, none) refl

-- the first row of an array is entered before its first place is given
pub all_left : (rows columns : ℕ) (step across up at : Point) → across ≡ record { x = step.x; y = pos 0 } → up ≡ record { x = pos 0; y = step.y }
    → line_of 0 across at ++ flat_map (line_of columns across) (line_of rows up at)
    ≡ flat_map (line_of columns (record { x = step.x; y = pos 0 })) (line_of rows (record { x = pos 0; y = step.y }) at)
unfolding line_of
all_left rows columns step across up at x y = rw (x, y) refl

first_in_line : (n : ℕ) (step at : Point) → 0 < n → (tail : List Point) × (line_of n step at ≡ at ∷ tail)
first_in_line n step at some = (line_of (n - 1) step (record { x = at.x +ℤ step.x; y = at.y +ℤ step.y }), line_step n step at _ some refl)

-- the first place of an array is its point
first_place : (columns rows : ℕ) (across up at : Point) → 0 < columns → 0 < rows
    → (tail : List Point) × (flat_map (line_of columns across) (line_of rows up at) ≡ at ∷ tail)
first_place columns rows across up at some lines =
    let row = first_in_line rows up at lines in
    let place = first_in_line columns across at some in
    (place.0 ++ flat_map (line_of columns across) row.0, rw (row.1) (ap (λ (z : List Point). z ++ flat_map (line_of columns across) row.0) place.1))

pub after_first : (columns rows : ℕ) (across up at : Point) (all left : List Point) (found : Option Point) → 0 < columns → 0 < rows
    → all ≡ flat_map (line_of columns across) (line_of rows up at) → GivesPlace all found left → flat_map (line_of columns across) (line_of rows up at) ≡ at ∷ left
after_first columns rows across up at all left None some lines is gives =
    let first = first_place columns rows across up at some lines in
    let e = first.1 in
    let g = gives.0 in
    cc
after_first columns rows across up at all left (Some p) some lines is gives =
    let first = first_place columns rows across up at some lines in
    let e = first.1 in
    let g = gives.0 in
    cc
