-- What shapes have in common with a cell.
use Rattle.std.proofs.Common.{◌≤◌, ℕ, Bool, true, false, ◌==◌, ℤ, arith, if◌then◌else◌}
use Rattle.std.specs.Int.{int_min, int_max}
use Rattle.std.proofs.Math.Nat.{mul-le-mul}
use Rattle.std.proofs.lemmas.Int.{ints, clamps}
use Rattle.std.proofs.lemmas.List.Sums.{sum_by-append, sum_by_push, sum_by-le}
use Rattle.design_model.specs.Geometry.{Rectangle}
use Rattle.lef_grammar.specs.Measures.{Shape}
use Rattle.measure_rules.specs.Density.{extent, area_of, common_area, area_on}
use Rattle.measure_laws.specs.DensityLaws.{AddedShapesAddTheirAreas, CommonIsInTheCell, DensitiesAddUp, DensitiesAreWithin}

pub added_shapes_add_their_areas : AddedShapesAddTheirAreas
added_shapes_add_their_areas ss s layer cell = sum_by_push (area_on layer cell) ss s

pub densities_add_up : DensitiesAddUp
densities_add_up ss ts layer cell = sum_by-append (area_on layer cell) ss ts

-- a stretch of another
narrower : (a b c d : ℤ) → extent (int_max a c) (int_min b d) ≤ extent a b
narrower a b c d = omega (arith, ints, clamps)

pub common_is_in_the_cell : CommonIsInTheCell
common_is_in_the_cell cell r = mul-le-mul (narrower cell.x1 cell.x2 r.x1 r.x2) (narrower cell.y1 cell.y2 r.y1 r.y2)

area_within : (layer : ℕ) (cell : Rectangle) (s : Shape) → area_on layer cell s ≤ area_of cell
area_within layer cell s = by (s.layer == layer)
  where
    by : (b : Bool) → (if b then common_area cell s.box else 0) ≤ area_of cell
    by true = common_is_in_the_cell cell s.box
    by false = omega arith

pub densities_are_within : DensitiesAreWithin
densities_are_within ss layer cell = sum_by-le (area_on layer cell) (area_of cell) ss (λ k d less. area_within layer cell _)
