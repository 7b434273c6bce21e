-- The lines of a component and fences, by the regions that it is assigned to.
use Rattle.std.specs.Prelude.{ℕ, Bool, List, [], flat_map, if◌then◌else◌}
use Rattle.std.specs.List.{list_any}
use Rattle.design_model.specs.declared.diagnostic.DiagKind.TheVariants as kinds
use Rattle.design_model.specs.Geometry.{overlap}
use Rattle.place_rules.specs.Covering.{is_covered}
use Rattle.design_rules.specs.Boxes.{Boxed}
use Rattle.design_rules.specs.PlaceLines.{fence_line, is_one_of}
use Rattle.design_rules.specs.Surroundings.{Fence}

-- of one fence, by whether it is assigned to it
abbrev pub fence_lines_by : Bool → Boxed → Fence → List (List ℕ)
fence_lines_by assigned c f =
    if assigned then (if is_covered c.box f.rectangles then [] else fence_line kinds.Fence c f.name)
    else (if list_any (overlap c.box) f.rectangles then fence_line kinds.Intruder c f.name else [])

abbrev pub fence_lines_in : List (List ℕ) → Boxed → List Fence → List (List ℕ)
fence_lines_in regions c all = flat_map (λ (f : Fence). fence_lines_by (is_one_of regions f.name) c f) all
