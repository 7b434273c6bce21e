-- What components stand in, of the program as that of the definitions.
use Rattle.std.specs.Prelude.{map}
use Rattle.design_rules.specs.Surroundings.{Assignment, Fence, PlacedRow}
use Rattle.design_model.specs.Views.{rectangle_of}
use Rattle.place_parts.specs.GroupViews.{patterns_of}
use Rattle.place_kernels.specs.Views.{site_row_of}
use Rattle.place_checks.specs.declared.groups.Assignment as code_assignment
use Rattle.place_checks.specs.declared.placed_row.PlacedRow as code_row
use Rattle.place_checks.specs.declared.fence.Fence as code_fence

abbrev pub placed_row_view : code_row.PlacedRow → PlacedRow
placed_row_view r = record { site = r.site.now; orient = r.orient; sites = site_row_of r.sites }

abbrev pub fence_view : {A : Type 0} → code_fence.Fence A → Fence
fence_view f = record { name = f.name.now; rectangles = map rectangle_of f.rectangles }

abbrev pub assignment_view : code_assignment.Assignment → Assignment
assignment_view a = record { region = a.region.now; patterns = patterns_of a.patterns }
