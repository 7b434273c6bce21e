-- What is kept of rows, fences and patterns, as that of the definitions.
use Rattle.std.specs.Prelude.{[], ◌∷◌, map}
use Rattle.design_rules.specs.Surroundings.{Assignment, Fence, PlacedRow}
use Rattle.design_model.specs.Views.{rectangle_of}
use Rattle.place_kernels.specs.Views.{site_row_of}
use Rattle.place_checks.specs.declared.kept_assigned.KeptAssigned.{KeptAssigned}
use Rattle.place_checks.specs.declared.kept_assigned.KeptStarred.{KeptStarred}
use Rattle.place_checks.specs.declared.kept_fence.KeptFence.{KeptFence}
use Rattle.place_checks.specs.declared.kept_row.KeptRow.{KeptRow}

abbrev pub kept_row_view : {A : Type 0} → KeptRow A → PlacedRow
kept_row_view r = record { site = r.site; orient = r.orient; sites = site_row_of r.sites }

abbrev pub kept_fence_view : {A : Type 0} → KeptFence A → Fence
kept_fence_view f = record { name = f.name; rectangles = map rectangle_of f.rectangles }

abbrev pub kept_assigned_view : {A : Type 0} → KeptAssigned A → Assignment
kept_assigned_view a = record { region = a.region; patterns = a.pattern ∷ [] }

abbrev pub kept_starred_view : {A : Type 0} → KeptStarred A → Assignment
kept_starred_view a = record { region = a.region; patterns = a.pattern ∷ [] }
