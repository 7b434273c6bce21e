-- Rows of sites and patterns of the program as those of the definitions.
use Rattle.std.specs.Prelude.{ℕ, List, ◌∷◌, ◌++◌}
use Rattle.design_model.specs.Geometry.{IsNear}
use Rattle.place_rules.specs.Patterns.{star}
use Rattle.place_rules.specs.Sites.{SiteRow}
use Rattle.place_kernels.specs.declared.patterns.StarredPattern.{StarredPattern}
use Rattle.place_kernels.specs.declared.sites.SiteRow as code

abbrev pub site_row_of : code.SiteRow → SiteRow
site_row_of row = record { origin = row.origin; columns = row.columns; rows = row.rows; step = row.step; size = row.size }

-- each number that says where a site stands in x, or in y, is near
pub record IsNearRow (row : SiteRow) : Type 0 where
  pub x : IsNear row.origin.x
  pub y : IsNear row.origin.y
  pub step_x : IsNear row.step.x
  pub step_y : IsNear row.step.y
  pub width : IsNear row.size.x

abbrev pub starred_pattern : StarredPattern → List ℕ
starred_pattern p = p.front.now ++ (star ∷ p.after.now)
