-- Surroundings in which each component has the same lines.
use Rattle.std.specs.Prelude.{◌≡◌}
use Rattle.design_rules.specs.Boxes.{Boxed}
use Rattle.design_rules.specs.PlaceLines.{fence_lines, row_lines}
use Rattle.design_rules.specs.Surroundings.{Surroundings}

-- their rows and their fences give each component the same lines, and they have one die
pub record HaveSameLines (s t : Surroundings) : Type 0 where
  pub rows : (c : Boxed) → row_lines s.rows c ≡ row_lines t.rows c
  pub die : s.die ≡ t.die
  pub fences : (c : Boxed) → fence_lines s c ≡ fence_lines t c
