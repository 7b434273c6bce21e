-- Barriers and names of layers as values of the definitions.
use Rattle.std.specs.Prelude.{ℕ, List, [], slice_index_or}
use Rattle.design_model.specs.Views.{rectangle_of}
use Rattle.connection_rules.specs.NetLines as net_lines
use Rattle.net_touches.specs.declared.barrier.Barrier.{Barrier}

abbrev pub barrier_view : Barrier → net_lines.Barrier
barrier_view b = record { layer = b.layer.0; box = rectangle_of b.rect; spares_power = b.spares_power }

-- the name at a place, and an empty one where there is none
abbrev pub name_at : List (List ℕ) → ℕ → List ℕ
name_at names n = slice_index_or names n []
