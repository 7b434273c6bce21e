-- Rectangles as barriers.
use Rattle.std.specs.Prelude.{ℕ, Bool}
use Rattle.design_model.specs.Geometry.{Rectangle}
use Rattle.connection_rules.specs.NetLines.{Barrier}

abbrev pub as_barrier : ℕ → Bool → Rectangle → Barrier
as_barrier layer spares_power box = record { layer = layer; box = box; spares_power = spares_power }
