-- Database units per micron.
use Rattle.std.specs.Prelude.{ℕ}
use Rattle.design_wires.specs.declared.scale.Scale.{Scale}

abbrev pub units_of : Scale → ℕ
units_of s = s.per_micron
