-- How one more pin hangs together with the parts of a net.
use Rattle.std.specs.Prelude.{◌≡◌, ℕ, Bool, true, false, List}
use Rattle.connection_rules.specs.NetParts.{Part}
use Rattle.class_laws.specs.OneMore.{IsAClass, IsInAClass}
use Rattle.kept_nets.specs.declared.joint.Joint.{Joint}
use Rattle.kept_nets.specs.declared.joint.Joint.TheVariants.{Alone, Open, Within}

-- whether it is known
abbrev pub is_known : Joint → Bool
is_known Alone = true
is_known Within = true
is_known Open = false

-- it is a pin, and a class by itself or in one of others; or nothing is said
abbrev pub HangsBy : Joint → Part → List Part → Type 0
HangsBy Alone p ps = (p.is_pin ≡ true) × IsAClass p ps
HangsBy Within p ps = (p.is_pin ≡ true) × IsInAClass p ps
HangsBy Open p ps = Unit {0}
