-- Vias that were looked up by their names.
use Rattle.std.specs.Prelude.{◌≡◌, None, IfSome, MatchOption}
use Rattle.std.specs.List.{All}
use Rattle.entry_checks.specs.Definitions.{Definitions, layers_in}
use Rattle.entry_checks.specs.JoinedLayers.{JoinsThose}
use Rattle.entry_checks.specs.declared.found_via.FoundVia.{FoundVia}
use Rattle.entry_checks.specs.declared.found_via.FoundVias.{FoundVias}

-- it joins the layers of the via of its name, or there is none of this name
abbrev pub IsFound : Definitions → FoundVia → Type 0
IsFound d via = MatchOption via.joined (layers_in d via.name.now ≡ None) (λ joined. JoinsThose d.library joined (layers_in d via.name.now))

pub record AreFound (d : Definitions) (vias : FoundVias) : Type 0 where
  pub each : All (λ o. IfSome o (IsFound d)) vias.slots
