use Rattle.std.proofs.Common.{None}
use Rattle.std.specs.Prelude.{IfSome}
use Rattle.std.proofs.lemmas.List.Elements.{All-replicate}
use Rattle.entry_checks.specs.FoundVias.{IsFound}
use Rattle.entry_checks.proofs.found_via.FoundVias.new.Goals as goal

pub returns : goal.returns
returns c d = record { each = All-replicate (λ o. IfSome o (IsFound d)) 32 None tt }
