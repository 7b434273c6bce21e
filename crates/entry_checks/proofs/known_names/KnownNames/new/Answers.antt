use Rattle.std.proofs.Common.{◌≡◌, true, None}
use Rattle.std.specs.Prelude.{IfSome}
use Rattle.std.proofs.lemmas.List.Elements.{All-replicate}
use Rattle.entry_checks.proofs.known_names.KnownNames.new.Goals as goal

pub returns : goal.returns
returns c is_known = All-replicate (λ o. IfSome o (λ name. is_known name.now ≡ true)) 32 None tt
