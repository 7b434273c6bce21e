use Rattle.std.proofs.Common.{None}
use Rattle.std.specs.Prelude.{IfSome}
use Rattle.std.proofs.lemmas.List.Elements.{All-replicate}
use Rattle.place_checks.specs.Outlines.{IsOutlineOf}
use Rattle.place_checks.specs.declared.last_macros.FoundMacro.{FoundMacro}
use Rattle.place_checks.proofs.last_macros.LastMacros.new.Goals as goal

pub invariant_of-result : goal.invariant_of-result
invariant_of-result g c = record {
  each = All-replicate (λ o. IfSome o (λ (f : FoundMacro). IsOutlineOf c.args.library.now c.args.scale f.name.now f.outline)) 128 None tt;
  some = c.requires.some;
  few = c.requires.few;
}
