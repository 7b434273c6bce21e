use Rattle.std.proofs.Common.{arith}
use Rattle.kept_lines.proofs.PlaceLemmas.{place_within, removed_in, removed_texts}
use Rattle.kept_lines.proofs.kept.KeptLines.take.Goals as goal

pub remove-requires : goal.remove-requires
remove-requires g c =
    let within = place_within c.self.inside.lines.items c.args.line.now _ (rw (← c.self.view_is) at c.place-place.ensures) c.self.invariant (rw (← c.self.view_is) at c.requires) in
    omega (arith, within)

pub invariant_of-self : goal.invariant_of-self
invariant_of-self g c = removed_in _ _ _ c.remove.ensures.items c.self.invariant

pub returns-clause-taken : goal.returns-clause-taken
returns-clause-taken g c =
    rw (← c.self.view_is) (removed_texts _ _ c.args.line.now _ c.remove.ensures.items (rw (← c.self.view_is) at c.place-place.ensures) c.self.invariant (rw (← c.self.view_is) at c.requires))
