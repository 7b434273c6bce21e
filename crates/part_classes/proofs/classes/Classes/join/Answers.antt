use Rattle.part_classes.proofs.ForestLemmas.{below_length}
use Rattle.part_classes.proofs.classes.Classes.join.Goals as goal

pub join-requires-clause-first : goal.join-requires-clause-first
join-requires-clause-first g c = rw c.deref_mut.ensures.value (below_length c.self.inside.parents.items c.args.self.now c.args.a c.self.view_is c.requires.first)

pub join-requires-clause-second : goal.join-requires-clause-second
join-requires-clause-second g c = rw c.deref_mut.ensures.value (below_length c.self.inside.parents.items c.args.self.now c.args.b c.self.view_is c.requires.second)
