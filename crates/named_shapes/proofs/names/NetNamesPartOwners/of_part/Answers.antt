use Rattle.named_shapes.proofs.NamedLists.{owner_is}
use Rattle.named_shapes.proofs.names.NetNamesPartOwners.of_part.Goals as goal

pub returns : goal.returns
returns g c = owner_is c.args.number c.in_ok-name.name.now c.args.self.now c.in_ok-name.ensures
