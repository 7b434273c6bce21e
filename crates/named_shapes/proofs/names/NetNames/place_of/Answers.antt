use Rattle.named_shapes.proofs.NamedLists.{place_is}
use Rattle.named_shapes.proofs.names.NetNames.place_of.Goals as goal

pub returns : goal.returns
returns g c = rw (← c.self.view_is) (place_is c.args.name.now c.self.inside.names.keys c.get_index_of.result c.get_index_of.ensures.index)
