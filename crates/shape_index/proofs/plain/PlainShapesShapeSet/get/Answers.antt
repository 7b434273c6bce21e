use Rattle.shape_index.proofs.SlabEntries.{slab_at}
use Rattle.shape_index.proofs.plain.PlainShapesShapeSet.get.Goals as goal

pub returns : goal.returns
returns g c = let e = slab_at c.args.self.now.shapes c.args.id.0 in cc
