use Rattle.std.proofs.Common.{ap}
use Rattle.shape_index.specs.Shapes.{Shapes}
use Rattle.shape_index.proofs.SlabEntries.{slab_at}
use Rattle.shape_index.proofs.tiled.TiledShapesShapeSet.get.Goals as goal

pub returns : goal.returns
returns g c =
    let e = slab_at c.self.inside.shapes c.args.id.0 in
    let v = ap (λ (k : Shapes). k.entries) c.self.view_is in
    cc
