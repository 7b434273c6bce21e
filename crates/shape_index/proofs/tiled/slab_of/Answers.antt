use Rattle.std.proofs.Common.{arith}
use Rattle.shape_index.proofs.AllListed.{one_put}
use Rattle.shape_index.proofs.tiled.slab_of.Goals as goal

pub loop-shape-preserved : goal.loop-shape-preserved
loop-shape-preserved g c = record {
  room = omega (arith, c.loop-shape.invariant.room, c.loop-shape-test.true, c.insert_reserved.ensures.len, c.insert_reserved.ensures.capacity);
  put = one_put c.loop-shape.slab c.insert_reserved.new.self c.insert_reserved.result c.loop-shape.shape-index c.shape-item.result c.args.shapes.now c.insert_reserved.ensures.updates c.insert_reserved.ensures.was_vacant c.loop-shape-test.true c.shape-item.is c.loop-shape.invariant.put;
}
