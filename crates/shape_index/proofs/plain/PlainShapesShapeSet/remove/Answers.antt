use Rattle.std.proofs.Common.{◌∙◌}
use Rattle.shape_index.proofs.SlabEntries.{slab_at, slab_removed}
use Rattle.shape_index.proofs.plain.PlainShapesShapeSet.remove.Goals as goal

pub returns-clause-value : goal.returns-clause-value
returns-clause-value g c = c.try_remove.ensures.value ∙ slab_at c.args.self.now.shapes c.args.id.0

pub returns-clause-removed : goal.returns-clause-removed
returns-clause-removed g c = slab_removed c.args.self.now.shapes c.try_remove.new.self c.args.id.0 _ c.try_remove.ensures.updates c.try_remove.ensures.value
