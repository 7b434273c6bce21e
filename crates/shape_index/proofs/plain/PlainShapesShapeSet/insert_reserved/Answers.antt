use Rattle.std.proofs.Common.{sym, ◌∙◌}
use Rattle.shape_index.proofs.SlabEntries.{slab_at, slab_added}
use Rattle.shape_index.proofs.plain.PlainShapesShapeSet.insert_reserved.Goals as goal

pub returns-clause-added : goal.returns-clause-added
returns-clause-added g c = slab_added c.args.self.now.shapes c.insert_reserved.new.self _ _ c.insert_reserved.ensures.updates c.insert_reserved.ensures.was_vacant

pub returns-clause-free : goal.returns-clause-free
returns-clause-free g c = sym (slab_at c.args.self.now.shapes c.insert_reserved.result) ∙ c.insert_reserved.ensures.was_vacant
