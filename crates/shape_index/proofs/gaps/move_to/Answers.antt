use Rattle.std.proofs.Common.{◌<◌, inl, inr}
use Rattle.shape_index.proofs.Gapped.{moved_before, moved_behind}
use Rattle.shape_index.proofs.gaps.move_to.Goals as goal

pub returns-then-freed-place-clause-moved : goal.returns-then-freed-place-clause-moved
returns-then-freed-place-clause-moved c =
    let low : c.args.freed < c.args.place = c.if-freed-place.true in
    let by = c.copy_within.ensures.by_index in
    inl (low, moved_before c.args.order.now c.copy_within.new.self c.args.freed c.args.place c.args.id low c.requires.within c.copy_within.ensures.len by.0 by.1 by.2)

pub returns-else-freed-place-clause-moved : goal.returns-else-freed-place-clause-moved
returns-else-freed-place-clause-moved c =
    let by = c.copy_within-else-freed-place.ensures.by_index in
    inr (c.if-freed-place.false, moved_behind c.args.order.now c.copy_within-else-freed-place.new.self c.args.freed c.args.place c.args.id c.if-freed-place.false c.requires.freed c.copy_within-else-freed-place.ensures.len by.0 by.1 by.2)
