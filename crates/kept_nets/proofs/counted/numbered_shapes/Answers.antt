use Rattle.std.proofs.Common.{rules, ◌≡◌, ◌∷◌, arith, length, refl, ap}
use Rattle.net_classes.proofs.PartHeads.{length_parts}
use Rattle.net_lists.specs.PartCuts.{part_view}
use Rattle.kept_nets.proofs.HeldParts.{next_numbered}
use Rattle.kept_nets.proofs.counted.numbered_shapes.Goals as goal

pub overflow_add-number : goal.overflow_add-number
overflow_add-number g c =
    let count = length_parts c.args.net.now.parts.now c.args.net.now.shapes.now in
    omega (arith, count, c.loop-part.invariant.1)

pub loop-part-preserved : goal.loop-part-preserved
loop-part-preserved g c =
    let step : c.loop-part.left ≡ part_view c.in-Some.part ∷ c.next.new.self = search rules in
    let counted = ap length step in (
      next_numbered c.loop-part.number c.in-Some.part.shapes.now c.loop-part.shapes.items c.push_placed.new.pushed.items c.loop-part.left c.next.new.self (part_view c.in-Some.part) _ c.in_ok-push_placed.ensures refl step c.loop-part.invariant.0,
      omega (arith, counted, c.loop-part.invariant.1),
    )
