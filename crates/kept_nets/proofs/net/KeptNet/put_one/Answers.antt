use Rattle.std.proofs.Common.{rules, ◌≡◌, ◌∙◌, arith, subst, sym, length, map, ◌∷◌}
use Rattle.std.specs.Prelude.{IfSome}
use Rattle.std.proofs.lemmas.List.{length-map, map-append}
use Rattle.kept_nets.specs.Kept.{AreShapesOf, HangAs}
use Rattle.kept_nets.specs.Parts.{part_view}
use Rattle.kept_nets.proofs.Hanging.{known_alike}
use Rattle.kept_nets.proofs.Known.{at_some, pushed_behind, turned}
use Rattle.kept_nets.proofs.SureShapes.{more}
use Rattle.kept_nets.proofs.net.KeptNet.put_one.Goals as goal

pub invariant_of-self-2 : goal.invariant_of-self-2
invariant_of-self-2 g c =
    let old = c.self.inside.parts.items in
    let new = c.push-2.new.self.items in
    let part = part_view c.args.part in
    let behind = pushed_behind part_view old new c.args.part c.in_ok-push-2.ensures.items in
    let shapes = at_some (AreShapesOf (map part_view old)) c.self.inside.shapes c.in-Some.shapes (sym c.take.ensures.value ∙ c.in-Some.is) c.self.invariant.shapes_are in
    let classes = subst (λ o. IfSome o (HangAs (map part_view old))) (sym c.take-classes.ensures.value) c.self.invariant.classes_are in
    let size : length old ≡ c.len.result = search rules in
    record {
      shapes_are =
          rw (c.in_ok-push-2.ensures.items, map-append)
          (c.in_ok-shapes.ensures (map part_view old) (length-map old part_view ∙ size) shapes);
      classes_are =
          known_alike c.same_parts_are_alike.ensures (part ∷ map part_view old) (map part_view new) c.with_pin-self-inside.result (turned (map part_view new) (part ∷ map part_view old) behind)
          (c.with_pin-self-inside.ensures part (map part_view old) (rw c.deref.ensures.value at c.in_ok-joint.ensures.joint) classes);
      sure_are = more part (map part_view old) (map part_view new) c.self.inside.sure c.sure_in.result c.saturating_add-sure.result behind c.self.invariant.sure_are c.sure_in.ensures (let sum = c.saturating_add-sure.ensures in omega (arith, sum));
    }

pub returns-clause-put : goal.returns-clause-put
returns-clause-put g c = rw (← c.self.view_is) (pushed_behind part_view c.self.inside.parts.items c.push-2.new.self.items c.args.part c.in_ok-push-2.ensures.items)
