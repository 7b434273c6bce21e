use Rattle.std.proofs.Common.{rules, ◌≡◌, ◌≤◌, ◌-◌, ◌∙◌, arith, length, refl, sym, subst, map, ◌∷◌}
use Rattle.std.specs.Prelude.{IfSome}
use Rattle.kept_nets.specs.Kept.{AreShapesOf, HangAs}
use Rattle.kept_nets.specs.Parts.{part_view}
use Rattle.kept_nets.proofs.Hanging.{known_alike}
use Rattle.kept_nets.proofs.Known.{at_none, at_some}
use Rattle.kept_nets.proofs.SureShapes.{sure_left}
use Rattle.kept_nets.proofs.Taken.{swapped, swapped_like}
use Rattle.kept_nets.proofs.net.KeptNet.take_one.Goals as goal

pub returns-in_default-shapes-clause-out : goal.returns-in_default-shapes-clause-out
returns-in_default-shapes-clause-out g c =
    let gone = c.swap_remove-gone in
    λ yes. rw (← c.self.view_is)
    (swapped_like part_view c.self.inside.parts.items gone.new.self.items c.in-Some.place gone.result (part_view c.args.part.now) (rw c.deref.ensures.value at c.in-Some.ensures.there) gone.ensures.value gone.ensures.items)

pub returns-in_default-2-clause-out : goal.returns-in_default-2-clause-out
returns-in_default-2-clause-out g c =
    let gone = c.swap_remove-gone in
    λ yes. rw (← c.self.view_is)
    (swapped_like part_view c.self.inside.parts.items gone.new.self.items c.in-Some.place gone.result (part_view c.args.part.now) (rw c.deref.ensures.value at c.in-Some.ensures.there) gone.ensures.value gone.ensures.items)

pub joint_of-requires : goal.joint_of-requires
joint_of-requires g c =
    let old = c.self.inside.parts.items in
    let gone = c.swap_remove-gone in
    let found = rw c.deref.ensures.value at c.in-Some.ensures.there in
    let shapes = at_some (AreShapesOf (map part_view old)) c.self.inside.shapes c.in-Some-shapes.shapes (sym c.take-shapes.ensures.value ∙ c.in-Some-shapes.is) c.self.invariant.shapes_are in
    let left = c.in_ok-shapes.ensures old found.0 (sym gone.ensures.value) (c.deref-2.ensures.value ∙ gone.ensures.items) shapes in
    rw (c.deref-3.ensures.value) (at_some (AreShapesOf (map part_view gone.new.self.items)) c.in_ok-shapes.field-0 c.in-Some-2.shapes c.in-Some-2.is (rw c.deref-2.ensures.value at left))

pub invariant_of-self-2 : goal.invariant_of-self-2
invariant_of-self-2 g c =
    let old = c.self.inside.parts.items in
    let gone = c.swap_remove-gone in
    let part = part_view gone.result in
    let size : c.len.result ≡ length gone.result.shapes.items = search rules in
    let less : c.saturating_sub-self-inside.result ≤ c.self.inside.sure - length gone.result.shapes.items = omega (arith, c.saturating_sub-self-inside.ensures, size) in
    let new = map part_view gone.new.self.items in
    let found = rw c.deref.ensures.value at c.in-Some.ensures.there in
    let shapes = at_some (AreShapesOf (map part_view old)) c.self.inside.shapes c.in-Some-shapes.shapes (sym c.take-shapes.ensures.value ∙ c.in-Some-shapes.is) c.self.invariant.shapes_are in
    let left = c.in_ok-shapes.ensures old found.0 (sym gone.ensures.value) (c.deref-2.ensures.value ∙ gone.ensures.items) shapes in
    let same = swapped part_view old c.in-Some.place gone.result part found.0 gone.ensures.value refl in
    let classes = subst (λ o. IfSome o (HangAs (map part_view old))) (sym c.take-classes.ensures.value) c.self.invariant.classes_are in
    record {
      shapes_are = at_some (AreShapesOf new) c.in_ok-shapes.field-0 c.in-Some-2.shapes c.in-Some-2.is (rw c.deref-2.ensures.value at left);
      classes_are =
          c.without_pin-self-inside.ensures part new (rw c.deref-3.ensures.value at c.in_ok-joint.ensures.joint)
          (known_alike c.same_parts_are_alike.ensures (map part_view old) (part ∷ new) c.take-classes.result (rw (gone.ensures.items) same) classes);
      sure_are = sure_left c.self.inside.parts.items gone.new.self.items c.in-Some.place gone.result c.self.inside.sure c.saturating_sub-self-inside.result found.0 gone.ensures.value gone.ensures.items c.self.invariant.sure_are less;
    }

pub invariant_of-self : goal.invariant_of-self
invariant_of-self g c =
    let found = rw c.deref.ensures.value at c.in-Some.ensures.there in
    let gone = c.swap_remove-gone in
    let size : c.len.result ≡ length gone.result.shapes.items = search rules in
    let less : c.saturating_sub-self-inside.result ≤ c.self.inside.sure - length gone.result.shapes.items = omega (arith, c.saturating_sub-self-inside.ensures, size) in
    record {
      shapes_are = at_none _ c.take-shapes.new.self c.take-shapes.ensures.after;
      classes_are = at_none _ c.take-classes.new.self c.take-classes.ensures.after;
      sure_are = sure_left c.self.inside.parts.items gone.new.self.items c.in-Some.place gone.result c.self.inside.sure c.saturating_sub-self-inside.result found.0 gone.ensures.value gone.ensures.items c.self.invariant.sure_are less;
    }

pub invariant_of-self-in_err-shapes : goal.invariant_of-self-in_err-shapes
invariant_of-self-in_err-shapes g c =
    let found = rw c.deref.ensures.value at c.in-Some.ensures.there in
    let gone = c.swap_remove-gone in
    let size : c.len.result ≡ length gone.result.shapes.items = search rules in
    let less : c.saturating_sub-self-inside.result ≤ c.self.inside.sure - length gone.result.shapes.items = omega (arith, c.saturating_sub-self-inside.ensures, size) in
    record {
      shapes_are = at_none _ c.take-shapes.new.self c.take-shapes.ensures.after;
      classes_are = at_none _ c.take-classes.new.self c.take-classes.ensures.after;
      sure_are = sure_left c.self.inside.parts.items gone.new.self.items c.in-Some.place gone.result c.self.inside.sure c.saturating_sub-self-inside.result found.0 gone.ensures.value gone.ensures.items c.self.invariant.sure_are less;
    }

pub invariant_of-self-in_default-2 : goal.invariant_of-self-in_default-2
invariant_of-self-in_default-2 g c =
    let found = rw c.deref.ensures.value at c.in-Some.ensures.there in
    let gone = c.swap_remove-gone in
    let size : c.len.result ≡ length gone.result.shapes.items = search rules in
    let less : c.saturating_sub-self-inside.result ≤ c.self.inside.sure - length gone.result.shapes.items = omega (arith, c.saturating_sub-self-inside.ensures, size) in
    record {
      shapes_are = at_none _ c.take-shapes.new.self c.take-shapes.ensures.after;
      classes_are = at_none _ c.take-classes.new.self c.take-classes.ensures.after;
      sure_are = sure_left c.self.inside.parts.items gone.new.self.items c.in-Some.place gone.result c.self.inside.sure c.saturating_sub-self-inside.result found.0 gone.ensures.value gone.ensures.items c.self.invariant.sure_are less;
    }

pub invariant_of-self-in_err-joint : goal.invariant_of-self-in_err-joint
invariant_of-self-in_err-joint g c =
    let found = rw c.deref.ensures.value at c.in-Some.ensures.there in
    let gone = c.swap_remove-gone in
    let size : c.len.result ≡ length gone.result.shapes.items = search rules in
    let less : c.saturating_sub-self-inside.result ≤ c.self.inside.sure - length gone.result.shapes.items = omega (arith, c.saturating_sub-self-inside.ensures, size) in
    record {
      shapes_are = at_none _ c.take-shapes.new.self c.take-shapes.ensures.after;
      classes_are = at_none _ c.take-classes.new.self c.take-classes.ensures.after;
      sure_are = sure_left c.self.inside.parts.items gone.new.self.items c.in-Some.place gone.result c.self.inside.sure c.saturating_sub-self-inside.result found.0 gone.ensures.value gone.ensures.items c.self.invariant.sure_are less;
    }

pub returns-clause-out : goal.returns-clause-out
returns-clause-out g c =
    let gone = c.swap_remove-gone in
    λ yes. rw (← c.self.view_is)
    (swapped_like part_view c.self.inside.parts.items gone.new.self.items c.in-Some.place gone.result (part_view c.args.part.now) (rw c.deref.ensures.value at c.in-Some.ensures.there) gone.ensures.value gone.ensures.items)
