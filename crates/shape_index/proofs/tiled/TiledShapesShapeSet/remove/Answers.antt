use Rattle.std.proofs.Common.{rules, ◌≡◌, ◌≤◌, ◌∙◌, Some, None, ap, sym, arith, vec_capacity}
use Rattle.slab.specs.Slab.{get, slab_len}
use Rattle.shape_index.specs.Shapes.{Shapes}
use Rattle.shape_index.proofs.SlabEntries.{slab_at, slab_removed}
use Rattle.shape_index.proofs.Gapped.{length_least, room_back}
use Rattle.shape_index.proofs.OrderChanges.{after_remove, found_in, place_from}
use Rattle.shape_index.proofs.tiled.TiledShapesShapeSet.remove.Goals as goal

pub returns-in_err-shape-clause-value : goal.returns-in_err-shape-clause-value
returns-in_err-shape-clause-value g c =
    let none : get c.self.inside.shapes c.args.id.0 ≡ None = search rules in
    let e = slab_at c.self.inside.shapes c.args.id.0 in
    let v = ap (λ (k : Shapes). k.entries) c.self.view_is in
    search rules

pub take_out-requires : goal.take_out-requires
take_out-requires g c =
    let s = c.self.inside.shapes in
    let ids = c.self.inside.order.items in
    let is : get s c.args.id.0 ≡ Some c.in_ok-shape.shape = search rules in
    let place = place_from s ids c.deref.result.now c.first_from-place.result c.key_of.result (c.args.id, c.in_ok-shape.shape) c.deref.ensures.value c.key_of.ensures.value c.self.invariant.all_there c.first_from-place.ensures.within c.first_from-place.ensures.passed c.first_from-place.ensures.left in
    let found = found_in s ids c.args.id.0 c.first_from-place.result c.in_ok-shape.shape c.self.invariant is place in
    omega (arith, found.below, c.self.invariant.all_there)

pub invariant_of-self : goal.invariant_of-self
invariant_of-self g c =
    let s = c.self.inside.shapes in
    let ids = c.self.inside.order.items in
    let is : get s c.args.id.0 ≡ Some c.in_ok-shape.shape = search rules in
    let place = place_from s ids c.deref.result.now c.first_from-place.result c.key_of.result (c.args.id, c.in_ok-shape.shape) c.deref.ensures.value c.key_of.ensures.value c.self.invariant.all_there c.first_from-place.ensures.within c.first_from-place.ensures.passed c.first_from-place.ensures.left in
    let out = c.take_out.ensures.taken in
    out.2 c.try_remove.new.self (after_remove s c.try_remove.new.self ids c.args.id.0 c.first_from-place.result out.0 c.in_ok-shape.shape c.self.invariant c.try_remove.ensures.updates is place out.1)

pub returns-clause-value : goal.returns-clause-value
returns-clause-value g c = rw (← c.self.view_is) (c.try_remove.ensures.value ∙ slab_at c.self.inside.shapes c.args.id.0)

pub returns-clause-removed : goal.returns-clause-removed
returns-clause-removed g c = rw (← c.self.view_is) (slab_removed c.self.inside.shapes c.try_remove.new.self c.args.id.0 _ c.try_remove.ensures.updates c.try_remove.ensures.value)

pub returns-clause-room : goal.returns-clause-room
returns-clause-room g c =
    let s = c.self.inside.shapes in
    let order = c.self.inside.order in
    let within : slab_len s ≤ vec_capacity order = omega (arith, length_least s order.items c.self.invariant, order.ok.0, order.ok.1) in
    room_back c.try_remove.result s.capacity c.try_remove.new.self.capacity (slab_len s) (slab_len c.try_remove.new.self) (vec_capacity order) (vec_capacity c.take_out.new.order) c.args.self.now.spare c.try_remove.ensures.len c.try_remove.ensures.room c.try_remove.ensures.capacity c.take_out.ensures.capacity within (ap (λ (k : Shapes). k.spare) (sym c.self.view_is))
