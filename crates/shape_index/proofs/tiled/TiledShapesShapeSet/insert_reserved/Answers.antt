use Rattle.std.proofs.Common.{◌≡◌, ◌∙◌, ℕ, arith, sym, ap}
use Rattle.shape_index.specs.Shapes.{Shapes}
use Rattle.shape_index.specs.Tiles.{key}
use Rattle.shape_index.proofs.SlabEntries.{id_of, slab_at, slab_added}
use Rattle.shape_index.proofs.OrderChanges.{place_from}
use Rattle.shape_index.proofs.Gapped.{after_put_in, length_full}
use Rattle.shape_index.proofs.tiled.TiledShapesShapeSet.insert_reserved.Goals as goal

pub put_in-requires-clause-room : goal.put_in-requires-clause-room
put_in-requires-clause-room g c = λ none. omega (arith, length_full c.self.inside.shapes c.self.inside.order.items c.self.invariant none, ap (λ (k : Shapes). k.spare) c.self.view_is, c.requires)

pub invariant_of-self : goal.invariant_of-self
invariant_of-self g c =
    let s = c.self.inside.shapes in
    let ids = c.self.inside.order.items in
    let n = c.insert_reserved.result in
    let p = c.first_from-place.result in
    let named : c.vacant_key.result ≡ n = c.vacant_key.ensures.value ∙ sym c.insert_reserved.ensures.key in
    let keyed = c.key_of-key.ensures.value ∙ ap (λ (m : ℕ). key (id_of m, c.args.shape)) named in
    let place = place_from s ids c.deref.result.now p c.key_of-key.result (id_of n, c.args.shape) c.deref.ensures.value keyed c.self.invariant.all_there c.first_from-place.ensures.within c.first_from-place.ensures.passed c.first_from-place.ensures.left in
    after_put_in s c.insert_reserved.new.self ids c.put_in.new.order.items n p c.args.shape c.self.invariant c.insert_reserved.ensures.updates c.insert_reserved.ensures.was_vacant place c.put_in.ensures.put

pub returns-clause-added : goal.returns-clause-added
returns-clause-added g c = rw (← c.self.view_is) (slab_added c.self.inside.shapes c.insert_reserved.new.self _ _ c.insert_reserved.ensures.updates c.insert_reserved.ensures.was_vacant)

pub returns-clause-free : goal.returns-clause-free
returns-clause-free g c = rw (← c.self.view_is) (sym (slab_at c.self.inside.shapes c.insert_reserved.result) ∙ c.insert_reserved.ensures.was_vacant)
