-- The shape of a set that is the same as one that is sought.
use Rattle.std.proofs.Common.{◌≡◌, ◌<◌, ℕ, ℤ, Bool, true, ◌&&◌, List, Option, Some, None, refl, sym, ap, ◌∙◌, subst, arith, get_or, length}
use Rattle.std.specs.Prelude.{◌==◌, ◌≤◌, ◌↔◌, IfSome, IfNone, slice_get}
use Rattle.std.specs.List.{All, Contains}
use Rattle.std.specs.Ordering.{int_eq}
use Rattle.std.proofs.lemmas.Cmp.{int_eq_equiv}
use Rattle.std.proofs.lemmas.Bool.{and_parts}
use Rattle.std.proofs.lemmas.Int.{ints}
use Rattle.std.proofs.lemmas.List.Elements.{All-map, All-weaker, All-contains}
use Rattle.std.proofs.lemmas.Option.{get_or_from_slice_get, slice_get_within}
use Rattle.slab.specs.Slab.{Slab, entries, get}
use Rattle.design_model.specs.Geometry.{Rectangle}
use Rattle.design_model.specs.declared.identifier.ShapeId.{ShapeId}
use Rattle.shape_index.specs.declared.shape.Shape.{Shape}
use Rattle.shape_index.specs.declared.tile.TileKey.{TileKey}
use Rattle.shape_index.specs.Shapes.{AreSame, at, numbered}
use Rattle.shape_index.specs.Tiles.{key}
use Rattle.shape_index.specs.TileOrder.{AreInOrder, Before, IsOrderOf, OneTile, listed}
use Rattle.shape_index.proofs.AllListed.{Stands, all_stand}
use Rattle.shape_index.proofs.Listed.{of_slab}
use Rattle.shape_index.proofs.OrderChanges.{entry_at, stands_in}
use Rattle.shape_index.proofs.SlabEntries.{id_of, slab_at}

abbrev Entry : Type 0
Entry = ShapeId × Shape

same_ints : (a b : ℤ) → int_eq a b ≡ true → a ≡ b
same_ints a b h = grind (arith, ints, h)

same_tested : (a b : ℤ) → a ≡ b → int_eq a b ≡ true
same_tested a b h = rw h (int_eq_equiv.refl b)

-- the test that compares field by field
abbrev pub test : Shape → Shape → Bool
test a b =
    (a.layer.0 == b.layer.0) && ((int_eq a.rect.x1 b.rect.x1 && (int_eq a.rect.y1 b.rect.y1 && (int_eq a.rect.x2 b.rect.x2 && int_eq a.rect.y2 b.rect.y2))) && (a.net == b.net))

pub test_is : (a b : Shape) → (test a b ≡ true) ↔ AreSame a b
test_is a b = (
  λ h.
      let layer = and_parts (a.layer.0 == b.layer.0) _ h in
      let net = and_parts _ (a.net == b.net) layer.1 in
      let x1 = and_parts (int_eq a.rect.x1 b.rect.x1) _ net.0 in
      let y1 = and_parts (int_eq a.rect.y1 b.rect.y1) _ x1.1 in
      let x2 = and_parts (int_eq a.rect.x2 b.rect.x2) (int_eq a.rect.y2 b.rect.y2) y1.1 in
      record {
        layer = grind (arith, layer.0);
        rect = rw (
          same_ints a.rect.x1 b.rect.x1 x1.0,
          same_ints a.rect.y1 b.rect.y1 y1.0,
          same_ints a.rect.x2 b.rect.x2 x2.0,
          same_ints a.rect.y2 b.rect.y2 x2.1,
        ) refl;
        net = grind (arith, net.1);
      },
  λ s.
      let layer : (a.layer.0 == b.layer.0) ≡ true = let e = s.layer in grind (arith, e) in
      let net : (a.net == b.net) ≡ true = let e = s.net in grind (arith, e) in
      let x1 = same_tested a.rect.x1 b.rect.x1 (ap (λ (r : Rectangle). r.x1) s.rect) in
      let y1 = same_tested a.rect.y1 b.rect.y1 (ap (λ (r : Rectangle). r.y1) s.rect) in
      let x2 = same_tested a.rect.x2 b.rect.x2 (ap (λ (r : Rectangle). r.x2) s.rect) in
      let y2 = same_tested a.rect.y2 b.rect.y2 (ap (λ (r : Rectangle). r.y2) s.rect) in
      rw (layer, x1, y1, x2, y2, net) refl,
)

-- shapes that are the same stand under one tile
same_tile : (a b : Entry) → AreSame a.1 b.1 → OneTile (key a) (key b)
same_tile a b s = rw (
  s.layer,
  ap (λ (r : Rectangle). r.x1) s.rect,
  ap (λ (r : Rectangle). r.y1) s.rect,
  ap (λ (r : Rectangle). r.x2) s.rect,
  ap (λ (r : Rectangle). r.y2) s.rect,
) (refl, refl, refl, refl)

-- what stands between two keys of one tile is of that tile
between : (t a b : TileKey) → ¬ Before a t → ¬ Before b a → OneTile b t → OneTile a t
between t a b h k same = grind (arith, same)

-- a shape that is sought isn't behind an entry of another tile, where its tile isn't before that
pub none_behind : (es : List Entry) (i k : ℕ) (e d : Entry) (x : Shape) (a t : TileKey) → AreInOrder es → Some e ≡ slice_get es i → a ≡ key e → t ≡ key (id_of 0, x) → ¬ OneTile a t
    → ¬ Before (key (get_or es i d)) t → i ≤ k → k < length es → ¬ AreSame (get_or es k d).1 x
none_behind es i k e d x a t sorted there of_entry of_sought other left from below same =
    let here : key (get_or es i d) ≡ a = ap key (get_or_from_slice_get es i e d (sym there)) ∙ sym of_entry in
    let under : OneTile (key (get_or es k d)) t = subst (λ (u : TileKey). OneTile (key (get_or es k d)) u) (sym of_sought) (same_tile (get_or es k d) (id_of 0, x) same) in
    let not_before : ¬ Before a t = subst (λ (u : TileKey). ¬ Before u t) here left in
    let not_behind : ¬ Before (key (get_or es k d)) a = subst (λ (u : TileKey). ¬ Before (key (get_or es k d)) u) here (sorted i k d from below) in
    other (between t a (key (get_or es k d)) not_before not_behind under)

-- what stands at a place is an entry
pub entry_there : (es : List Entry) (i : ℕ) (e : Entry) → Some e ≡ slice_get es i → Contains es e
entry_there es i e there = (i, slice_get_within es i e (sym there), get_or_from_slice_get es i e e (sym there))

-- what is found stands under its number
pub found_same : (s : Slab Shape) (ids : List ShapeId) (x : Shape) (r : Option ShapeId) → IfSome r (λ id. (y : Shape) × Contains (listed s ids) (id, y) × AreSame y x)
    → IfSome r (λ id. (y : Shape) × (at id (numbered (entries s)) ≡ Some y) × AreSame y x)
found_same s ids x None f = tt
found_same s ids x (Some id) f = (f.0, sym (slab_at s id.0) ∙ All-contains (λ (e : Entry). get s e.0.0 ≡ Some e.1) (listed s ids) (id, f.0) (of_slab s ids) f.1, f.2)

-- none in the order is none at all
pub none_same : (s : Slab Shape) (ids : List ShapeId) (x : Shape) (r : Option ShapeId) → IsOrderOf s ids → IfNone r (All (λ e. ¬ AreSame e.1 x) (listed s ids)) → IfNone r (All (λ e. ¬ AreSame e.1 x) (numbered (entries s)))
none_same s ids x None o none =
    All-map (λ (e : Entry). ¬ AreSame e.1 x) (λ (e : ℕ × Shape). (id_of e.0, e.1)) (entries s) (All-weaker (Stands s) (λ (e : ℕ × Shape). ¬ AreSame e.1 x) (λ e is same.
    let place = stands_in s ids e.0 e.1 o is in
    let there = entry_at s ids e.0 place.place e.1 is place.below (place.is (id_of e.0, e.1)) in
    none place.place (id_of e.0, e.1) place.below (subst (λ (f : Entry). AreSame f.1 x) (sym there) same)) (entries s) (all_stand s))
none_same s ids x (Some id) o none = tt
