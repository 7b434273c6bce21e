-- What a search by tiles passes over.
use Rattle.std.proofs.Common.{◌≡◌, ◌≤◌, ◌<◌, ◌+◌, ◌-◌, ◌/◌, ℕ, ℤ, zero, suc, Bool, true, false, cond, ◌&&◌, List, [], ◌∷◌, Some, None, length, get_or, drop, filter, refl, sym, ap, ◌∙◌, subst, arith, inl, inr}
use Rattle.std.specs.Prelude.{◌==◌, slice_get, nat_le}
use Rattle.std.specs.List.{FoldsTo}
use Rattle.std.proofs.lemmas.Bool.{cases_lt, and_parts, and_from}
use Rattle.std.proofs.lemmas.List.Sums.{sum_by-cons}
use Rattle.std.proofs.lemmas.Option.{get_or_from_slice_get}
use Rattle.design_model.specs.declared.geometry.Rect.{Rect}
use Rattle.design_model.specs.declared.identifier.LayerId.{LayerId}
use Rattle.design_model.specs.declared.identifier.ShapeId.{ShapeId}
use Rattle.design_model.specs.Views.{rectangle_of}
use Rattle.shape_index.specs.declared.shape.Shape.{Shape}
use Rattle.shape_index.specs.declared.tile.TileKey.{TileKey}
use Rattle.shape_index.specs.declared.tile.Step.TheVariants.{From, End}
use Rattle.shape_index.specs.Shapes.{is_met}
use Rattle.shape_index.specs.Tiles.{key, is_near, is_within, near_count, offset, size_of, side}
use Rattle.shape_index.specs.TileOrder.{Before, AreInOrder, IsNear, Leads, once}
use Rattle.orient_geom.proofs.SharedPoints.{bounds}
use Rattle.shape_index.proofs.Listed.{OneKey}
use Rattle.shape_index.proofs.MetSteps.{met_fewer as fewer}
use Rattle.shape_index.proofs.Repeats.{Changes, IsEntryRun, once_at_run, skipped, fewer_later}
use Rattle.shape_index.proofs.TileSizes.{offset_rises, offset_below, least_some, lower, ends_next}

abbrev Entry : Type 0
Entry = ShapeId × Shape

-- a shape that meets a rectangle stands under a tile near it
pub near_of_met : (layer : LayerId) (r : Rect) (e : Entry) → is_met layer r e ≡ true → IsNear layer r (key e)
near_of_met layer r e h =
    let parts = and_parts (e.1.layer.0 == layer.0) _ h in
    let m = bounds (rectangle_of e.1.rect) (rectangle_of r) parts.1 in
    let size = size_of e.1.rect in
    let some = least_some (side e.1.rect) in
    record {
      on = grind (arith, parts.0);
      left = omega (arith, lower (offset r.x1) (offset e.1.rect.x2) size some (offset_rises _ _ m.right), ends_next (offset e.1.rect.x1) (offset e.1.rect.x2) (side e.1.rect) (omega arith) (offset_below _));
      right = lower (offset e.1.rect.x1) (offset r.x2) size some (offset_rises _ _ m.left);
      below = omega (arith, lower (offset r.y1) (offset e.1.rect.y2) size some (offset_rises _ _ m.above), ends_next (offset e.1.rect.y1) (offset e.1.rect.y2) (side e.1.rect) (omega arith) (offset_below _));
      above = lower (offset e.1.rect.y1) (offset r.y2) size some (offset_rises _ _ m.below);
    }

far : (layer : LayerId) (r : Rect) (e : Entry) → ¬ IsNear layer r (key e) → is_met layer r e ≡ false
far layer r e n =
    elim (is_met layer r e) as (λ b. is_met layer r e ≡ b → b ≡ false) [
      | true ↦ λ h. absurd (n (near_of_met layer r e h))
      | false ↦ λ h. refl
    ] refl

test_of : (a b : ℕ) → a ≤ b → nat_le a b ≡ true
test_of a b h = grind (arith, h)

within_is : (s : ℕ) (low high z : ℤ) → offset low / s ≤ offset z / s + 1 → offset z / s ≤ offset high / s → is_within s low high z ≡ true
within_is s low high z h k = and_from (nat_le (offset low / s) (offset z / s + 1)) (nat_le (offset z / s) (offset high / s)) (test_of _ _ h) (test_of _ _ k)

pub near_here : (layer : LayerId) (r : Rect) (e : Entry) → IsNear layer r (key e) → is_near layer r e ≡ true
near_here layer r e n =
    let size = size_of e.1.rect in
    let on : (e.1.layer.0 == layer.0) ≡ true = let h = n.on in grind (arith, h) in
    let x = within_is size r.x1 r.x2 e.1.rect.x1 n.left n.right in
    let y = within_is size r.y1 r.y2 e.1.rect.y1 n.below n.above in
    and_from (e.1.layer.0 == layer.0) (is_within size r.x1 r.x2 e.1.rect.x1 && is_within size r.y1 r.y2 e.1.rect.y1) on
    (and_from (is_within size r.x1 r.x2 e.1.rect.x1) (is_within size r.y1 r.y2 e.1.rect.y1) x y)

drop_all : {X : Type 0} (xs : List X) → drop (length xs) xs ≡ []
drop_all [] = refl
drop_all (x ∷ xs) = drop_all xs

pub inside : {X : Type 0} (xs : List X) (i : ℕ) (e : X) → Some e ≡ slice_get xs i → i < length xs
inside [] i e h = cc
inside (x ∷ xs) zero e h = omega arith
inside (x ∷ xs) (suc i) e h = omega (arith, inside xs i e h)

pub front : {X : Type 0} (xs : List X) (i : ℕ) (e : X) → Some e ≡ slice_get xs i → drop i xs ≡ e ∷ drop (suc i) xs
front [] i e h = cc
front {X} (x ∷ xs) zero e h = let same : x ≡ e = cc in ap (λ (y : X). y ∷ xs) same
front (x ∷ xs) (suc i) e h = front xs i e h

pub behind : {X : Type 0} (xs : List X) (i : ℕ) → None ≡ slice_get xs i → drop i xs ≡ []
behind [] zero h = refl
behind [] (suc i) h = refl
behind (x ∷ xs) zero h = cc
behind (x ∷ xs) (suc i) h = behind xs i h

-- a place among entries of which those of one number side by side are one
module _ (layer : LayerId) (r : Rect) (es : List Entry) where
  -- those behind it that are met
  abbrev met_from : ℕ → List Entry
  met_from i = filter (is_met layer r) (once (drop i es))

  at_run : (i j : ℕ) (e : Entry) → Some e ≡ slice_get es i → IsEntryRun es i j → once (drop i es) ≡ e ∷ once (drop j es)
  at_run i j e at run = once_at_run es i j e run ∙ ap (λ (x : Entry). x ∷ once (drop j es)) (get_or_from_slice_get es i e e (sym at))

  here : (i : ℕ) (e d : Entry) → Some e ≡ slice_get es i → get_or es i d ≡ e
  here i e d at = get_or_from_slice_get es i e d (sym at)

  not_before : (i n : ℕ) (e d : Entry) → AreInOrder es → Some e ≡ slice_get es i → i ≤ n → n < length es → ¬ Before (key (get_or es n d)) (key e)
  not_before i n e d sorted at from to = rw (here i e d at) at (sorted i n d from to)

  -- at most one fewer is left behind an entry
  pub met_fewer : (i j : ℕ) (e : Entry) → Some e ≡ slice_get es i → IsEntryRun es i j → length (met_from i) ≤ 1 + length (met_from j)
  met_fewer i j e at run = fewer (is_met layer r) (once (drop i es)) e (once (drop j es)) (at_run i j e at run)

  -- as many are left where a search goes on
  pub met_later : (i m j : ℕ) (e : Entry) (t next : TileKey) → AreInOrder es → Some e ≡ slice_get es i → t ≡ key e → Leads layer r t (From next) → IsEntryRun es i m → OneKey es
      → m ≤ j → j ≤ length es → ((k : ℕ) (d : Entry) → m ≤ k → k < j → Before (key (get_or es k d)) next) → Changes es j → met_from i ≡ met_from j
  met_later i m j e t next sorted at same_key of_key run one_key low high passed changes =
      let leads = subst (λ (u : TileKey). Leads layer r u (From next)) same_key of_key in
      let some = run.some in
      skipped (is_met layer r) es i j e (omega (arith, low, some)) high (λ n d from to. elim (cases_lt n m) [
        | inl h ↦
            let below : n < length es = omega (arith, to, high) in
            let there : i < length es = inside es i e at in
            let same : key (get_or es n d) ≡ key e = one_key n i d below there (run.same n d from h) ∙ ap key (here i e d at) in
            far layer r (get_or es n d) (subst (λ (u : TileKey). ¬ IsNear layer r u) (sym same) leads.0)
        | inr h ↦ far layer r (get_or es n d) (leads.1 (key (get_or es n d)) (not_before i n e d sorted at from (omega (arith, to, high))) (passed n d h to))
      ]) changes

  -- none is left where it ends, or behind all
  pub met_end : (i : ℕ) (e : Entry) (t : TileKey) → AreInOrder es → Some e ≡ slice_get es i → t ≡ key e → Leads layer r t End → met_from i ≡ []
  met_end i e t sorted at same_key of_key =
      let leads = subst (λ (u : TileKey). Leads layer r u End) same_key of_key in
      let below = inside es i e at in
      rw (skipped (is_met layer r) es i (length es) e below (omega arith) (λ n d from to. far layer r (get_or es n d) (leads (key (get_or es n d)) (not_before i n e d sorted at from to))) (λ d over. absurd (omega (arith, over))), drop_all es) refl

  pub met_past : (i : ℕ) → None ≡ slice_get es i → met_from i ≡ []
  met_past i at = rw (behind es i at) refl

  -- a fold over what is left
  module _ {B : Type 0} (R : B → Entry → B → Type 0) where
    abbrev Rest : B → ℕ → B → Type 0
    Rest a i last = FoldsTo R a (met_from i) last

    pub met_here : (i j : ℕ) (e : Entry) (a b last : B) → Some e ≡ slice_get es i → IsEntryRun es i j → is_met layer r e ≡ true → R a e b → Rest b j last → Rest a i last
    met_here i j e a b last at run test step k = rw (at_run i j e at run, test) (b, step, k)

    pub not_here : (i j : ℕ) (e : Entry) (a last : B) → Some e ≡ slice_get es i → IsEntryRun es i j → is_met layer r e ≡ false → Rest a j last → Rest a i last
    not_here i j e a last at run test k = rw (at_run i j e at run, test) k

    pub over_same : (i j : ℕ) (a last : B) → met_from i ≡ met_from j → Rest a j last → Rest a i last
    over_same i j a last same k = rw same k

    pub over_none : (i : ℕ) (a : B) → met_from i ≡ [] → Rest a i a
    over_none i a none = rw none refl

-- where a search goes on, another number stands than before it
pub changes_at : (es : List Entry) (i m j : ℕ) (next : TileKey) → IsEntryRun es i m → OneKey es → m ≤ j → j ≤ length es
    → ((k : ℕ) (d : Entry) → m ≤ k → k < j → Before (key (get_or es k d)) next) → ((k : ℕ) (d : Entry) → j ≤ k → k < length es → ¬ Before (key (get_or es k d)) next) → Changes es j
changes_at es i m j next run one_key low high passed left d below same =
    let some = run.some in
    elim (cases_lt m j) [
      | inl h ↦
          let keys : key (get_or es j d) ≡ key (get_or es (j - 1) d) = one_key j (j - 1) d below (omega (arith, below)) same in
          left j d (omega arith) below (subst (λ (u : TileKey). Before u next) (sym keys) (passed (j - 1) d (omega (arith, h)) (omega (arith, h))))
      | inr h ↦
          let at : j ≡ m = omega (arith, h, low) in
          let last : (get_or es (j - 1) d).0.0 ≡ (get_or es i d).0.0 = run.same (j - 1) d (omega (arith, at, some)) (omega (arith, at, some)) in
          run.other d (omega (arith, below, at)) (subst (λ (n : ℕ). (get_or es n d).0.0 ≡ (get_or es i d).0.0) at (same ∙ last))
    ]

abbrev hit : LayerId → Rect → Entry → ℕ
hit layer r e = cond (is_near layer r e) 1 0

-- one near entry fewer is left
pub counted_here : (layer : LayerId) (r : Rect) (es : List Entry) (i j : ℕ) (e : Entry) (t : TileKey) → Some e ≡ slice_get es i → IsEntryRun es i j → t ≡ key e → IsNear layer r t
    → near_count layer r (once (drop i es)) ≡ 1 + near_count layer r (once (drop j es))
counted_here layer r es i j e t at run same_key of_key =
    let n = subst (λ (u : TileKey). IsNear layer r u) same_key of_key in
    let f : once (drop i es) ≡ e ∷ once (drop j es) = once_at_run es i j e run ∙ ap (λ (x : Entry). x ∷ once (drop j es)) (get_or_from_slice_get es i e e (sym at)) in
    let one : hit layer r e ≡ 1 = ap (λ (b : Bool). cond {A = ℕ} b 1 0) (near_here layer r e n) in
    let sum = sum_by-cons (hit layer r) e (once (drop j es)) in
    ap (near_count layer r) f ∙ sum ∙ ap (λ (m : ℕ). m + near_count layer r (once (drop j es))) one

-- no more are left later
pub counted_later : (layer : LayerId) (r : Rect) (es : List Entry) (i j : ℕ) (d : Entry) → i < j → j ≤ length es → Changes es j → near_count layer r (once (drop j es)) ≤ near_count layer r (once (drop i es))
counted_later layer r es i j d low high changes = fewer_later (hit layer r) es i j d low high changes

-- no more are near than there are
pub near_few : (layer : LayerId) (r : Rect) (es : List Entry) → near_count layer r es ≤ length es
near_few layer r [] = omega arith
near_few layer r (e ∷ es) =
    let sum = sum_by-cons (hit layer r) e es in
    let one : hit layer r e ≤ 1 = elim (is_near layer r e) as (λ b. cond {A = ℕ} b 1 0 ≤ 1) [
      | true ↦ omega arith
      | false ↦ omega arith
    ] in
    omega (arith, sum, one, near_few layer r es)
