-- An order of numbers after a shape is put in or taken out.
use Rattle.std.proofs.Common.{◌≡◌, ◌≢◌, ◌≤◌, ◌<◌, ◌+◌, ℕ, suc, Bool, true, false, cond, List, [], ◌∷◌, ◌++◌, Some, None, refl, sym, ap, ◌∙◌, subst, arith, get_or, length, filter, take, drop, length-append, length-take, length-drop, get_or-take, get_or-drop}
use Rattle.std.proofs.Math.Path.{ap₂}
use Rattle.std.specs.Prelude.{sum_by, ◌==◌}
use Rattle.std.specs.List.{insert}
use Rattle.std.proofs.lemmas.List.Edits.{length-insert}
use Rattle.std.proofs.lemmas.List.Elements.{filter_map-append}
use Rattle.std.proofs.lemmas.List.Sums.{sum_by-cons}
use Rattle.slab.specs.Slab.{Slab, entries, get, Updates}
use Rattle.line_laws.specs.Lines.{SameThings}
use Rattle.design_model.specs.declared.geometry.Rect.{Rect}
use Rattle.design_model.specs.declared.identifier.LayerId.{LayerId}
use Rattle.design_model.specs.declared.identifier.ShapeId.{ShapeId}
use Rattle.shape_index.specs.declared.shape.Shape.{Shape}
use Rattle.shape_index.specs.declared.tile.TileKey.{TileKey}
use Rattle.shape_index.specs.Shapes.{at, numbered, met_by, met_count, is_met}
use Rattle.shape_index.specs.Tiles.{key, near_count, is_near}
use Rattle.shape_index.specs.GapOrder.{IsRun}
use Rattle.shape_index.specs.TileOrder.{Before, entry_of, listed, once, AreAllThere, AreInOrder, IsOrderOf}
use Rattle.shape_index.proofs.SlabEntries.{id_of, slab_at, slab_added, slab_removed}
use Rattle.shape_index.proofs.Listed.{of_slab, inserted, kept, is_other, without, filter_all, sum_filter, one_key, run_listed, taken, dropped}
use Rattle.shape_index.proofs.Repeats.{AreApart, apart_cut, once_fewer, once_put, once_taken}
use Rattle.shape_index.proofs.EntryOrder.{IsItsPlace, IsFound, found_at, not_itself, order_of_cut, order_of_inserted, place_fits, tied}

abbrev Entry : Type 0
Entry = ShapeId × Shape

-- the same things filtered are the same
pub same_filtered : (p : Entry → Bool) (xs ys : List Entry) → SameThings xs ys → SameThings (filter p xs) (filter p ys)
same_filtered p xs ys h = record { sums = λ w. sum_filter w p xs ∙ h.sums (λ x. cond (p x) (w x) 0) ∙ sym (sum_filter w p ys) }

pub same_met : (layer : LayerId) (r : Rect) (xs ys : List Entry) → SameThings xs ys → SameThings (met_by layer r xs) (met_by layer r ys)
same_met layer r xs ys h = same_filtered (is_met layer r) xs ys h

pub same_count : (layer : LayerId) (r : Rect) (xs ys : List Entry) → SameThings xs ys → met_count layer r xs ≡ met_count layer r ys
same_count layer r xs ys h = h.sums (λ e. cond (is_met layer r e) 1 0)

pub same_near : (layer : LayerId) (r : Rect) (xs ys : List Entry) → SameThings xs ys → near_count layer r xs ≡ near_count layer r ys
same_near layer r xs ys h = h.sums (λ e. cond (is_near layer r e) 1 0)

sum_ones : (xs : List Entry) → sum_by (λ e. 1) xs ≡ length xs
sum_ones [] = refl
sum_ones (x ∷ xs) = omega (arith, sum_ones xs, sum_by-cons (λ (e : Entry). 1) x xs)

pub same_length : (xs ys : List Entry) → SameThings xs ys → length xs ≡ length ys
same_length xs ys h = sym (sum_ones xs) ∙ h.sums (λ e. 1) ∙ sum_ones ys

-- entries before its place and from it on have other numbers
apart_at : (s : Slab Shape) (ids : List ShapeId) (p q : ℕ) (t : TileKey) → p ≤ q → IsItsPlace (listed s ids) p t → AreApart (take p (listed s ids)) (drop q (listed s ids))
apart_at s ids p q t le place =
    apart_cut (listed s ids) p q (λ k l d low from below same.
    let within = place.within in
    let keys = one_key s ids l k d below (omega (arith, low, within)) same in
    place.left l d (omega (arith, le, from)) below (subst (λ (u : TileKey). Before u t) (sym keys) (place.passed k d low)))

-- the order after a shape is put in
pub after_insert : (s t : Slab Shape) (ids : List ShapeId) (n p : ℕ) (x : Shape) → IsOrderOf s ids → Updates s t n (Some x) → get s n ≡ None → IsItsPlace (listed s ids) p (key (id_of n, x))
    → IsOrderOf t (insert ids p (id_of n))
after_insert s t ids n p x o u free place =
    let same_list = kept s t n x ids u free o.all_there in
    let all : AreAllThere t ids = ap length same_list ∙ o.all_there in
    let is : listed t (insert ids p (id_of n)) ≡ insert (listed s ids) p (id_of n, x) = inserted t ids p (id_of n) x all u.changed ∙ ap (λ (l : List Entry). insert l p (id_of n, x)) same_list in
    let within : p ≤ length ids = omega (arith, place.within, o.all_there) in
    let apart = apart_at s ids p p (key (id_of n, x)) (omega arith) place in
    let other : (k : ℕ) (d : Entry) → k < length (listed s ids) → (get_or (listed s ids) k d).0.0 ≢ n = λ k d below same.
    let held : get s n ≡ Some (get_or (listed s ids) k d).1 = subst (λ (m : ℕ). get s m ≡ Some (get_or (listed s ids) k d).1) same (of_slab s ids k d below) in
    cc
    in
    record {
      all_there = ap length is ∙ length-insert (listed s ids) p (id_of n, x) place.within ∙ ap (λ (m : ℕ). m + 1) o.all_there ∙ sym (length-insert ids p (id_of n) within);
      same = record {
        sums = λ w. omega (
          arith,
          ap (λ (l : List Entry). sum_by w (once l)) is,
          once_put w (listed s ids) p (id_of n, x) apart other,
          o.same.sums w,
          (slab_added s t n x u free).sums w,
          sum_by-cons w (id_of n, x) (numbered (entries s)),
        );
      };
      in_order = subst AreInOrder (sym is) (order_of_inserted (listed s ids) p (id_of n, x) o.in_order (place_fits (listed s ids) p (key (id_of n, x)) place));
    }

-- an entry of a number
abbrev pub is_of : ℕ → Entry → ℕ
is_of n e = cond (e.0.0 == n) 1 0

stands : (n : ℕ) (x : Shape) (es : List Entry) → at (id_of n) es ≡ Some x → 1 ≤ sum_by (is_of n) es
stands n x [] h = cc
stands n x (e ∷ es) h =
    let sum = sum_by-cons (is_of n) e es in
    elim (n == e.0.0) as (λ b. (n == e.0.0) ≡ b → cond b (Some e.1) (at (id_of n) es) ≡ Some x → 1 ≤ sum_by (is_of n) (e ∷ es)) [
      | true ↦ λ t k. let same : (e.0.0 == n) ≡ true = grind arith in let one : is_of n e ≡ 1 = rw same refl in omega (arith, sum, one)
      | false ↦ λ t k. omega (arith, sum, stands n x es k)
    ] refl h

-- where an entry of a number stands
pub record Somewhere (n : ℕ) (es : List Entry) : Type 0 where
  pub place : ℕ
  pub below : place < length es
  pub is : (d : Entry) → (get_or es place d).0.0 ≡ n

somewhere : (n : ℕ) (es : List Entry) → 1 ≤ sum_by (is_of n) es → Somewhere n es
somewhere n [] h = absurd (omega (arith, h))
somewhere n (e ∷ es) h =
    let sum = sum_by-cons (is_of n) e es in
    elim (e.0.0 == n) as (λ b. (e.0.0 == n) ≡ b → Somewhere n (e ∷ es)) [
      | true ↦ λ t. record { place = 0; below = omega arith; is = λ d. grind arith }
      | false ↦ λ t.
          let none : is_of n e ≡ 0 = rw t refl in
          let r = somewhere n es (omega (arith, h, sum, none)) in
          record { place = suc r.place; below = omega (arith, r.below); is = r.is }
    ] refl

-- an entry of a number is the slab's, so it has this key
pub key_at : (s : Slab Shape) (ids : List ShapeId) (n i : ℕ) (x : Shape) (d : Entry) → get s n ≡ Some x → i < length (listed s ids) → (get_or (listed s ids) i d).0.0 ≡ n → key (get_or (listed s ids) i d) ≡ key (id_of n, x)
key_at s ids n i x d is below same =
    let e = of_slab s ids i d below in
    let shape : (get_or (listed s ids) i d).1 ≡ x =
    let f : get s n ≡ Some (get_or (listed s ids) i d).1 = subst (λ (m : ℕ). get s m ≡ Some (get_or (listed s ids) i d).1) same e in
    cc
    in
    rw (same, shape) refl

-- and it is the slab's shape under it
pub entry_at : (s : Slab Shape) (ids : List ShapeId) (n i : ℕ) (x : Shape) → get s n ≡ Some x → i < length (listed s ids) → (get_or (listed s ids) i (id_of n, x)).0.0 ≡ n → get_or (listed s ids) i (id_of n, x) ≡ (id_of n, x)
entry_at s ids n i x is below same =
    let e : Entry = get_or (listed s ids) i (id_of n, x) in
    let held : get s n ≡ Some e.1 = subst (λ (m : ℕ). get s m ≡ Some e.1) same (of_slab s ids i (id_of n, x) below) in
    let shape : e.1 ≡ x = cc in
    ap₂ (λ (m : ℕ) (y : Shape). (id_of m, y)) same shape

-- where a number of the slab stands in an order of its numbers
pub stands_in : (s : Slab Shape) (ids : List ShapeId) (n : ℕ) (x : Shape) → IsOrderOf s ids → get s n ≡ Some x → Somewhere n (listed s ids)
stands_in s ids n x o is =
    let one = stands n x (numbered (entries s)) (sym (slab_at s n) ∙ is) in
    somewhere n (listed s ids) (omega (arith, one, o.same.sums (is_of n), once_fewer (is_of n) (listed s ids)))

-- the place where a shape's number stands
pub found_in : (s : Slab Shape) (ids : List ShapeId) (n p : ℕ) (x : Shape) → IsOrderOf s ids → get s n ≡ Some x → IsItsPlace (listed s ids) p (key (id_of n, x)) → IsFound (listed s ids) p (key (id_of n, x))
found_in s ids n p x o is place =
    let f = stands_in s ids n x o is in
    found_at (listed s ids) p f.place (key (id_of n, x)) o.in_order place f.below (λ d. key_at s ids n f.place x d is f.below (f.is d))

-- the entries of a part of an order that hasn't the number that is taken out
left_there : (s t : Slab Shape) (n : ℕ) (part : List ShapeId) → Updates s t n None → ((k : ℕ) (d : Entry) → k < length (listed s part) → (get_or (listed s part) k d).0.0 ≢ n) → listed t part ≡ listed s part
left_there s t n part u other =
    without s t n part u ∙ filter_all (is_other n) (listed s part) (λ k d below.
    let apart : ((get_or (listed s part) k d).0.0 == n) ≡ false = differs (get_or (listed s part) k d).0.0 n (other k d below) in
    rw apart refl)
  where
    differs : (a b : ℕ) → a ≢ b → (a == b) ≡ false
    differs a b h = grind (arith, h)

-- the order after a shape is taken out: its number stood in these slots
pub after_remove : (s t : Slab Shape) (ids : List ShapeId) (n p q : ℕ) (x : Shape) → IsOrderOf s ids → Updates s t n None → get s n ≡ Some x → IsItsPlace (listed s ids) p (key (id_of n, x))
    → IsRun ids p q → IsOrderOf t (take p ids ++ drop q ids)
after_remove s t ids n p q x o u is place run =
    let es : List Entry = listed s ids in
    let all = o.all_there in
    let entry_run = run_listed s ids p q all run in
    let some = run.some in
    let within = run.within in
    let long : q ≤ length es = entry_run.within in
    let found = found_in s ids n p x o is place in
    let key_is : (d : Entry) → key (get_or es p d) ≡ key (id_of n, x) = λ d. key_at s ids n p x d is found.below (found.is d) in
    let before : (k : ℕ) (d : Entry) → k < p → (get_or es k d).0.0 ≢ n = λ k d low same.
    not_itself (key (id_of n, x)) (subst (λ (u : TileKey). Before u (key (id_of n, x))) (key_at s ids n k x d is (omega (arith, low, some, long)) same) (place.passed k d low))
    in
    let behind : (k : ℕ) (d : Entry) → q ≤ k → k < length es → (get_or es k d).0.0 ≢ n = λ k d from below same.
    let low = o.in_order p q d (omega (arith, some)) (omega (arith, from, below)) in
    let high = o.in_order q k d from below in
    let same_key = key_at s ids n k x d is below same in
    let above : ¬ Before (key (id_of n, x)) (key (get_or es q d)) = subst (λ (u : TileKey). ¬ Before u (key (get_or es q d))) same_key high in
    let under : ¬ Before (key (get_or es q d)) (key (id_of n, x)) = subst (λ (u : TileKey). ¬ Before (key (get_or es q d)) u) (key_is d) low in
    entry_run.other d (omega (arith, from, below)) (tied (key (get_or es q d)) (key (id_of n, x)) under above ∙ sym (found.is d))
    in
    let first : listed t (take p ids) ≡ take p es =
    left_there s t n (take p ids) u (λ k d low same.
    let cut = taken s ids p all in
    let short : k < p = omega (arith, low, ap length cut, length-take p es) in
    before k d short (sym (ap (λ (e : Entry). e.0.0) (ap (λ (l : List Entry). get_or l k d) cut ∙ get_or-take p es k d short)) ∙ same))
    ∙ taken s ids p all
    in
    let last : listed t (drop q ids) ≡ drop q es =
    left_there s t n (drop q ids) u (λ k d low same.
    let cut = dropped s ids q all in
    let below : q + k < length es = omega (arith, low, ap length cut, length-drop q es) in
    behind (q + k) d (omega arith) below (sym (ap (λ (e : Entry). e.0.0) (ap (λ (l : List Entry). get_or l k d) cut ∙ get_or-drop q es k d)) ∙ same))
    ∙ dropped s ids q all
    in
    let whole : listed t (take p ids ++ drop q ids) ≡ take p es ++ drop q es =
    filter_map-append (entry_of t) (take p ids) (drop q ids) ∙ ap (λ (l : List Entry). l ++ listed t (drop q ids)) first ∙ ap (λ (l : List Entry). take p es ++ l) last
    in
    let gone = slab_removed s t n (Some x) u (sym is) in
    let key_apart : (r : ℕ) → p ≤ r → AreApart (take p es) (drop r es) = λ r le. apart_at s ids p r (key (id_of n, x)) le place in
    let e : Entry = (id_of n, x) in
    let entry_is : get_or es p e ≡ e = entry_at s ids n p x is found.below (found.is e) in
    record {
      all_there = omega (
        arith,
        ap length whole,
        length-append (take p es) (drop q es),
        length-append (take p ids) (drop q ids),
        length-take p es,
        length-take p ids,
        length-drop q es,
        length-drop q ids,
        all,
      );
      same = record {
        sums = λ w. omega (
          arith,
          ap (λ (l : List Entry). sum_by w (once l)) whole,
          once_taken w es p q e entry_run (key_apart p (omega arith)) (key_apart q (omega (arith, some))),
          ap w entry_is,
          o.same.sums w,
          gone.sums w,
          sum_by-cons w e (numbered (entries t)),
        );
      };
      in_order = subst AreInOrder (sym whole) (order_of_cut es p q o.in_order (omega (arith, some)) long);
    }

-- the order after the slab has other room
pub after_growth : (s t : Slab Shape) (ids : List ShapeId) (room : ℕ) → t ≡ record s { capacity = room } → IsOrderOf s ids → IsOrderOf t ids
after_growth s t ids room e o = rw e (record { all_there = o.all_there; same = o.same; in_order = o.in_order })

-- the place that a search for it gives, in an order that a slice lends
pub place_from : (s : Slab Shape) (ids lent : List ShapeId) (p : ℕ) (t : TileKey) (e : Entry) → lent ≡ ids → t ≡ key e → AreAllThere s ids → p ≤ length lent
    → ((k : ℕ) (d : Entry) → 0 ≤ k → k < p → Before (key (get_or (listed s lent) k d)) t) → ((k : ℕ) (d : Entry) → p ≤ k → k < length lent → ¬ Before (key (get_or (listed s lent) k d)) t)
    → IsItsPlace (listed s ids) p (key e)
place_from s ids lent p t e same_list same_key all within passed left =
    subst (λ (u : TileKey). IsItsPlace (listed s ids) p u) same_key (subst (λ (l : List ShapeId). IsItsPlace (listed s l) p t) same_list (record {
      within = omega (arith, within, ap length same_list, all_lent);
      passed = λ k d under. passed k d (omega arith) under;
      left = λ k d over below. left k d over (omega (arith, below, all_lent));
    }))
  where
    all_lent : length (listed s lent) ≡ length lent
    all_lent = subst (λ (l : List ShapeId). length (listed s l) ≡ length l) (sym same_list) all
