-- Orders of numbers whose gaps change.
use Rattle.std.proofs.Common.{◌≡◌, ◌≤◌, ◌<◌, ◌+◌, ◌-◌, ◌^◌, ℕ, zero, suc, min, List, [], ◌∷◌, ◌++◌, Option, None, Some, inl, inr, refl, sym, ap, ◌∙◌, subst, arith, append_assoc, drop-drop, get_or, length, take, drop, set, replicate, length-append, length-drop, length-set, length-take-le, take_at, get_or-drop, get_or-take, get_or-set_same, get_or-set_other}
use Rattle.std.specs.Prelude.{sum_by, ◌⊎◌, IfSome, OnSome}
use Rattle.std.specs.List.{insert, remove, CopiedTo, SameBelow, SameFrom}
use Rattle.std.proofs.lemmas.Bool.{cases_lt}
use Rattle.std.proofs.lemmas.List.{at_drop_more, get_or-append_right, get_or_append_left, get_or_default, get_or_push, length-map, same_lists}
use Rattle.std.proofs.lemmas.List.Edits.{insert-append_right, get_or-insert_at, get_or-insert_below, get_or-insert_above, get_or-remove_below, get_or-remove_above, length-insert, length-remove, remove-append_right}
use Rattle.slab.specs.Slab.{Slab, entries, get, slab_len, Updates}
use Rattle.slab.proofs.SlabLemmas.{length-entries}
use Rattle.design_model.specs.declared.identifier.ShapeId.{ShapeId}
use Rattle.shape_index.specs.declared.shape.Shape.{Shape}
use Rattle.shape_index.specs.declared.tile.TileKey.{TileKey}
use Rattle.shape_index.specs.Shapes.{numbered}
use Rattle.shape_index.specs.Tiles.{key}
use Rattle.shape_index.specs.GapOrder.{IsGap, IsPutIn, IsRun}
use Rattle.shape_index.specs.TileOrder.{Before, listed, once, AreInOrder, IsOrderOf}
use Rattle.shape_index.proofs.EntryOrder.{Fits, IsItsPlace, order_of_inserted, order_of_removed, place_before, place_behind}
use Rattle.shape_index.proofs.Listed.{inserted, number_at, removed, shape_at}
use Rattle.shape_index.proofs.OrderChanges.{after_insert, key_at, same_length}
use Rattle.shape_index.proofs.Repeats.{once_full, once_inserted, once_removed, once_short}
use Rattle.shape_index.proofs.SlabEntries.{id_of}

abbrev Entry : Type 0
Entry = ShapeId × Shape

pub same_id : (a b : ShapeId) → a.0 ≡ b.0 → a ≡ b
same_id a b h = ap id_of h

-- a gap fewer
pub gap_taken : (s : Slab Shape) (ids : List ShapeId) (g : ℕ) → IsGap ids g → IsOrderOf s ids → IsOrderOf s (remove ids g)
gap_taken s ids g gap o =
    let es : List Entry = listed s ids in
    let all = o.all_there in
    let some : 0 < g = gap.0 in
    let inside : g < length ids = gap.1 in
    let below : g < length es = omega (arith, inside, all) in
    let is = removed s ids g all in
    let same : (d : Entry) → (get_or es g d).0.0 ≡ (get_or es (g - 1) d).0.0 = λ d.
    ap (λ (i : ShapeId). i.0) (number_at s ids g d all inside ∙ gap.2 d.0 ∙ sym (number_at s ids (g - 1) d all (omega (arith, inside))))
    in
    record {
      all_there = omega (arith, ap length is, length-remove es g below, length-remove ids g inside, all);
      same = record { sums = λ w. ap (λ (l : List Entry). sum_by w l) (ap once is ∙ once_removed es g some below same) ∙ o.same.sums w };
      in_order = subst AreInOrder (sym is) (order_of_removed es g o.in_order below);
    }

-- a gap more
pub gap_added : (s : Slab Shape) (ids : List ShapeId) (g : ℕ) (y : ShapeId) → 0 < g → g ≤ length ids → ((d : ShapeId) → get_or ids (g - 1) d ≡ y) → IsOrderOf s ids → IsOrderOf s (insert ids g y)
gap_added s ids g y some within at o =
    let es : List Entry = listed s ids in
    let all = o.all_there in
    let before : g - 1 < length ids = omega (arith, some, within) in
    let held = shape_at s ids (g - 1) y all before in
    let x : Shape = held.0 in
    let is : get s y.0 ≡ Some x = subst (λ (i : ShapeId). get s i.0 ≡ Some x) (at y) held.1 in
    let e : Entry = (y, x) in
    let long : g ≤ length es = omega (arith, within, all) in
    let last : g - 1 < length es = omega (arith, before, all) in
    let number : (d : Entry) → (get_or es (g - 1) d).0.0 ≡ y.0 = λ d. ap (λ (i : ShapeId). i.0) (number_at s ids (g - 1) d all before ∙ at d.0) in
    let key_is : (d : Entry) → key (get_or es (g - 1) d) ≡ key e = λ d. key_at s ids y.0 (g - 1) x d is last (number d) in
    let listed_is = inserted s ids g y x all is in
    let fits : Fits es g (key e) = record {
      within = long;
      passed = λ k d low. subst (λ (u : TileKey). ¬ Before u (key (get_or es k d))) (key_is d) (o.in_order k (g - 1) d (omega (arith, low)) last);
      left = λ k d from below. subst (λ (u : TileKey). ¬ Before (key (get_or es k d)) u) (key_is d) (o.in_order (g - 1) k d (omega (arith, from)) below);
    } in
    record {
      all_there = omega (arith, ap length listed_is, length-insert es g e long, length-insert ids g y within, all);
      same = record { sums = λ w. ap (λ (l : List Entry). sum_by w l) (ap once listed_is ∙ once_inserted es g e e some long (sym (number e))) ∙ o.same.sums w };
      in_order = subst AreInOrder (sym listed_is) (order_of_inserted es g e o.in_order fits);
    }

-- a number is put in, in the room of a gap or by a slot more
pub after_put_in : (s t : Slab Shape) (ids new : List ShapeId) (n p : ℕ) (x : Shape) → IsOrderOf s ids → Updates s t n (Some x) → get s n ≡ None → IsItsPlace (listed s ids) p (key (id_of n, x)) → IsPutIn ids p (id_of n) new
    → IsOrderOf t new
after_put_in s t ids new n p x o u free place (inl e) = subst (IsOrderOf t) (sym e) (after_insert s t ids n p x o u free place)
after_put_in s t ids new n p x o u free place (inr (g, gap, inl (low, e))) =
    let less = gap_taken s ids g gap o in
    let below : g < length (listed s ids) = omega (arith, gap.1, o.all_there) in
    let there = subst (λ (l : List Entry). IsItsPlace l (p - 1) (key (id_of n, x))) (sym (removed s ids g o.all_there)) (place_before (listed s ids) p g (key (id_of n, x)) low place) in
    subst (IsOrderOf t) (sym e) (after_insert s t (remove ids g) n (p - 1) x less u free there)
after_put_in s t ids new n p x o u free place (inr (g, gap, inr (high, e))) =
    let less = gap_taken s ids g gap o in
    let below : g < length (listed s ids) = omega (arith, gap.1, o.all_there) in
    let there = subst (λ (l : List Entry). IsItsPlace l p (key (id_of n, x))) (sym (removed s ids g o.all_there)) (place_behind (listed s ids) p g (key (id_of n, x)) high below place) in
    subst (IsOrderOf t) (sym e) (after_insert s t (remove ids g) n p x less u free there)

all_entries : (s : Slab Shape) → length (numbered (entries s)) ≡ slab_len s
all_entries s = length-map (entries s) (λ (e : ℕ × Shape). (id_of e.0, e.1)) ∙ length-entries s

-- an order without gaps is as long as there are shapes
pub length_full : (s : Slab Shape) (ids : List ShapeId) → IsOrderOf s ids → ((k : ℕ) → ¬ IsGap ids k) → length ids ≡ slab_len s
length_full s ids o none =
    let es : List Entry = listed s ids in
    let all = o.all_there in
    let full : once es ≡ es = once_full es (λ i d below same.
    let first : i < length ids = omega (arith, below, all) in
    let next : i + 1 < length ids = omega (arith, below, all) in
    let numbers : (get_or ids (i + 1) d.0) ≡ (get_or ids i d.0) = same_id _ _ (sym (ap (λ (j : ShapeId). j.0) (number_at s ids (i + 1) d all next)) ∙ same ∙ ap (λ (j : ShapeId). j.0) (number_at s ids i d all first)) in
    let back : i + 1 - 1 ≡ i = omega arith in
    none (i + 1) (omega arith, next, λ c. get_or_default ids (i + 1) c d.0 next ∙ numbers ∙ get_or_default ids i d.0 c first ∙ ap (λ (m : ℕ). get_or ids m c) (sym back))) in
    sym all ∙ ap length (sym full) ∙ same_length (once es) (numbered (entries s)) o.same ∙ all_entries s

-- and no order is shorter
pub length_least : (s : Slab Shape) (ids : List ShapeId) → IsOrderOf s ids → slab_len s ≤ length ids
length_least s ids o = omega (arith, o.all_there, all_entries s, once_short (listed s ids), same_length (once (listed s ids)) (numbered (entries s)) o.same)

insert_behind : (a b : List ShapeId) (y : ShapeId) → insert (a ++ b) (length a) y ≡ a ++ y ∷ b
insert_behind a b y = let none : length a - length a ≡ 0 = omega arith in insert-append_right a b (length a) (length a) y refl (omega arith) ∙ ap (λ (n : ℕ). a ++ insert b n y) none

-- gaps behind a number
pub filled_behind : (s : Slab Shape) (a b : List ShapeId) (y : ShapeId) (m : ℕ) → 0 < length a → ((d : ShapeId) → get_or a (length a - 1) d ≡ y) → IsOrderOf s (a ++ b) → IsOrderOf s (a ++ (replicate m y ++ b))
filled_behind s a b y zero some at o = o
filled_behind s a b y (suc m) some at o =
    let h = filled_behind s a b y m some at o in
    let left : List ShapeId = replicate m y ++ b in
    subst (IsOrderOf s) (insert_behind a left y) (gap_added s (a ++ left) (length a) y some (omega (arith, length-append a left)) (λ d. get_or_append_left a left d (length a - 1) (omega (arith, some)) ∙ at d) h)

replicate_behind : (m : ℕ) (y : ShapeId) (b : List ShapeId) → replicate m y ++ y ∷ b ≡ y ∷ (replicate m y ++ b)
replicate_behind zero y b = refl
replicate_behind (suc m) y b = ap (λ (l : List ShapeId). y ∷ l) (replicate_behind m y b)

-- and before it
pub filled_before : (s : Slab Shape) (b : List ShapeId) (y : ShapeId) (m : ℕ) → IsOrderOf s (y ∷ b) → IsOrderOf s (replicate m y ++ y ∷ b)
filled_before s b y m o = subst (IsOrderOf s) (sym (replicate_behind m y b)) (filled_behind s (y ∷ []) b y m (omega arith) (λ d. refl) o)

-- how far an order is spread: what was pushed and what is left are an order of the same
pub record IsSpread (order : List ShapeId) (i : ℕ) (new : List ShapeId) : Type 0 where
  pub kept : (s : Slab Shape) → IsOrderOf s order → IsOrderOf s (new ++ drop i order)
  pub some : 0 < i → 0 < length new
  pub last : (d : ShapeId) → 0 < i → get_or new (length new - 1) d ≡ get_or order (i - 1) d

order_front : (order : List ShapeId) (i : ℕ) (d : ShapeId) → i < length order → drop i order ≡ get_or order i d ∷ drop (i + 1) order
order_front order i d below = at_drop_more (λ (l : List ShapeId). l) order i d below

-- a gap is passed over
pub spread_gap : (order new : List ShapeId) (i : ℕ) → IsGap order i → IsSpread order i new → IsSpread order (i + 1) new
spread_gap order new i gap so_far =
    let some : 0 < i = gap.0 in
    let below : i < length order = gap.1 in
    let long : 0 < length new = so_far.some some in
    let at : (d : ShapeId) → get_or new (length new - 1) d ≡ get_or order i d = λ d. so_far.last d some ∙ sym (gap.2 d) in
    let back : i + 1 - 1 ≡ i = omega arith in
    record {
      kept = λ s o. passed s (so_far.kept s o) long at below;
      some = λ h. long;
      last = λ d h. at d ∙ ap (λ (k : ℕ). get_or order k d) (sym back);
    }
  where
    passed : (s : Slab Shape) → IsOrderOf s (new ++ drop i order) → 0 < length new → ((d : ShapeId) → get_or new (length new - 1) d ≡ get_or order i d) → i < length order → IsOrderOf s (new ++ drop (i + 1) order)
    passed s o long at below =
        let none : length new - length new ≡ 0 = omega arith in
        let n = length new in
        let x : ShapeId → ShapeId = λ d. get_or order i d in
        let is_gap : IsGap (new ++ drop i order) n = (
          long,
          omega (arith, length-append new (drop i order), length-drop i order, below),
          λ d. get_or-append_right new (drop i order) n n d refl (omega arith)
              ∙ ap (λ (k : ℕ). get_or (drop i order) k d) none
              ∙ get_or-drop i order 0 d
              ∙ ap (λ (k : ℕ). get_or order k d) (omega arith)
              ∙ sym (at d)
              ∙ sym (get_or_append_left new (drop i order) d (n - 1) (omega (arith, long))),
        ) in
        let left : remove (new ++ drop i order) n ≡ new ++ drop (i + 1) order =
        remove-append_right new (drop i order) n n refl (omega arith) ∙ ap (λ (k : ℕ). new ++ remove (drop i order) k) none ∙ ap (λ (l : List ShapeId). new ++ l) (drop-drop 1 i order)
        in
        subst (IsOrderOf s) left (gap_taken s (new ++ drop i order) n is_gap o)

number_pushed : (order new : List ShapeId) (i : ℕ) (x : ShapeId) → i < length order → ((d : ShapeId) → get_or order i d ≡ x) → IsSpread order i new → IsSpread order (i + 1) (new ++ x ∷ [])
number_pushed order new i x below is so_far =
    let back : i + 1 - 1 ≡ i = omega arith in
    let front : drop i order ≡ x ∷ drop (i + 1) order = order_front order i x below ∙ ap (λ (y : ShapeId). y ∷ drop (i + 1) order) (is x) in
    let long = length-append new (x ∷ []) in
    record {
      kept = λ s o. subst (IsOrderOf s) (ap (λ (l : List ShapeId). new ++ l) front ∙ sym (append_assoc new (x ∷ []) (drop (i + 1) order))) (so_far.kept s o);
      some = λ h. omega (arith, long);
      last = λ d h. get_or_push new x d (length (new ++ x ∷ []) - 1) (omega (arith, long)) ∙ sym (is d) ∙ ap (λ (k : ℕ). get_or order k d) (sym back);
    }

-- a number is pushed, and perhaps a gap behind it
spread_number : (order new more : List ShapeId) (i : ℕ) (x : ShapeId) → i < length order → ((d : ShapeId) → get_or order i d ≡ x) → (more ≡ new ++ x ∷ []) ⊎ (more ≡ new ++ x ∷ x ∷ []) → IsSpread order i new → IsSpread order (i + 1) more
spread_number order new more i x below is (inl e) so_far = rw e (number_pushed order new i x below is so_far)
spread_number order new more i x below is (inr e) so_far =
    let back : i + 1 - 1 ≡ i = omega arith in
    let pushed = number_pushed order new i x below is so_far in
    let long = length-append new (x ∷ []) in
    let longer = length-append (new ++ x ∷ []) (x ∷ []) in
    let split : new ++ x ∷ x ∷ [] ≡ (new ++ x ∷ []) ++ x ∷ [] = sym (append_assoc new (x ∷ []) (x ∷ [])) in
    rw (e, split) (record {
      kept = λ s o. subst (IsOrderOf s) (sym (append_assoc (new ++ x ∷ []) (x ∷ []) (drop (i + 1) order))) (filled_behind s (new ++ x ∷ []) (drop (i + 1) order) x 1 (omega (arith, long)) (λ d. get_or_push new x d (length (new ++ x ∷ []) - 1) (omega (arith, long))) (pushed.kept s o));
      some = λ h. omega (arith, longer);
      last = λ d h. get_or_push (new ++ x ∷ []) x d (length ((new ++ x ∷ []) ++ x ∷ []) - 1) (omega (arith, longer)) ∙ sym (is d) ∙ ap (λ (k : ℕ). get_or order k d) (sym back);
    })

spread_gaps : (order new : List ShapeId) (i n : ℕ) → ((k : ℕ) → i ≤ k → k < i + n → IsGap order k) → IsSpread order i new → IsSpread order (i + n) new
spread_gaps order new i zero gaps so_far = let same : i ≡ i + 0 = omega arith in subst (λ (k : ℕ). IsSpread order k new) same so_far
spread_gaps order new i (suc n) gaps so_far =
    let one = spread_gap order new i (gaps i (omega arith) (omega arith)) so_far in
    let all = spread_gaps order new (i + 1) n (λ k low high. gaps k (omega (arith, low)) (omega (arith, high))) one in
    let same : i + 1 + n ≡ i + suc n = omega arith in
    subst (λ (k : ℕ). IsSpread order k new) same all

-- the slots of a number are passed
pub spread_run : (order new more : List ShapeId) (i j : ℕ) (x : ShapeId) → IsRun order i j → ((d : ShapeId) → get_or order i d ≡ x) → (more ≡ new ++ x ∷ []) ⊎ (more ≡ new ++ x ∷ x ∷ []) → IsSpread order i new → IsSpread order j more
spread_run order new more i j x run is pushed so_far =
    let some = run.some in
    let within = run.within in
    let one = spread_number order new more i x (omega (arith, some, within)) is pushed so_far in
    let same : i + 1 + (j - (i + 1)) ≡ j = omega (arith, some) in
    subst (λ (k : ℕ). IsSpread order k more) same (spread_gaps order more (i + 1) (j - (i + 1)) (λ k low high. (
      omega (arith, low),
      omega (arith, high, some, within),
      λ d. run.same k d (omega (arith, low)) (omega (arith, high, some)) ∙ sym (run.same (k - 1) d (omega (arith, low)) (omega (arith, high, some))),
    )) one)

-- a number is put in where a slot becomes free behind its place
pub moved_behind : (old copied : List ShapeId) (freed place : ℕ) (id : ShapeId) → place ≤ freed → freed < length old → length copied ≡ length old
    → CopiedTo old copied place (place + 1) (freed - place) → SameBelow old copied (place + 1) → SameFrom old copied (place + 1 + (freed - place)) → set copied place id ≡ insert (remove old freed) place id
moved_behind old copied freed place id high below long copies before behind =
    let less : List ShapeId = remove old freed in
    let shorter = length-remove old freed below in
    let within : place ≤ length less = omega (arith, shorter, high, below) in
    same_lists (set copied place id) (insert less place id) (length-set copied place id ∙ long ∙ sym (length-insert less place id within ∙ shorter)) (λ k d inside. elim (cases_lt k place) [
      | inl h ↦ get_or-set_other copied place k id d (λ e. omega (arith, e, h)) ∙ before k d (omega (arith, h)) ∙ sym (get_or-insert_below less place id d k h within ∙ get_or-remove_below old freed d k (omega (arith, h, high)) below)
      | inr h ↦ elim (cases_lt place k) [
        | inr same ↦
            let at : k ≡ place = omega (arith, h, same) in
            rw at (get_or-set_same copied place id d (omega (arith, long, high, below)) ∙ sym (get_or-insert_at less place id d within))
        | inl above ↦
            let back : (k - 1) + 1 ≡ k = omega (arith, above) in
            let right : get_or (insert less place id) k d ≡ get_or less (k - 1) d = ap (λ (m : ℕ). get_or (insert less place id) m d) (sym back) ∙ get_or-insert_above less place id d (k - 1) (omega (arith, above)) within in
            get_or-set_other copied place k id d (λ e. omega (arith, e, above)) ∙ elim (cases_lt freed k) [
              | inl past ↦
                  let other : freed ≤ k - 1 = omega (arith, past) in
                  behind k d (omega (arith, past, high)) ∙ sym (right ∙ get_or-remove_above old freed d (k - 1) other below ∙ ap (λ (m : ℕ). get_or old m d) back)
              | inr between ↦
                  let from : place + (k - (place + 1)) ≡ k - 1 = omega (arith, above) in
                  copies k d (omega (arith, above)) (omega (arith, between, high)) ∙ ap (λ (m : ℕ). get_or old m d) from ∙ sym (right ∙ get_or-remove_below old freed d (k - 1) (omega (arith, between, above)) below)
            ]
      ]
    ])

-- and where it does before its place
pub moved_before : (old copied : List ShapeId) (freed place : ℕ) (id : ShapeId) → freed < place → place ≤ length old → length copied ≡ length old
    → CopiedTo old copied (freed + 1) freed (place - (freed + 1)) → SameBelow old copied freed → SameFrom old copied (freed + (place - (freed + 1))) → set copied (place - 1) id ≡ insert (remove old freed) (place - 1) id
moved_before old copied freed place id low within long copies before behind =
    let below : freed < length old = omega (arith, low, within) in
    let less : List ShapeId = remove old freed in
    let shorter = length-remove old freed below in
    let at : ℕ = place - 1 in
    let inside_less : at ≤ length less = omega (arith, shorter, within) in
    same_lists (set copied at id) (insert less at id) (length-set copied at id ∙ long ∙ sym (length-insert less at id inside_less ∙ shorter)) (λ k d inside. elim (cases_lt k at) [
      | inl h ↦ get_or-set_other copied at k id d (λ e. omega (arith, e, h)) ∙ elim (cases_lt k freed) [
        | inl first ↦ before k d first ∙ sym (get_or-insert_below less at id d k h inside_less ∙ get_or-remove_below old freed d k first below)
        | inr between ↦
            let from : freed + 1 + (k - freed) ≡ k + 1 = omega (arith, between) in
            copies k d between (omega (arith, h, low)) ∙ ap (λ (m : ℕ). get_or old m d) from ∙ sym (get_or-insert_below less at id d k h inside_less ∙ get_or-remove_above old freed d k between below)
      ]
      | inr h ↦ elim (cases_lt at k) [
        | inr same ↦
            let is : k ≡ at = omega (arith, h, same) in
            rw is (get_or-set_same copied at id d (omega (arith, long, low, within)) ∙ sym (get_or-insert_at less at id d inside_less))
        | inl above ↦
            let back : (k - 1) + 1 ≡ k = omega (arith, above) in
            let right : get_or (insert less at id) k d ≡ get_or less (k - 1) d = ap (λ (m : ℕ). get_or (insert less at id) m d) (sym back) ∙ get_or-insert_above less at id d (k - 1) (omega (arith, above)) inside_less in
            get_or-set_other copied at k id d (λ e. omega (arith, e, above)) ∙ behind k d (omega (arith, above, low)) ∙ sym (right ∙ get_or-remove_above old freed d (k - 1) (omega (arith, above, low)) below ∙ ap (λ (m : ℕ). get_or old m d) back)
      ]
    ])

-- where no gap is found, there is room for a slot more
pub has_room : (ids lent : List ShapeId) (room asked : ℕ) → lent ≡ ids → asked ≡ room → (asked ≤ length lent → (k : ℕ) → ¬ IsGap lent k) → (((k : ℕ) → ¬ IsGap ids k) → length ids < room) → length ids < room
has_room ids lent room asked same is none roomy =
    elim (cases_lt (length ids) room) [
      | inl h ↦ h
      | inr h ↦ roomy (λ k gap. none (omega (arith, h, is, ap length same)) k (subst (λ (l : List ShapeId). IsGap l k) (sym same) gap))
    ]

-- a vector that was lent as a slice of the same length
pub lent_back : (new old : List ShapeId) (n : ℕ) → length new ≡ n → take n (new ++ drop (length new) old) ≡ new
lent_back new old n long = take_at new (drop (length new) old) n long

-- one step further from a place no gap was found
pub none_nearer : (ids : List ShapeId) (place distance behind before : ℕ) → behind ≡ min (place + distance) (2 ^ 64 - 1) → before ≡ place - distance → length ids < 2 ^ 64 → ((k : ℕ) → k < place + distance → place < k + distance → ¬ IsGap ids k)
    → ¬ IsGap ids behind → ¬ IsGap ids before → (k : ℕ) → k < place + (distance + 1) → place < k + (distance + 1) → ¬ IsGap ids k
none_nearer ids place distance behind before is_behind is_before long none no_behind no_before k low high gap =
    elim (cases_lt k (place + distance)) [
      | inl h ↦ elim (cases_lt place (k + distance)) [
        | inl m ↦ none k h m gap
        | inr m ↦
            let at : before ≡ k = omega (arith, is_before, m, high) in
            no_before (subst (IsGap ids) (sym at) gap)
      ]
      | inr h ↦
          let below : k < length ids = gap.1 in
          let at : behind ≡ k = omega (arith, is_behind, h, low, below, long) in
          no_behind (subst (IsGap ids) (sym at) gap)
    ]

-- what stands before a place, gaps in the slots from it on, and what stands behind these
pub filled_from : (old new : List ShapeId) (place past : ℕ) (y : ShapeId) → 0 < place → IsRun old place past → y ≡ get_or old (place - 1) y → new ≡ take place old ++ (replicate (past - place) y ++ drop past old)
    → (s : Slab Shape) → IsOrderOf s (take place old ++ drop past old) → IsOrderOf s new
filled_from old new place past y some run at is s o =
    let first = run.some in
    let within = run.within in
    let front : length (take place old) ≡ place = length-take-le place old (omega (arith, first, within)) in
    subst (IsOrderOf s) (sym is) (filled_behind s (take place old) (drop past old) y (past - place) (omega (arith, front, some)) (λ d. ap (λ (k : ℕ). get_or (take place old) (k - 1) d) front ∙ get_or-take place old (place - 1) d (omega (arith, some)) ∙ get_or_default old (place - 1) d y (omega (arith, first, within)) ∙ sym at) o)

-- the same at the front, where they repeat the number behind them
pub filled_front : (old new : List ShapeId) (place past : ℕ) (y : ShapeId) → place ≡ 0 → past < length old → y ≡ get_or old past y → new ≡ take 0 old ++ (replicate (past - 0) y ++ drop past old)
    → (s : Slab Shape) → IsOrderOf s (take place old ++ drop past old) → IsOrderOf s new
filled_front old new place past y none below at is s o =
    let front : drop past old ≡ y ∷ drop (past + 1) old = order_front old past y below ∙ ap (λ (z : ShapeId). z ∷ drop (past + 1) old) (sym at) in
    rw is (rw front (filled_before s (drop (past + 1) old) y (past - 0) (subst (IsOrderOf s) (ap (λ (n : ℕ). take n old ++ drop past old) none ∙ front) o)))

-- a shape fewer has its room back
pub room_back : (r : Option Shape) (capacity new_capacity len new_len slots new_slots spare : ℕ) → OnSome r (new_len + 1 ≡ len) → OnSome r (new_len + 1 ≤ new_capacity) → new_capacity ≡ capacity → new_slots ≡ slots → len ≤ slots → spare ≡ min (capacity - len) (slots - len)
    → IfSome r (λ s. min (new_capacity - new_len) (new_slots - new_len) ≡ spare + 1)
room_back None capacity new_capacity len new_len slots new_slots spare fewer room a b within is = tt
room_back (Some x) capacity new_capacity len new_len slots new_slots spare fewer room a b within is = omega (arith, fewer, room, a, b, within, is)
