-- The order of all shapes of a slab, made at once.
use Rattle.std.proofs.Common.{◌≡◌, ◌≤◌, ◌<◌, ◌+◌, ℕ, zero, suc, true, false, List, [], ◌∷◌, Option, Some, None, refl, sym, ap, ◌∙◌, subst, arith, get_or, length, map, take}
use Rattle.std.proofs.Math.Path.{ap₂}
use Rattle.std.specs.Prelude.{sum_by, ◌==◌, option_map, IsPermutation, IsSorted}
use Rattle.std.specs.List.{All, Contains, cons_option}
use Rattle.std.proofs.lemmas.List.{length-map, get_or-map}
use Rattle.std.proofs.lemmas.List.Elements.{All-head, All-tail, All-map, All-weaker, All-contains_itself}
use Rattle.std.proofs.lemmas.List.Sorted.{All-permutation, sum_by-IsPermutation}
use Rattle.std.proofs.lemmas.List.Sums.{sum_by-cons, sum_by_more}
use Rattle.slab.specs.Slab.{Slab, entries, get, Updates}
use Rattle.slab.proofs.SlabLemmas.{Contains-entries}
use Rattle.line_laws.specs.Lines.{SameThings}
use Rattle.design_model.specs.declared.identifier.ShapeId.{ShapeId}
use Rattle.shape_index.specs.declared.shape.Shape.{Shape}
use Rattle.shape_index.specs.declared.tile.TileKey.{TileKey}
use Rattle.shape_index.specs.Shapes.{numbered}
use Rattle.shape_index.specs.Tiles.{key}
use Rattle.shape_index.specs.TileOrder.{Before, listed, once, AreInOrder, IsOrderOf}
use Rattle.shape_index.proofs.KeyOrder.{key_cmp, none_before}
use Rattle.shape_index.proofs.OrderChanges.{is_of}
use Rattle.shape_index.proofs.Repeats.{once_full}
use Rattle.shape_index.proofs.SlabEntries.{id_of, shapes_from, slab_added}

abbrev Entry : Type 0
Entry = ShapeId × Shape

abbrev pub number : TileKey → ShapeId
number k = record { 0 = k.id }

-- a key is that of the slab's shape under its number
record IsKeyOf (s : Slab Shape) (k : TileKey) : Type 0 where
  shape : Shape
  is : get s k.id ≡ Some shape
  key_is : key (number k, shape) ≡ k

-- the entries of such keys have these keys
listed_keys : (s : Slab Shape) (keys : List TileKey) → All (IsKeyOf s) keys → map key (listed s (map number keys)) ≡ keys
listed_keys s [] all = refl
listed_keys s (k ∷ keys) all =
    let h = All-head (IsKeyOf s) k keys all in
    rw h.is (ap₂ (λ (a : TileKey) (l : List TileKey). a ∷ l) h.key_is (listed_keys s keys (All-tail (IsKeyOf s) k keys all)))

-- what an entry of a number adds to a sum
abbrev weight : (Entry → ℕ) → ShapeId → Option Shape → ℕ
weight w id None = 0
weight w id (Some x) = w (id, x)

sum_listed : (w : Entry → ℕ) (s : Slab Shape) (keys : List TileKey) → sum_by w (listed s (map number keys)) ≡ sum_by (λ k. weight w (number k) (get s k.id)) keys
sum_listed w s [] = refl
sum_listed w s (k ∷ keys) =
    let r = sum_listed w s keys in
    let one = sum_by-cons (λ (k : TileKey). weight w (number k) (get s k.id)) k keys in
    elim (get s k.id) as (λ (o : Option Shape). get s k.id ≡ o → sum_by w (cons_option (option_map (λ (x : Shape). (number k, x)) o) (listed s (map number keys))) ≡ sum_by (λ k. weight w (number k) (get s k.id)) (k ∷ keys)) [
      | None ↦ λ e. let v : weight w (number k) (get s k.id) ≡ 0 = rw e refl in omega (arith, r, one, v)
      | Some x ↦ λ e. let v : weight w (number k) (get s k.id) ≡ w (number k, x) = rw e refl in omega (arith, r, one, v, sum_by-cons w (number k, x) (listed s (map number keys)))
    ] refl

-- entries of the slab
abbrev pub Stands : Slab Shape → ℕ × Shape → Type 0
Stands s e = get s e.0 ≡ Some e.1

pub all_stand : (s : Slab Shape) → All (Stands s) (entries s)
all_stand s = All-weaker (Contains (entries s)) (Stands s) (λ e c. (Contains-entries s e.0 e.1).0 c) (entries s) (All-contains_itself (entries s))

listed_entries : (s : Slab Shape) (es : List (ℕ × Shape)) → All (Stands s) es → listed s (map number (map key (numbered es))) ≡ numbered es
listed_entries s [] all = refl
listed_entries s (e ∷ es) all =
    let h : get s e.0 ≡ Some e.1 = All-head (Stands s) e es all in
    rw h (ap (λ (l : List Entry). (id_of e.0, e.1) ∷ l) (listed_entries s es (All-tail (Stands s) e es all)))

are_keys : (s : Slab Shape) (es : List (ℕ × Shape)) → All (Stands s) es → All (IsKeyOf s) (map key (numbered es))
are_keys s es all =
    All-map (IsKeyOf s) key (numbered es)
    (All-map (λ (e : Entry). IsKeyOf s (key e)) (λ (e : ℕ × Shape). (id_of e.0, e.1)) es
    (All-weaker (Stands s) (λ (e : ℕ × Shape). IsKeyOf s (key (id_of e.0, e.1))) (λ e h. record { shape = e.1; is = h; key_is = refl }) es all))

in_order : (es : List Entry) (keys : List TileKey) → map key es ≡ keys → IsSorted key_cmp keys → AreInOrder es
in_order es keys same sorted i j d low high =
    let long : j < length keys = omega (arith, high, length-map es key, ap length same) in
    let at_j : get_or keys j (key d) ≡ key (get_or es j d) = ap (λ (l : List TileKey). get_or l j (key d)) (sym same) ∙ get_or-map key es j d (key d) high in
    let at_i : get_or keys i (key d) ≡ key (get_or es i d) = ap (λ (l : List TileKey). get_or l i (key d)) (sym same) ∙ get_or-map key es i d (key d) (omega (arith, low, high)) in
    subst (λ (k : TileKey). ¬ Before k (key (get_or es i d))) at_j (subst (λ (k : TileKey). ¬ Before (get_or keys j (key d)) k) at_i (none_before keys i j (key d) sorted low long))

none_below : (n k : ℕ) (slots : List (Option Shape)) → n < k → sum_by (is_of n) (shapes_from k slots) ≡ 0
none_below n k [] low = refl
none_below n k (None ∷ slots) low = none_below n (k + 1) slots (omega (arith, low))
none_below n k (Some x ∷ slots) low =
    let other : (k == n) ≡ false = grind (arith, low) in
    let none : is_of n (id_of k, x) ≡ 0 = rw other refl in
    omega (arith, sum_by-cons (is_of n) (id_of k, x) (shapes_from (k + 1) slots), none, none_below n (k + 1) slots (omega (arith, low)))

one_at_most : (n k : ℕ) (slots : List (Option Shape)) → sum_by (is_of n) (shapes_from k slots) ≤ 1
one_at_most n k [] = omega arith
one_at_most n k (None ∷ slots) = one_at_most n (k + 1) slots
one_at_most n k (Some x ∷ slots) =
    let sum = sum_by-cons (is_of n) (id_of k, x) (shapes_from (k + 1) slots) in
    elim (k == n) as (λ b. (k == n) ≡ b → sum_by (is_of n) (shapes_from k (Some x ∷ slots)) ≤ 1) [
      | true ↦ λ t.
          let same : k ≡ n = grind (arith, t) in
          let one : is_of n (id_of k, x) ≡ 1 = rw t refl in
          omega (arith, sum, one, none_below n (k + 1) slots (omega (arith, same)))
      | false ↦ λ t.
          let none : is_of n (id_of k, x) ≡ 0 = rw t refl in
          omega (arith, sum, none, one_at_most n (k + 1) slots)
    ] refl

two_side_by_side : (es : List Entry) (i n : ℕ) (d : Entry) → i + 1 < length es → (get_or es i d).0.0 ≡ n → (get_or es (i + 1) d).0.0 ≡ n → 2 ≤ sum_by (is_of n) es
two_side_by_side [] i n d below first next = absurd (omega (arith, below))
two_side_by_side (e ∷ []) i n d below first next = absurd (omega (arith, below))
two_side_by_side (e ∷ f ∷ es) zero n d below first next =
    let one : is_of n e ≡ 1 = counted n e first in
    let two : is_of n f ≡ 1 = counted n f next in
    omega (arith, sum_by-cons (is_of n) e (f ∷ es), sum_by-cons (is_of n) f es, one, two)
  where
    counted : (n : ℕ) (e : Entry) → e.0.0 ≡ n → is_of n e ≡ 1
    counted n e same = let t : (e.0.0 == n) ≡ true = grind (arith, same) in rw t refl
two_side_by_side (e ∷ f ∷ es) (suc i) n d below first next =
    let same : suc i + 1 ≡ suc (i + 1) = omega arith in
    omega (arith, sum_by-cons (is_of n) e (f ∷ es), two_side_by_side (f ∷ es) i n d (omega (arith, below)) first (subst (λ (k : ℕ). (get_or (e ∷ f ∷ es) k d).0.0 ≡ n) same next))

-- of the shapes of a slab, each once, none repeats another's number
once_each : (s : Slab Shape) (es : List Entry) → SameThings es (numbered (entries s)) → once es ≡ es
once_each s es same =
    once_full es (λ i d below alike.
    let n : ℕ = (get_or es i d).0.0 in
    omega (arith, two_side_by_side es i n d below refl alike, same.sums (is_of n), one_at_most n 0 s.slots))

-- the numbers of the sorted keys of all shapes
pub order_made : (s : Slab Shape) (keys sorted : List TileKey) (ids : List ShapeId) → keys ≡ map key (numbered (entries s)) → IsPermutation keys sorted → IsSorted key_cmp sorted → ids ≡ map number sorted
    → IsOrderOf s ids
order_made s keys sorted ids of_all moved rises numbers =
    let all = All-permutation (IsKeyOf s) keys sorted moved (rw of_all (are_keys s (entries s) (all_stand s))) in
    let keys_are = listed_keys s sorted all in
    let same : SameThings (listed s (map number sorted)) (numbered (entries s)) = record {
      sums = λ w.
          sum_listed w s sorted
          ∙ sum_by-IsPermutation (λ k. weight w (number k) (get s k.id)) keys sorted moved
          ∙ sym (sum_listed w s keys)
          ∙ ap (λ (l : List TileKey). sum_by w (listed s (map number l))) of_all
          ∙ ap (sum_by w) (listed_entries s (entries s) (all_stand s));
    } in
    rw numbers (record {
      all_there = sym (length-map (listed s (map number sorted)) key) ∙ ap length keys_are ∙ sym (length-map sorted number);
      same = record { sums = λ w. ap (sum_by w) (once_each s (listed s (map number sorted)) same) ∙ same.sums w };
      in_order = in_order (listed s (map number sorted)) sorted keys_are rises;
    })

sum_by-map : {A B : Type 0} (w : B → ℕ) (f : A → B) (xs : List A) → sum_by w (map f xs) ≡ sum_by (λ x. w (f x)) xs
sum_by-map w f [] = refl
sum_by-map w f (x ∷ xs) = let r = sum_by-map w f xs in omega (arith, r, sum_by-cons w (f x) (map f xs), sum_by-cons (λ y. w (f y)) x xs)

-- one shape more of a list is put in
pub one_put : (s t : Slab Shape) (n i : ℕ) (x : Shape) (xs : List Shape) → Updates s t n (Some x) → get s n ≡ None → i < length xs → x ≡ get_or xs i x
    → SameThings (map (λ e. e.1) (numbered (entries s))) (take i xs) → SameThings (map (λ e. e.1) (numbered (entries t))) (take (i + 1) xs)
one_put s t n i x xs u free below at so_far = record {
  sums = λ w.
      let now : ℕ = w (get_or xs i x) in
      let here : w x ≡ now = ap w at in
      omega (
        arith,
        here,
        so_far.sums w,
        sum_by-map w (λ (e : Entry). e.1) (numbered (entries s)),
        sum_by-map w (λ (e : Entry). e.1) (numbered (entries t)),
        (slab_added s t n x u free).sums (λ e. w e.1),
        sum_by-cons (λ (e : Entry). w e.1) (id_of n, x) (numbered (entries s)),
        sum_by_more w xs i x below,
      );
}
