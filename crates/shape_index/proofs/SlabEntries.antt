-- The entries of a slab as a set of shapes.
use Rattle.std.proofs.Common.{◌≡◌, ◌≢◌, ◌<◌, ◌+◌, ℕ, zero, suc, true, false, List, [], ◌∷◌, Option, Some, None, refl, sym, ◌∙◌, subst, arith, get_or}
use Rattle.std.specs.Prelude.{sum_by, ◌==◌, IfSome}
use Rattle.std.proofs.lemmas.List.Sums.{sum_by-cons}
use Rattle.slab.specs.Slab.{Slab, entries, entries_from, get, Updates}
use Rattle.line_laws.specs.Lines.{SameThings}
use Rattle.design_model.specs.declared.identifier.ShapeId.{ShapeId}
use Rattle.shape_index.specs.Shapes.{at, numbered}
use Rattle.shape_index.specs.declared.shape.Shape.{Shape}

-- the entries of slots, of which the first has this number
abbrev pub shapes_from : ℕ → List (Option Shape) → List (ShapeId × Shape)
shapes_from k slots = numbered (entries_from k slots)

abbrev pub id_of : ℕ → ShapeId
id_of n = record { 0 = n }

differ : (a b : ℕ) → b < a → (a == b) ≡ false
differ a b h = grind arith

beside : (a b : ℕ) → a < b → (a == b) ≡ false
beside a b h = grind arith

pub at_below : (j k : ℕ) (slots : List (Option Shape)) → j < k → at (id_of j) (shapes_from k slots) ≡ None
at_below j k [] h = refl
at_below j k (None ∷ slots) h = at_below j (k + 1) slots (omega arith)
at_below j k (Some s ∷ slots) h = rw (beside j k h) (at_below j (k + 1) slots (omega arith))

pub at_entry : (i k : ℕ) (slots : List (Option Shape)) → at (id_of (k + i)) (shapes_from k slots) ≡ get_or slots i None
at_entry zero k [] = refl
at_entry (suc i) k [] = refl
at_entry zero k (None ∷ slots) = at_below (k + 0) (k + 1) slots (omega arith)
at_entry (suc i) k (None ∷ slots) = let e : k + suc i ≡ (k + 1) + i = omega arith in rw e (at_entry i (k + 1) slots)
at_entry zero k (Some s ∷ slots) = let e : (k + 0 == k) ≡ true = grind arith in rw e refl
at_entry (suc i) k (Some s ∷ slots) =
    let n = differ (k + suc i) k (omega arith) in
    let e : k + suc i ≡ (k + 1) + i = omega arith in
    rw n (subst (λ (j : ℕ). at (id_of j) (shapes_from (k + 1) slots) ≡ get_or slots i None) (sym e) (at_entry i (k + 1) slots))

-- slots that hold the same have the same entries
pub same_entries : (k : ℕ) (xs ys : List (Option Shape)) → ((i : ℕ) → get_or ys i None ≡ get_or xs i None) → entries_from k ys ≡ entries_from k xs
same_entries k [] [] h = refl
same_entries k [] (None ∷ ys) h = same_entries (k + 1) [] ys (λ i. h (suc i))
same_entries k [] (Some y ∷ ys) h = let e = h 0 in cc
same_entries k (None ∷ xs) [] h = same_entries (k + 1) xs [] (λ i. h (suc i))
same_entries k (Some x ∷ xs) [] h = let e = h 0 in cc
same_entries k (None ∷ xs) (None ∷ ys) h = same_entries (k + 1) xs ys (λ i. h (suc i))
same_entries k (None ∷ xs) (Some y ∷ ys) h = let e = h 0 in cc
same_entries k (Some x ∷ xs) (None ∷ ys) h = let e = h 0 in cc
same_entries k (Some x ∷ xs) (Some y ∷ ys) h =
    let e : Some y ≡ Some x = h 0 in
    let same : y ≡ x = cc in
    let r = same_entries (k + 1) xs ys (λ i. h (suc i)) in
    rw (same, r) refl

-- a shape more under a number that was free
pub one_more : (w : ShapeId × Shape → ℕ) (k i n : ℕ) (xs ys : List (Option Shape)) (s : Shape) → n ≡ k + i → get_or ys i None ≡ Some s → get_or xs i None ≡ None
    → ((j : ℕ) → j ≢ i → get_or ys j None ≡ get_or xs j None) → sum_by w (shapes_from k ys) ≡ w (id_of n, s) + sum_by w (shapes_from k xs)
one_more w k i n xs [] s at here free others = cc
one_more w k zero n [] (None ∷ ys) s at here free others = cc
one_more w k zero n [] (Some y ∷ ys) s at here free others =
    let r = same_entries (k + 1) [] ys (λ j. others (suc j) (λ e. omega (arith, e))) in
    let e : y ≡ s = cc in
    let f : n ≡ k = omega (arith, at) in
    rw (e, r, f) (sum_by-cons w (id_of k, s) [])
one_more w k zero n (None ∷ xs) (None ∷ ys) s at here free others = cc
one_more w k zero n (None ∷ xs) (Some y ∷ ys) s at here free others =
    let r = same_entries (k + 1) xs ys (λ j. others (suc j) (λ e. omega (arith, e))) in
    let e : y ≡ s = cc in
    let f : n ≡ k = omega (arith, at) in
    rw (e, r, f) (sum_by-cons w (id_of k, s) (shapes_from (k + 1) xs))
one_more w k zero n (Some x ∷ xs) (None ∷ ys) s at here free others = cc
one_more w k zero n (Some x ∷ xs) (Some y ∷ ys) s at here free others = cc
one_more w k (suc i) n [] (None ∷ ys) s at here free others = one_more w (k + 1) i n [] ys s (omega (arith, at)) here free (λ j apart. others (suc j) (λ e. apart (omega (arith, e))))
one_more w k (suc i) n [] (Some y ∷ ys) s at here free others = let e = others 0 (λ e. omega (arith, e)) in cc
one_more w k (suc i) n (None ∷ xs) (None ∷ ys) s at here free others = one_more w (k + 1) i n xs ys s (omega (arith, at)) here free (λ j apart. others (suc j) (λ e. apart (omega (arith, e))))
one_more w k (suc i) n (None ∷ xs) (Some y ∷ ys) s at here free others = let e = others 0 (λ e. omega (arith, e)) in cc
one_more w k (suc i) n (Some x ∷ xs) (None ∷ ys) s at here free others = let e = others 0 (λ e. omega (arith, e)) in cc
one_more w k (suc i) n (Some x ∷ xs) (Some y ∷ ys) s at here free others =
    let e : Some y ≡ Some x = others 0 (λ e. omega (arith, e)) in
    let same : y ≡ x = cc in
    let r = one_more w (k + 1) i n xs ys s (omega (arith, at)) here free (λ j apart. others (suc j) (λ e. apart (omega (arith, e)))) in
    rw same (omega (arith, r, sum_by-cons w (id_of k, x) (shapes_from (k + 1) ys), sum_by-cons w (id_of k, x) (shapes_from (k + 1) xs)))

pub added : (i : ℕ) (xs ys : List (Option Shape)) (s : Shape) → get_or ys i None ≡ Some s → get_or xs i None ≡ None
    → ((j : ℕ) → j ≢ i → get_or ys j None ≡ get_or xs j None) → SameThings (shapes_from 0 ys) ((id_of i, s) ∷ shapes_from 0 xs)
added i xs ys s here free others = record { sums = λ w. one_more w 0 i i xs ys s (omega arith) here free others ∙ sym (sum_by-cons w (id_of i, s) (shapes_from 0 xs)) }

pub slab_at : (s : Slab Shape) (i : ℕ) → get s i ≡ at (id_of i) (numbered (entries s))
slab_at s i = let e : 0 + i ≡ i = omega arith in sym (subst (λ (j : ℕ). at (id_of j) (numbered (entries s)) ≡ get s i) e (at_entry i 0 s.slots))

pub slab_added : (s t : Slab Shape) (i : ℕ) (x : Shape) → Updates s t i (Some x) → get s i ≡ None → SameThings (numbered (entries t)) ((id_of i, x) ∷ numbered (entries s))
slab_added s t i x u free = added i s.slots t.slots x u.changed free u.others

pub slab_removed : (s t : Slab Shape) (i : ℕ) (r : Option Shape) → Updates s t i None → r ≡ get s i → IfSome r (λ x. SameThings (numbered (entries s)) ((id_of i, x) ∷ numbered (entries t)))
slab_removed s t i None u e = tt
slab_removed s t i (Some x) u e = added i t.slots s.slots x (sym e) u.changed (λ j apart. sym (u.others j apart))
