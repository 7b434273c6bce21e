-- Which labellings respect the joins of parts: those that give each two parts that are joined one label.
use Rattle.std.proofs.Common.{◌≡◌, ◌<◌, ◌+◌, ℕ, zero, suc, Bool, true, false, ◌||◌, List, [], ◌∷◌, ◌++◌, map, filter, length, refl, sym, ap, ◌∙◌, arith}
use Rattle.std.specs.Prelude.{Some, slice_get, zip, nat_lt}
use Rattle.std.specs.List.{list_any}
use Rattle.shape_rules.specs.Classes.{Respects, numbers}
use Rattle.shape_rules.specs.Meeting.{pairs_of}
use Rattle.connection_rules.specs.NetParts.{Part}
use Rattle.connection_rules.specs.PartClasses.{are_joined, joins, touch}
use Rattle.net_queries.proofs.Joins.{split}
use Rattle.net_queries.proofs.Parted.{touch_turned}

-- whether some of one list passes a test with some of another, whichever is asked first
exchanged : (a b c d : Bool) → ((a || b) || (c || d)) ≡ ((a || c) || (b || d))
exchanged true b c d = refl
exchanged false true true d = refl
exchanged false true false d = refl
exchanged false false c d = refl

any_of_two : {X : Type 0} (f g : X → Bool) (xs : List X) → list_any (λ x. f x || g x) xs ≡ (list_any f xs || list_any g xs)
any_of_two f g [] = refl
any_of_two f g (x ∷ xs) = ap (λ t. (f x || g x) || t) (any_of_two f g xs) ∙ exchanged (f x) (g x) (list_any f xs) (list_any g xs)

never : {X : Type 0} (xs : List X) → list_any (λ x. false) xs ≡ false
never [] = refl
never (x ∷ xs) = never xs

any_same : {X : Type 0} (f g : X → Bool) → ((x : X) → f x ≡ g x) → (xs : List X) → list_any f xs ≡ list_any g xs
any_same f g h [] = refl
any_same f g h (x ∷ xs) = ap (λ t. t || list_any f xs) (h x) ∙ ap (λ t. g x || t) (any_same f g h xs)

any_turned : {X Y : Type 0} (f : X → Y → Bool) (xs : List X) (ys : List Y) → list_any (λ x. list_any (f x) ys) xs ≡ list_any (λ y. list_any (λ x. f x y) xs) ys
any_turned f [] ys = sym (never ys)
any_turned f (x ∷ xs) ys = ap (λ t. list_any (f x) ys || t) (any_turned f xs ys) ∙ sym (any_of_two (f x) (λ y. list_any (λ z. f z y) xs) ys)

pub joined_turned : (p q : Part) → are_joined p q ≡ are_joined q p
joined_turned p q =
    any_turned touch p.shapes q.shapes
    ∙ any_same (λ b. list_any (λ a. touch a b) p.shapes) (λ b. list_any (touch b) p.shapes) (λ b. any_same (λ a. touch a b) (touch b) (λ a. touch_turned a b) p.shapes) q.shapes

-- things that a test joins, by their numbers from k on
module _ {X : Type 0} (test : X → X → Bool) where
  abbrev from : ℕ → List X → List (ℕ × X)
  from k xs = zip (numbers k (length xs)) xs

  abbrev made : List ((ℕ × X) × (ℕ × X)) → List (ℕ × ℕ)
  made ps = map (λ p. (p.0.0, p.1.0)) (filter (λ p. test p.0.1 p.1.1) ps)

  abbrev with_each : ℕ × X → List (ℕ × X) → List ((ℕ × X) × (ℕ × X))
  with_each x ys = map (λ y. (x, y)) ys

  module _ (m : ℕ → ℕ) where
    first_kept : (x : ℕ × X) (k : ℕ) (ys : List X) (ps : List ((ℕ × X) × (ℕ × X))) → ((j : ℕ) (y : X) → slice_get ys j ≡ Some y → test x.1 y ≡ true → m x.0 ≡ m (k + j))
        → Respects m (made ps) → Respects m (made (with_each x (from k ys) ++ ps))
    unfolding numbers
    first_kept x k [] ps here later = later
    first_kept x k (y ∷ ys) ps here later =
        let none : k + 0 ≡ k = omega arith in
        let more : (j : ℕ) → k + suc j ≡ suc k + j = λ j. omega arith in
        let rest = first_kept x (suc k) ys ps (λ j z at t. here (suc j) z at t ∙ ap m (more j)) later in
        split (test x.1 y) (λ t. rw t (here 0 y refl t ∙ ap m none, rest)) (λ t. rw t rest)

    -- each two that are joined have one label, so the joins are respected,
    all_kept : (k : ℕ) (xs : List X) → ((i j : ℕ) (a b : X) → i < j → slice_get xs i ≡ Some a → slice_get xs j ≡ Some b → test a b ≡ true → m (k + i) ≡ m (k + j))
        → Respects m (made (pairs_of (from k xs)))
    unfolding numbers
    all_kept k [] h = tt
    all_kept k (x ∷ xs) h =
        let none : k + 0 ≡ k = omega arith in
        let more : (j : ℕ) → k + suc j ≡ suc k + j = λ j. omega arith in
        first_kept (k, x) (suc k) xs (pairs_of (from (suc k) xs)) (λ j y at t. sym (ap m none) ∙ h 0 (suc j) x y (omega arith) refl at t ∙ ap m (more j))
        (all_kept (suc k) xs (λ i j a b less one other t. sym (ap m (more i)) ∙ h (suc i) (suc j) a b (omega (arith, less)) one other t ∙ ap m (more j)))

    behind_first : (x : ℕ × X) (k : ℕ) (ys : List X) (ps : List ((ℕ × X) × (ℕ × X))) → Respects m (made (with_each x (from k ys) ++ ps)) → Respects m (made ps)
    unfolding numbers
    behind_first x k [] ps r = r
    behind_first x k (y ∷ ys) ps r = split (test x.1 y) (λ t. let s = rw t at r in behind_first x (suc k) ys ps s.1) (λ t. let s = rw t at r in behind_first x (suc k) ys ps s)

    first_read : (x : ℕ × X) (k : ℕ) (ys : List X) (ps : List ((ℕ × X) × (ℕ × X))) → Respects m (made (with_each x (from k ys) ++ ps))
        → (j : ℕ) (y : X) → slice_get ys j ≡ Some y → test x.1 y ≡ true → m x.0 ≡ m (k + j)
    unfolding numbers
    first_read x k [] ps r j z at t = absurd (cc)
    first_read x k (y ∷ ys) ps r zero z at t =
        let e : y ≡ z = cc in
        let u : test x.1 y ≡ true = ap (test x.1) e ∙ t in
        let none : k ≡ k + 0 = omega arith in
        let s = rw u at r in
        s.0 ∙ ap m none
    first_read x k (y ∷ ys) ps r (suc j) z at t =
        let more : suc k + j ≡ k + suc j = omega arith in
        split (test x.1 y)
        (λ u. let s = rw u at r in first_read x (suc k) ys ps s.1 j z at t ∙ ap m more)
        (λ u. let s = rw u at r in first_read x (suc k) ys ps s j z at t ∙ ap m more)

    -- and the other way
    all_read : (k : ℕ) (xs : List X) → Respects m (made (pairs_of (from k xs)))
        → (i j : ℕ) (a b : X) → i < j → slice_get xs i ≡ Some a → slice_get xs j ≡ Some b → test a b ≡ true → m (k + i) ≡ m (k + j)
    unfolding numbers
    all_read k [] r i j a b less one other t = absurd (cc)
    all_read k (x ∷ xs) r zero zero a b less one other t = absurd (omega (arith, less))
    all_read k (x ∷ xs) r zero (suc j) a b less one other t =
        let e : x ≡ a = cc in
        let none : k + 0 ≡ k = omega arith in
        let more : suc k + j ≡ k + suc j = omega arith in
        ap m none ∙ first_read (k, x) (suc k) xs (pairs_of (from (suc k) xs)) r j b other (ap (λ y. test y b) e ∙ t) ∙ ap m more
    all_read k (x ∷ xs) r (suc i) zero a b less one other t = absurd (omega (arith, less))
    all_read k (x ∷ xs) r (suc i) (suc j) a b less one other t =
        let more : (l : ℕ) → k + suc l ≡ suc k + l = λ l. omega arith in
        ap m (more i) ∙ all_read (suc k) xs (behind_first (k, x) (suc k) xs (pairs_of (from (suc k) xs)) r) i j a b (omega (arith, less)) one other t ∙ sym (ap m (more j))

-- each two parts that are joined have one label
abbrev pub JoinsKept : (ℕ → ℕ) → List Part → Type 0
JoinsKept m ps = (i j : ℕ) (a b : Part) → slice_get ps i ≡ Some a → slice_get ps j ≡ Some b → are_joined a b ≡ true → m i ≡ m j

pub respects_kept : (m : ℕ → ℕ) (ps : List Part) → JoinsKept m ps → Respects m (joins ps)
respects_kept m ps h =
    let none : (i : ℕ) → 0 + i ≡ i = λ i. omega arith in
    all_kept are_joined m 0 ps (λ i j a b less one other t. ap m (none i) ∙ h i j a b one other t ∙ sym (ap m (none j)))

pub kept_respects : (m : ℕ → ℕ) (ps : List Part) → Respects m (joins ps) → JoinsKept m ps
kept_respects m ps r i j a b one other t =
    let none : (k : ℕ) → 0 + k ≡ k = λ k. omega arith in
    split (nat_lt i j)
    (λ less. sym (ap m (none i)) ∙ all_read are_joined m 0 ps r i j a b (grind (arith, less)) one other t ∙ ap m (none j))
    (λ more. split (nat_lt j i)
    (λ less. sym (sym (ap m (none j)) ∙ all_read are_joined m 0 ps r j i b a (grind (arith, less)) other one (joined_turned b a ∙ t) ∙ ap m (none i)))
    (λ no_more. let e : i ≡ j = grind (arith, more, no_more) in ap m e))
