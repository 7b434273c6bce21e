-- Lists that are gone over one by one, for rectangles where routing is blocked.
use Rattle.std.proofs.Common.{◌≡◌, ◌∙◌, ◌<◌, ◌≤◌, ◌+◌, ℕ, zero, suc, Bool, true, false, ◌||◌, List, [], ◌∷◌, ◌++◌, drop, get_or, length, slice_get, Some, refl, sym, ap, ap₂, arith, append_assoc, subst}
use Rattle.std.specs.Prelude.{flat_map}
use Rattle.std.specs.List.{AllByRecursion}
use Rattle.std.specs.Str.{bytes_eq}
use Rattle.std.proofs.lemmas.List.{append-nil, drop_all, drop_more}
use Rattle.std.proofs.lemmas.Option.{get_or_from_slice_get, slice_get_within}
use Rattle.line_laws.specs.Lines.{SameLines}
use Rattle.line_laws.proofs.PairSums.{times-append}
use Rattle.net_laws.specs.NetChanges.{is_one_of}
use Rattle.followed_nets.specs.Blocked.{Adds}

-- what is put of one more
pub next_put : {A B : Type 0} (f : A → List B) (xs : List A) (n : ℕ) (x : A) (now new all : List B) → Some x ≡ slice_get xs n → now ++ flat_map f (drop n xs) ≡ all → new ≡ now ++ f x → new ++ flat_map f (drop (n + 1) xs) ≡ all
next_put {A = A} {B = B} f xs n x now new all is h pushed =
    let there = drop_more xs n x (slice_get_within xs n x (sym is)) ∙ ap (λ (y : A). y ∷ drop (n + 1) xs) (get_or_from_slice_get xs n x x (sym is)) in
    ap (λ (l : List B). l ++ flat_map f (drop (n + 1) xs)) pushed
    ∙ append_assoc now (f x) (flat_map f (drop (n + 1) xs))
    ∙ sym (ap (λ (l : List A). now ++ flat_map f l) there)
    ∙ h

-- at the end of the list
pub none_left : {A B : Type 0} (f : A → List B) (xs : List A) (n : ℕ) (now all : List B) → length xs ≤ n → now ++ flat_map f (drop n xs) ≡ all → now ≡ all
none_left {A = A} f xs n now all past h = sym (ap (λ (l : List A). now ++ flat_map f l) (drop_all n xs past) ∙ append-nil now) ∙ h

pub or_none : (a b : Bool) → b ≡ false → a ≡ (a || b)
or_none true b h = refl
or_none false b h = sym h

or_assoc : (a b c : Bool) → ((a || b) || c) ≡ (a || (b || c))
or_assoc true b c = refl
or_assoc false b c = refl

module _ (names : List (List ℕ)) (i : ℕ) (x : List ℕ) (below : i < length names) (is : x ≡ get_or names i x) where
  abbrev there : drop i names ≡ x ∷ drop (i + 1) names
  there = drop_more names i x below ∙ ap (λ (y : List ℕ). y ∷ drop (i + 1) names) (sym is)

  -- one more name among those once
  pub next_once : (now new : List (List ℕ)) → ((net : List ℕ) → (is_one_of now net || is_one_of (drop i names) net) ≡ is_one_of names net)
      → ((net : List ℕ) → is_one_of new net ≡ (is_one_of now net || bytes_eq x net)) → (net : List ℕ) → (is_one_of new net || is_one_of (drop (i + 1) names) net) ≡ is_one_of names net
  next_once now new all more net =
      ap (λ (b : Bool). b || is_one_of (drop (i + 1) names) net) (more net)
      ∙ or_assoc (is_one_of now net) (bytes_eq x net) (is_one_of (drop (i + 1) names) net)
      ∙ ap (λ (l : List (List ℕ)). is_one_of now net || is_one_of l net) (sym there)
      ∙ all net

  -- each is so where one more is
  pub next_all : (P : List ℕ → Type 0) → (AllByRecursion P (drop i names) → AllByRecursion P names) → P x → AllByRecursion P (drop (i + 1) names) → AllByRecursion P names
  next_all P all own rest = all (subst (AllByRecursion P) (sym there) (own, rest))

  -- the lines of one more
  pub next_lines : (f : List ℕ → List (List ℕ)) (now new all : List (List ℕ)) → SameLines (now ++ flat_map f (drop i names)) all → Adds now (f x) new → SameLines (new ++ flat_map f (drop (i + 1) names)) all
  next_lines f now new all so_far more = record {
    often = λ q.
        let rest = flat_map f (drop (i + 1) names) in
        let had = (subst (λ (l : List (List ℕ)). SameLines (now ++ flat_map f l) all) there so_far).often q in
        let put = more.same.often q in
        omega (arith, had, put, times-append q now (f x ++ rest), times-append q (f x) rest, times-append q new rest, times-append q now (f x));
  }

-- one of a list of which each is so
pub all_at : {A : Type 0} (P : A → Type 0) (xs : List A) (i : ℕ) (x : A) → i < length xs → x ≡ get_or xs i x → AllByRecursion P xs → P x
all_at {A = A} P xs i x below is all =
    let there = drop_more xs i x below ∙ ap (λ (y : A). y ∷ drop (i + 1) xs) (sym is) in
    (subst (AllByRecursion P) there (from xs i all)).0
  where
    from : (ys : List A) (n : ℕ) → AllByRecursion P ys → AllByRecursion P (drop n ys)
    from ys zero h = h
    from [] (suc n) h = tt
    from (y ∷ ys) (suc n) h = from ys n h.1

-- at the end of a list
pub all_past : {A : Type 0} (P : A → Type 0) (xs : List A) (i : ℕ) → length xs ≤ i → AllByRecursion P (drop i xs)
all_past P xs i past = subst (AllByRecursion P) (sym (drop_all i xs past)) tt

pub all_lines : {A : Type 0} (f : A → List (List ℕ)) (xs : List A) (i : ℕ) (now all : List (List ℕ)) → length xs ≤ i → SameLines (now ++ flat_map f (drop i xs)) all → SameLines now all
all_lines {A = A} f xs i now all past h =
    subst (λ (ls : List (List ℕ)). SameLines ls all) (ap (λ (l : List A). now ++ flat_map f l) (drop_all i xs past) ∙ append-nil now) h
