-- Sums over the names of things, each once, of what each has of its name, are sums over the things.
use Rattle.std.proofs.Common.{◌≡◌, ◌≤◌, ◌+◌, ℕ, Bool, true, false, cond, ◌||◌, List, [], ◌∷◌, ◌++◌, map, refl, ap, ◌∙◌, arith, sum_by, if◌then◌else◌}
use Rattle.std.specs.List.{All, filter, list_any}
use Rattle.std.specs.Str.{bytes_eq}
use Rattle.std.proofs.lemmas.List.Elements.{All-nil, All-cons, All-head, All-tail, All-weaker}
use Rattle.std.proofs.lemmas.List.Folds.{list_any-append}
use Rattle.std.proofs.lemmas.List.Sums.{sum_by-cons}
use Rattle.std.proofs.lemmas.Slice.Eq.{bytes_eq-Decides}
use Rattle.form_meanings.specs.Firsts.{has_name, with_all, with_first}
use Rattle.connection_rules.specs.NetParts.{Wired, all_wired, is_named}
use Rattle.measure_rules.specs.Lengths.{wired_length}
use Rattle.measure_laws.proofs.Sums.{sum_by-same, sum_by-plus, none_sum}
use Rattle.measure_laws.specs.LengthLaws.{NoneIsLonger, TotalIsOfAllEntries}

same_name : (a b : List ℕ) → bytes_eq a b ≡ true → a ≡ b
same_name a b t = grind (arith, bytes_eq-Decides)

own_name : (a : List ℕ) → bytes_eq a a ≡ true
own_name a = grind (arith, bytes_eq-Decides)

either_way : (a b : List ℕ) → bytes_eq a b ≡ bytes_eq b a
either_way a b = grind (arith, bytes_eq-Decides)

-- whether a name is among others
abbrev has : List ℕ → List (List ℕ) → Bool
has n names = list_any (has_name (λ m. m) n) names

abbrev with_name : List (List ℕ) → List ℕ → List (List ℕ)
with_name names n = with_first (λ m. m) names n

has_same : (m n : List ℕ) (names : List (List ℕ)) → bytes_eq m n ≡ true → has m names ≡ has n names
has_same m n names same = ap (λ k. has k names) (same_name m n same)

has_pushed : (n m : List ℕ) (names : List (List ℕ)) → has n (names ++ m ∷ []) ≡ (has n names || bytes_eq m n)
has_pushed n m names = grind (arith, list_any-append (has_name (λ (k : List ℕ). k) n) names (m ∷ []))

has_with_name : (n m : List ℕ) (names : List (List ℕ)) → has n (with_name names m) ≡ (has n names || bytes_eq m n)
has_with_name n m names = by (has m names) refl (bytes_eq m n) refl
  where
    by : (b : Bool) → has m names ≡ b → (c : Bool) → bytes_eq m n ≡ c → has n (if b then names else names ++ m ∷ []) ≡ (has n names || c)
    by false h c e = has_pushed n m names ∙ ap (λ k. has n names || k) e
    by true h false e = grind arith
    by true h true e = grind (arith, has_same m n names)

has_all : (n : List ℕ) (before names : List (List ℕ)) → has n (with_all (λ m. m) before names) ≡ (has n before || has n names)
unfolding with_all
has_all n before [] = grind arith
has_all n before (m ∷ names) = grind (arith, has_all n (with_name before m) names, has_with_name n m before)

-- names are apart
abbrev Apart : List (List ℕ) → Type 0
Apart [] = Unit {0}
Apart (n ∷ names) = (has n names ≡ false) × Apart names

apart_pushed : (n : List ℕ) (names : List (List ℕ)) → has n names ≡ false → Apart names → Apart (names ++ n ∷ [])
apart_pushed n [] none apart = (refl, tt)
apart_pushed n (m ∷ names) none apart = (grind (arith, has_pushed m n names, either_way m n), apart_pushed n names (grind arith) apart.1)

apart_with : (n : List ℕ) (names : List (List ℕ)) → Apart names → Apart (with_name names n)
apart_with n names apart = by (has n names) refl
  where
    by : (b : Bool) → has n names ≡ b → Apart (if b then names else names ++ n ∷ [])
    by true h = apart
    by false h = apart_pushed n names h apart

apart_all : (before names : List (List ℕ)) → Apart before → Apart (with_all (λ m. m) before names)
unfolding with_all
apart_all before [] apart = apart
apart_all before (n ∷ names) apart = apart_all (with_name before n) names (apart_with n before apart)

-- a number where a name is the one, summed over names that are apart
one_of_sum : (v : ℕ) (n : List ℕ) (names : List (List ℕ)) → Apart names → sum_by (λ m. cond (bytes_eq n m) v 0) names ≡ cond (has n names) v 0
one_of_sum v n [] apart = refl
one_of_sum v n (m ∷ names) apart = sum_by-cons (λ k. cond (bytes_eq n k) v 0) m names ∙ by (bytes_eq n m) refl (one_of_sum v n names apart.1)
  where
    by : (b : Bool) → bytes_eq n m ≡ b → sum_by (λ k. cond (bytes_eq n k) v 0) names ≡ cond (has n names) v 0 → cond b v 0 + sum_by (λ k. cond (bytes_eq n k) v 0) names ≡ cond (bytes_eq m n || has n names) v 0
    by true e later = grind (arith, either_way m n, has_same n m names e, apart.0)
    by false e later = grind (arith, either_way m n)

module _ {T : Type 0} (name_of : T → List ℕ) (weight : T → ℕ) where
  -- what the things of a name weigh
  abbrev of_name : List T → List ℕ → ℕ
  of_name xs n = sum_by weight (filter (λ x. bytes_eq (name_of x) n) xs)

  of_name-cons : (x : T) (xs : List T) (n : List ℕ) → of_name (x ∷ xs) n ≡ cond (bytes_eq (name_of x) n) (weight x) 0 + of_name xs n
  of_name-cons x xs n = by (bytes_eq (name_of x) n)
    where
      by : (b : Bool) → sum_by weight (cond b (x ∷ filter (λ x. bytes_eq (name_of x) n) xs) (filter (λ x. bytes_eq (name_of x) n) xs)) ≡ cond b (weight x) 0 + of_name xs n
      by true = sum_by-cons weight x (filter (λ x. bytes_eq (name_of x) n) xs)
      by false = omega arith

  -- the things whose names are among some that are apart
  among_sum : (names : List (List ℕ)) → Apart names → (xs : List T) → sum_by (of_name xs) names ≡ sum_by (λ x. cond (has (name_of x) names) (weight x) 0) xs
  among_sum names apart [] = none_sum names
  among_sum names apart (x ∷ xs) =
      sum_by-same (of_name (x ∷ xs)) (λ n. cond (bytes_eq (name_of x) n) (weight x) 0 + of_name xs n) (of_name-cons x xs) names
      ∙ sum_by-plus (λ n. cond (bytes_eq (name_of x) n) (weight x) 0) (of_name xs) names
      ∙ (let here = one_of_sum (weight x) (name_of x) names apart in
      let later = among_sum names apart xs in
      omega (arith, here, later, sum_by-cons (λ x. cond (has (name_of x) names) (weight x) 0) x xs))

  -- each thing's name is among the names of all
  abbrev Has : List (List ℕ) → T → Type 0
  Has names x = has (name_of x) names ≡ true

  has_more : (m : List ℕ) (names : List (List ℕ)) (x : T) → Has names x → Has (m ∷ names) x
  has_more m names x h = grind arith

  all_have : (xs : List T) → All (Has (map name_of xs)) xs
  all_have [] = All-nil (Has [])
  all_have (x ∷ xs) =
      All-cons (Has (map name_of (x ∷ xs))) x xs (grind (arith, own_name (name_of x)))
      (All-weaker (Has (map name_of xs)) (Has (map name_of (x ∷ xs))) (has_more (name_of x) (map name_of xs)) xs (all_have xs))

  all_sum : (names : List (List ℕ)) (xs : List T) → All (Has names) xs → sum_by (λ x. cond (has (name_of x) names) (weight x) 0) xs ≡ sum_by weight xs
  all_sum names [] all = refl
  all_sum names (x ∷ xs) all =
      let later = all_sum names xs (All-tail (Has names) x xs all) in
      let here = ap (λ b. cond b (weight x) 0) (All-head (Has names) x xs all) in
      omega (arith, here, later, sum_by-cons (λ x. cond (has (name_of x) names) (weight x) 0) x xs, sum_by-cons weight x xs)

  -- Over the names of things, each once, the weights of the things of each name are the weights of all things.
  pub sum_by_names : (xs : List T) → sum_by (of_name xs) (with_all (λ n. n) [] (map name_of xs)) ≡ sum_by weight xs
  sum_by_names xs =
      let names = with_all (λ n. n) [] (map name_of xs) in
      let apart = apart_all [] (map name_of xs) tt in
      let same = λ (x : T) (h : Has (map name_of xs) x). has_all (name_of x) [] (map name_of xs) ∙ h in
      among_sum names apart xs ∙ all_sum names xs (All-weaker (Has (map name_of xs)) (Has names) same xs (all_have xs))

pub total_is_of_all_entries : TotalIsOfAllEntries
total_is_of_all_entries library design u = sum_by_names (λ (w : Wired). w.name) wired_length (all_wired library design u)

-- a part of a sum
sum_by-filter : {X : Type 0} (w : X → ℕ) (p : X → Bool) (xs : List X) → sum_by w (filter p xs) ≤ sum_by w xs
sum_by-filter w p [] = omega arith
sum_by-filter w p (x ∷ xs) = by (p x) (sum_by-filter w p xs)
  where
    by : (b : Bool) → sum_by w (filter p xs) ≤ sum_by w xs → sum_by w (cond b (x ∷ filter p xs) (filter p xs)) ≤ sum_by w (x ∷ xs)
    by true less = omega (arith, less, sum_by-cons w x (filter p xs), sum_by-cons w x xs)
    by false less = omega (arith, less, sum_by-cons w x xs)

pub none_is_longer : NoneIsLonger
none_is_longer library design u name =
    let less = sum_by-filter wired_length (is_named library design u name) (all_wired library design u) in
    let same = total_is_of_all_entries library design u in
    omega (arith, less, same)
