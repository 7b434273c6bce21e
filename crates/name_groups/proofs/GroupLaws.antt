-- What groups mean.
use Rattle.std.proofs.Common.{◌≡◌, ℕ, Bool, true, false, ◌||◌, List, [], ◌∷◌, ◌++◌, map, refl, sym, ap, ap₂, ◌∙◌, if◌then◌else◌, arith}
use Rattle.std.proofs.lemmas.List.{append-nil, map-append}
use Rattle.std.proofs.lemmas.List.Elements.{filter-append}
use Rattle.std.proofs.lemmas.List.Folds.{list_any-append}
use Rattle.std.proofs.lemmas.Slice.Eq.{bytes_eq-Decides}
use Rattle.std.specs.List.{list_any}
use Rattle.std.specs.Str.{bytes_eq}
use Rattle.form_meanings.specs.Firsts.{has_name, with_all, with_first}
use Rattle.name_groups.specs.Groups.{Group, grouped, members_named, of_name, seen, with_member}
use Rattle.name_groups.specs.Laws.{AddedAreSeen, FoundAreSeen, GroupsGrow, MembersAreNamed}
use Rattle.name_groups.proofs.TableLemmas.{bytes_eq_sym}

same_name : (a b : List ℕ) → bytes_eq a b ≡ true → a ≡ b
same_name a b t = grind (arith, bytes_eq-Decides)

own_name : (a : List ℕ) → bytes_eq a a ≡ true
own_name a = grind (arith, bytes_eq-Decides)

-- whether a name is among others
abbrev has : List ℕ → List (List ℕ) → Bool
has n names = list_any (has_name (λ m. m) n) names

abbrev with_name : List (List ℕ) → List ℕ → List (List ℕ)
with_name names n = with_first (λ m. m) names n

has_same : (m n : List ℕ) (names : List (List ℕ)) → bytes_eq m n ≡ true → has m names ≡ has n names
has_same m n names same = ap (λ k. has k names) (same_name m n same)

has_pushed : (n m : List ℕ) (names : List (List ℕ)) → has n (names ++ m ∷ []) ≡ (has n names || bytes_eq m n)
has_pushed n m names = grind (arith, list_any-append (has_name (λ (k : List ℕ). k) n) names (m ∷ []))

has_with_name : (n m : List ℕ) (names : List (List ℕ)) → has n (with_name names m) ≡ (has n names || bytes_eq m n)
has_with_name n m names = by (has m names) refl (bytes_eq m n) refl
  where
    by : (b : Bool) → has m names ≡ b → (c : Bool) → bytes_eq m n ≡ c → has n (if b then names else names ++ m ∷ []) ≡ (has n names || c)
    by false h c e = has_pushed n m names ∙ ap (λ k. has n names || k) e
    by true h false e = grind arith
    by true h true e = grind (arith, has_same m n names)

has_all : (n : List ℕ) (before names : List (List ℕ)) → has n (with_all (λ m. m) before names) ≡ (has n before || has n names)
unfolding with_all
has_all n before [] = grind arith
has_all n before (m ∷ names) = grind (arith, has_all n (with_name before m) names, has_with_name n m before)

-- names are apart
abbrev Apart : List (List ℕ) → Type 0
Apart [] = Unit {0}
Apart (n ∷ names) = (has n names ≡ false) × Apart names

apart_pushed : (n : List ℕ) (names : List (List ℕ)) → has n names ≡ false → Apart names → Apart (names ++ n ∷ [])
apart_pushed n [] none apart = (refl, tt)
apart_pushed n (m ∷ names) none apart = (grind (arith, has_pushed m n names, bytes_eq_sym m n), apart_pushed n names (grind arith) apart.1)

apart_with : (n : List ℕ) (names : List (List ℕ)) → Apart names → Apart (with_name names n)
apart_with n names apart = by (has n names) refl
  where
    by : (b : Bool) → has n names ≡ b → Apart (if b then names else names ++ n ∷ [])
    by true h = apart
    by false h = apart_pushed n names h apart

apart_all : (before names : List (List ℕ)) → Apart before → Apart (with_all (λ m. m) before names)
unfolding with_all
apart_all before [] apart = apart
apart_all before (n ∷ names) apart = apart_all (with_name before n) names (apart_with n before apart)

all_pushed : (before names : List (List ℕ)) (n : List ℕ) → with_all (λ m. m) before (names ++ n ∷ []) ≡ with_name (with_all (λ m. m) before names) n
unfolding with_all
all_pushed before [] n = refl
all_pushed before (m ∷ names) n = all_pushed (with_name before m) names n

module _ {T : Type 0} (name_of : T → List ℕ) where
  -- of no things there are no groups, where a loop that adds begins
  pub grouped_none : grouped name_of [] ≡ []
  unfolding with_all
  grouped_none = refl

  abbrev names : List T → List (List ℕ)
  names xs = with_all (λ m. m) [] (map name_of xs)

  abbrev of : List T → List ℕ → Group T
  of xs n = record { name = n; members = of_name name_of n xs }

  -- a name that none has
  none_named : (n : List ℕ) (xs : List T) → has n (map name_of xs) ≡ false → of_name name_of n xs ≡ []
  none_named n [] none = refl
  none_named n (x ∷ xs) none = grind (arith, none_named n xs)

  none_grouped : (n : List ℕ) (xs : List T) → has n (names xs) ≡ false → of_name name_of n xs ≡ []
  none_grouped n xs none = none_named n xs (sym (has_all n [] (map name_of xs)) ∙ none)

  members_of : (n : List ℕ) (xs : List T) (ms : List (List ℕ)) → members_named n (map (of xs) ms) ≡ (if has n ms then of_name name_of n xs else [])
  members_of n xs [] = refl
  members_of n xs (m ∷ ms) = by (bytes_eq m n) refl (members_of n xs ms)
    where
      by : (b : Bool) → bytes_eq m n ≡ b → members_named n (map (of xs) ms) ≡ (if has n ms then of_name name_of n xs else [])
          → (if b then of_name name_of m xs else members_named n (map (of xs) ms)) ≡ (if b || has n ms then of_name name_of n xs else [])
      by true e later = ap (λ k. of_name name_of k xs) (same_name m n e)
      by false e later = later

  pub named : (xs : List T) (n : List ℕ) → members_named n (grouped name_of xs) ≡ of_name name_of n xs
  named xs n = by (has n (names xs)) refl
    where
      by : (b : Bool) → has n (names xs) ≡ b → members_named n (grouped name_of xs) ≡ of_name name_of n xs
      by true e = members_of n xs (names xs) ∙ ap (λ b. if b then of_name name_of n xs else []) e
      by false e = members_of n xs (names xs) ∙ ap (λ b. if b then of_name name_of n xs else []) e ∙ sym (none_grouped n xs e)

  module _ (xs : List T) (x : T) where
    stays : (m : List ℕ) → bytes_eq m (name_of x) ≡ false → of_name name_of m (xs ++ x ∷ []) ≡ of_name name_of m xs
    stays m other = grind (arith, bytes_eq_sym m (name_of x), filter-append (λ (y : T). bytes_eq (name_of y) m) xs (x ∷ []), append-nil (of_name name_of m xs))

    grows : (m : List ℕ) → bytes_eq m (name_of x) ≡ true → of_name name_of m (xs ++ x ∷ []) ≡ of_name name_of m xs ++ x ∷ []
    grows m same = grind (arith, bytes_eq_sym m (name_of x), filter-append (λ (y : T). bytes_eq (name_of y) m) xs (x ∷ []))

    others_stay : (ms : List (List ℕ)) → has (name_of x) ms ≡ false → map (of (xs ++ x ∷ [])) ms ≡ map (of xs) ms
    others_stay [] none = refl
    others_stay (m ∷ ms) none = ap₂ (λ zs gs. record { name = m; members = zs } ∷ gs) (stays m (grind arith)) (others_stay ms (grind arith))

    goes_last : (ms : List (List ℕ)) → has (name_of x) ms ≡ false → with_member (name_of x) x (map (of xs) ms) ≡ map (of xs) ms ++ record { name = name_of x; members = x ∷ [] } ∷ []
    goes_last [] none = refl
    goes_last (m ∷ ms) none = grind (arith, goes_last ms)

    goes_in : (ms : List (List ℕ)) → has (name_of x) ms ≡ true → Apart ms → with_member (name_of x) x (map (of xs) ms) ≡ map (of (xs ++ x ∷ [])) ms
    goes_in [] some apart = cc
    goes_in (m ∷ ms) some apart = by (bytes_eq m (name_of x)) refl (λ later. goes_in ms later apart.1)
      where
        by : (b : Bool) → bytes_eq m (name_of x) ≡ b
            → (has (name_of x) ms ≡ true → with_member (name_of x) x (map (of xs) ms) ≡ map (of (xs ++ x ∷ [])) ms)
            → (if b then record { name = m; members = of_name name_of m xs ++ x ∷ [] } ∷ map (of xs) ms else of xs m ∷ with_member (name_of x) x (map (of xs) ms)) ≡ of (xs ++ x ∷ []) m ∷ map (of (xs ++ x ∷ [])) ms
        by true e later = ap₂ (λ zs gs. record { name = m; members = zs } ∷ gs) (sym (grows m e)) (sym (others_stay ms (sym (has_same m (name_of x) ms e) ∙ apart.0)))
        by false e later = ap₂ (λ zs gs. record { name = m; members = zs } ∷ gs) (sym (stays m e)) (later (grind arith))

    pub grow : with_member (name_of x) x (grouped name_of xs) ≡ grouped name_of (xs ++ x ∷ [])
    grow = by (has (name_of x) (names xs)) refl ∙ sym named_more
      where
        named_more : grouped name_of (xs ++ x ∷ []) ≡ map (of (xs ++ x ∷ [])) (with_name (names xs) (name_of x))
        named_more = ap (λ ms. map (of (xs ++ x ∷ [])) ms) (ap (λ ms. with_all (λ m. m) [] ms) (map-append name_of xs (x ∷ [])) ∙ all_pushed [] (map name_of xs) (name_of x))

        last : has (name_of x) (names xs) ≡ false → of (xs ++ x ∷ []) (name_of x) ≡ record { name = name_of x; members = x ∷ [] }
        last none = ap (λ zs. record { name = name_of x; members = zs }) (grows (name_of x) (own_name (name_of x)) ∙ ap (λ zs. zs ++ x ∷ []) (none_grouped (name_of x) xs none))

        by : (b : Bool) → has (name_of x) (names xs) ≡ b → with_member (name_of x) x (map (of xs) (names xs)) ≡ map (of (xs ++ x ∷ [])) (if b then names xs else names xs ++ name_of x ∷ [])
        by true e = goes_in (names xs) e (apart_all [] (map name_of xs) tt)
        by false e =
            goes_last (names xs) e
            ∙ ap₂ (λ gs g. gs ++ g ∷ []) (sym (others_stay (names xs) e)) (sym (last e))
            ∙ sym (map-append (of (xs ++ x ∷ [])) (names xs) (name_of x ∷ []))

pub groups_grow : (T : Type 0) → GroupsGrow T
groups_grow T name_of xs x = grow name_of xs x

pub members_are_named : (T : Type 0) → MembersAreNamed T
members_are_named T name_of xs n = named name_of xs n

module _ {T U : Type 0} (f : T → U) (name : List ℕ) where
  added_step : (b : Bool) (x : T) (g : Group T) (gs put : List (Group T)) (later : List (Group U)) → map (seen f) put ≡ later
      → map (seen f) (if b then record { name = g.name; members = g.members ++ x ∷ [] } ∷ gs else g ∷ put)
      ≡ (if b then record { name = g.name; members = map f g.members ++ f x ∷ [] } ∷ map (seen f) gs else seen f g ∷ later)
  added_step true x g gs put later is = ap (λ xs. record { name = g.name; members = xs } ∷ map (seen f) gs) (map-append f g.members (x ∷ []))
  added_step false x g gs put later is = ap (λ rest. seen f g ∷ rest) is

  added_seen : (x : T) (gs : List (Group T)) → map (seen f) (with_member name x gs) ≡ with_member name (f x) (map (seen f) gs)
  added_seen x [] = refl
  added_seen x (g ∷ gs) = added_step (bytes_eq g.name name) x g gs (with_member name x gs) (with_member name (f x) (map (seen f) gs)) (added_seen x gs)

  found_step : (b : Bool) (g : Group T) (later : List T) (seen_later : List U) → map f later ≡ seen_later → map f (if b then g.members else later) ≡ (if b then map f g.members else seen_later)
  found_step true g later seen_later is = refl
  found_step false g later seen_later is = is

  found_seen : (gs : List (Group T)) → map f (members_named name gs) ≡ members_named name (map (seen f) gs)
  found_seen [] = refl
  found_seen (g ∷ gs) = found_step (bytes_eq g.name name) g (members_named name gs) (members_named name (map (seen f) gs)) (found_seen gs)

pub added_are_seen : (T U : Type 0) → AddedAreSeen T U
added_are_seen T U f name x gs = added_seen f name x gs

pub found_are_seen : (T U : Type 0) → FoundAreSeen T U
found_are_seen T U f name gs = found_seen f name gs

-- a step of a loop that adds things, seen as what it sees of them
pub one_more_seen : {T U : Type 0} (f : T → U) (name_of : U → List ℕ) (xs : List U) (x : T) (old new : List (Group T)) → map (seen f) old ≡ grouped name_of xs → new ≡ with_member (name_of (f x)) x old
    → map (seen f) new ≡ grouped name_of (xs ++ f x ∷ [])
one_more_seen f name_of xs x old new was added =
    ap (λ gs. map (seen f) gs) added
    ∙ added_seen f (name_of (f x)) x old
    ∙ ap (λ gs. with_member (name_of (f x)) (f x) gs) was
    ∙ grow name_of xs (f x)
