-- The regions of a component by a table of patterns.
use Rattle.std.proofs.Common.{◌≡◌, ℕ, suc, arith, Bool, true, false, not, ◌&&◌, ◌||◌, ◌==◌, List, [], ◌∷◌, ◌++◌, map, Option, Some, None, IsPermutation, refl, sym, subst, ap, ap₂, ◌∙◌}
use Rattle.std.specs.Prelude.{MatchOption}
use Rattle.std.specs.Cmp.Lexicographic.{slice_cmp}
use Rattle.std.specs.List.{filter, list_any}
use Rattle.std.specs.Option.{option_to_list}
use Rattle.std.specs.Ordering.{is_eq, nat_cmp}
use Rattle.std.specs.Str.{bytes_eq}
use Rattle.std.proofs.lemmas.Bool.{ne_eqb, or_right}
use Rattle.std.proofs.lemmas.List.Folds.{list_any-append}
use Rattle.std.proofs.lemmas.List.Sorted.{IsPermutation-append_left, IsPermutation-filter_both, IsPermutation-map, IsPermutation-trans}
use Rattle.std.proofs.lemmas.Map.Text.{is_eq-slice_cmp}
use Rattle.place_kernels.proofs.Steps.{any_map, any_same}
use Rattle.place_rules.specs.Patterns.{matches, star}
use Rattle.entry_rules.specs.Unknown.{is_same}
use Rattle.design_rules.specs.Boxes.{Boxed}
use Rattle.design_rules.specs.PlaceLines.{is_assigned, is_assigned_by}
use Rattle.design_rules.specs.Surroundings.{Assignment}
use Rattle.place_checks.specs.Patterns.{assigned_view, has_star, has_starred, is_starred, regions_for, starred_view, with_star, without_star, AreRegionsOf}
use Rattle.place_kernels.specs.Stars.{Starless}
use Rattle.place_kernels.specs.Views.{starred_pattern}
use Rattle.place_kernels.specs.declared.patterns.StarredPattern.{StarredPattern}
use Rattle.place_checks.specs.declared.assigned.Assigned.{Assigned}
use Rattle.place_checks.specs.declared.assigned.Starred.{Starred}

pub or_false : (a : Bool) → (a || false) ≡ a
or_false true = refl
or_false false = refl

or_assoc : (a b c : Bool) → ((a || b) || c) ≡ (a || (b || c))
or_assoc true b c = refl
or_assoc false b c = refl

and_comm : (a b : Bool) → (a && b) ≡ (b && a)
and_comm true true = refl
and_comm true false = refl
and_comm false true = refl
and_comm false false = refl

neither_first : (a b : Bool) → (a || b) ≡ false → a ≡ false
neither_first true b h = cc
neither_first false b h = refl

neither_second : (a b : Bool) → (a || b) ≡ false → b ≡ false
neither_second true b h = cc
neither_second false b h = h

-- a pattern without a star matches itself alone
starless_matches : (p name : List ℕ) → has_star p ≡ false → matches p name ≡ bytes_eq p name
unfolding matches
starless_matches [] [] h = refl
starless_matches [] (b ∷ bs) h = refl
starless_matches (x ∷ ps) [] h = let first : (x == star) ≡ false = neither_first _ _ h in rw first refl
starless_matches (x ∷ ps) (b ∷ bs) h =
    let first : (x == star) ≡ false = neither_first _ _ h in
    rw first (ap (λ z. x == b && z) (starless_matches ps bs (neither_second _ _ h)))

never : (a : Bool) → (not a && a) ≡ false
never true = refl
never false = refl

not_not : (a : Bool) → not (not a) ≡ a
not_not true = refl
not_not false = refl

pub any_never : {X : Type 0} (xs : List X) → list_any (λ x. false) xs ≡ false
any_never [] = refl
any_never (x ∷ xs) = any_never xs

module _ {X : Type 0} (p q : X → Bool) where
  any_filtered_first : (x : X) (xs : List X) (b : Bool) → p x ≡ b → list_any q (filter p xs) ≡ list_any (λ y. p y && q y) xs → list_any q (filter p (x ∷ xs)) ≡ list_any (λ y. p y && q y) (x ∷ xs)
  any_filtered_first x xs true e rest = rw e (ap (λ z. q x || z) rest)
  any_filtered_first x xs false e rest = rw e rest

  pub any_filtered : (xs : List X) → list_any q (filter p xs) ≡ list_any (λ y. p y && q y) xs
  any_filtered [] = refl
  any_filtered (x ∷ xs) = any_filtered_first x xs (p x) refl (any_filtered xs)

module _ (c : Boxed) (region : List ℕ) where
  abbrev is_here : List ℕ → Bool
  is_here r = bytes_eq r region

  own_region : (own : Option (List ℕ)) → list_any is_here (option_to_list own) ≡ is_same region own
  own_region None = refl
  own_region (Some r) = or_false _

  -- by patterns that the name matches
  matched : (all : List Assignment) → list_any is_here (regions_for c.name all) ≡ list_any (is_assigned_by c region) all
  matched all =
      sym (any_map is_here (λ (a : Assignment). a.region) _)
      ∙ any_filtered (λ (a : Assignment). list_any (λ p. matches p c.name) a.patterns) (λ a. is_here a.region) all
      ∙ any_same _ _ (λ a. and_comm (list_any (λ p. matches p c.name) a.patterns) (is_here a.region)) all

  -- by patterns without a star that are the name
  abbrev is_name : Assigned → Bool
  is_name a = is_eq (slice_cmp nat_cmp a.pattern.now c.name)

  named_first : (a : Assigned) → is_starred a ≡ false → (is_name a && is_here a.region.now) ≡ is_assigned_by c region (assigned_view a)
  named_first a h =
      and_comm (is_name a) (is_here a.region.now)
      ∙ ap (λ z. is_here a.region.now && z) (is_eq-slice_cmp a.pattern.now c.name ∙ sym (starless_matches a.pattern.now c.name h) ∙ sym (or_false _))

  named_all : (named : List Assigned) → list_any is_starred named ≡ false → list_any (λ a. is_name a && is_here a.region.now) named ≡ list_any (λ a. is_assigned_by c region (assigned_view a)) named
  named_all [] h = refl
  named_all (a ∷ named) h = ap₂ (λ u v. u || v) (named_first a (neither_first _ _ h)) (named_all named (neither_second _ _ h))

  named_regions : (named : List Assigned) → list_any is_starred named ≡ false
      → list_any is_here (map (λ (a : Assigned). a.region.now) (filter is_name named)) ≡ list_any (is_assigned_by c region) (map assigned_view named)
  named_regions named h =
      sym (any_map is_here (λ (a : Assigned). a.region.now) (filter is_name named))
      ∙ any_filtered is_name (λ (a : Assigned). is_here a.region.now) named
      ∙ named_all named h
      ∙ any_map (is_assigned_by c region) assigned_view named

  or_parts : (a b d x y z : Bool) → a ≡ x → b ≡ y → d ≡ z → ((a || b) || d) ≡ (x || (y || z))
  or_parts a b d x y z h k m = rw (h, k, m) (or_assoc x y z)

  -- the regions of a component, by parts
  has_region : (named : List Assigned) (starred : List Assignment) → list_any is_starred named ≡ false
      → list_any is_here ((option_to_list c.region ++ map (λ (a : Assigned). a.region.now) (filter is_name named)) ++ regions_for c.name starred)
      ≡ is_assigned (map assigned_view named ++ starred) c region
  has_region named starred h =
      let own = option_to_list c.region in
      let by_name = map (λ (a : Assigned). a.region.now) (filter is_name named) in
      let by_star = regions_for c.name starred in
      let left : list_any is_here ((own ++ by_name) ++ by_star) ≡ ((list_any is_here own || list_any is_here by_name) || list_any is_here by_star) =
      list_any-append is_here (own ++ by_name) by_star ∙ ap (λ z. z || list_any is_here by_star) (list_any-append is_here own by_name) in
      let groups = list_any-append (is_assigned_by c region) (map assigned_view named) starred in
      left
      ∙ or_parts _ _ _ _ _ _ (own_region c.region) (named_regions named h) (matched starred)
      ∙ ap (λ z. is_same region c.region || z) (sym groups)

pub regions_are : (c : Boxed) (named here : List Assigned) (starred lent : List Starred) (none own by_name all : List (List ℕ)) → list_any is_starred named ≡ false
    → none ≡ [] → own ≡ none ++ option_to_list c.region → here ≡ filter (λ a. is_eq (slice_cmp nat_cmp a.pattern.now c.name)) named → by_name ≡ own ++ map (λ (a : Assigned). a.region.now) here
    → lent ≡ starred → all ≡ by_name ++ regions_for c.name (map starred_view lent) → AreRegionsOf (map assigned_view named ++ map starred_view starred) c all
regions_are c named here starred lent none own by_name all h e0 e1 e2 e3 e4 e5 = λ region. rw (e5, e4, e3, e2, e1, e0) (has_region c region named (map starred_view starred) h)

-- all patterns, each by itself, parted into those without a star and those with one
none_starred : (all : List Assignment) → list_any has_starred (without_star all) ≡ false
none_starred all = any_filtered (λ (a : Assignment). not (has_starred a)) has_starred all ∙ any_same _ (λ a. false) (λ a. never (has_starred a)) all ∙ any_never all

pub parted_without_star : (all : List Assignment) (named : List Assigned) → map assigned_view named ≡ without_star all → list_any is_starred named ≡ false
parted_without_star all named is =
    any_same is_starred (λ a. has_starred (assigned_view a)) (λ a. sym (or_false (is_starred a))) named
    ∙ any_map has_starred assigned_view named
    ∙ ap (list_any has_starred) is
    ∙ none_starred all

pub parted : (all : List Assignment) (named sorted : List Assigned) (starred : List Assignment) → map assigned_view named ≡ without_star all → starred ≡ with_star all → IsPermutation named sorted
    → IsPermutation all (map assigned_view sorted ++ starred)
parted all named sorted starred first second moved =
    let both = IsPermutation-filter_both (λ (a : Assignment). not (has_starred a)) has_starred (λ a. sym (not_not (has_starred a))) all in
    let lists : without_star all ++ with_star all ≡ map assigned_view named ++ starred = sym (ap₂ (λ u v. u ++ v) first second) in
    IsPermutation-trans _ _ _ (subst (IsPermutation all) lists both) (IsPermutation-append_left starred (map assigned_view named) (map assigned_view sorted) (IsPermutation-map assigned_view named sorted moved))

-- a pattern has a star, or none
pub starless_has_none : (p : List ℕ) → Starless p → has_star p ≡ false
starless_has_none [] starless = refl
starless_has_none (b ∷ p) starless =
    let first : (b == star) ≡ false = ne_eqb b star (starless 0 0 (omega arith)) in
    rw first (starless_has_none p (λ k d below. starless (suc k) d (omega arith)))

pub starred_has_one : (front after : List ℕ) → has_star (front ++ (star ∷ after)) ≡ true
starred_has_one [] after = refl
starred_has_one (b ∷ front) after = or_right (b == star) _ (starred_has_one front after)

pub has_star_or_none : (pattern : List ℕ) (found : Option StarredPattern) → MatchOption found (Starless pattern) (λ p. starred_pattern p ≡ pattern)
    → MatchOption found (has_star pattern ≡ false) (λ p. (starred_pattern p ≡ pattern) × (has_star pattern ≡ true))
has_star_or_none pattern None starless = starless_has_none pattern starless
has_star_or_none pattern (Some p) is = (is, ap has_star (sym is) ∙ starred_has_one p.front.now p.after.now)
