-- The nets of shapes that touch others, by the places of their names.
use Rattle.std.proofs.Common.{◌≡◌, ◌∙◌, ◌<◌, ◌≤◌, ◌+◌, ℕ, Bool, true, false, not, ◌&&◌, ◌||◌, ◌==◌, cond, List, [], ◌∷◌, ◌++◌, length, map, Option, Some, None, refl, sym, ap, ap₂, arith, drop, get_or, slice_get, sum_by}
use Rattle.std.specs.Prelude.{count_by, filter, flat_map}
use Rattle.std.specs.List.{list_any}
use Rattle.std.specs.Option.{option_map, option_map_or}
use Rattle.std.specs.Str.{bytes_eq}
use Rattle.std.proofs.lemmas.List.{drop_all, drop_more}
use Rattle.std.proofs.lemmas.List.Folds.{list_any-append}
use Rattle.std.proofs.lemmas.List.Sums.{sum_by-append, sum_by-cons}
use Rattle.std.proofs.lemmas.Slice.Eq.{bytes_eq-Decides}
use Rattle.lef_grammar.specs.Measures.{Shape}
use Rattle.line_laws.specs.Lines.{SameThings}
use Rattle.connection_rules.specs.NetLines.{NetShape}
use Rattle.connection_rules.specs.PartClasses.{touch}
use Rattle.net_laws.specs.NetChanges.{is_one_of}
use Rattle.placed_shapes.specs.Placed.{touched_by}
use Rattle.named_shapes.specs.Named.{named, named_by, named_shapes}
use Rattle.named_shapes.specs.Touching.{AreTouching, is_known, touches_one}
use Rattle.named_shapes.proofs.NamedLists.{sum_named, weight}

none_of_both : (b c : Bool) → (b || c) ≡ false → (b ≡ false) × (c ≡ false)
none_of_both true c h = absurd (cc)
none_of_both false c h = (refl, h)

-- of numbers none passes a test, nor does one that is among them
module _ (test : ℕ → Bool) where
  one_is : (p k : ℕ) (b : Bool) (rest : List ℕ) → (p == k) ≡ b → (b || list_any (λ n. n == k) rest) ≡ true → test p ≡ false → (list_any (λ n. n == k) rest ≡ true → test k ≡ false) → test k ≡ false
  one_is p k true rest is there none later = let same : p ≡ k = grind (arith, is) in ap test (sym same) ∙ none
  one_is p k false rest is there none later = later there

  pub among_them : (k : ℕ) (xs : List ℕ) → list_any (λ n. n == k) xs ≡ true → list_any test xs ≡ false → test k ≡ false
  among_them k [] there none = absurd (cc)
  among_them k (p ∷ xs) there none =
      let both = none_of_both (test p) (list_any test xs) none in
      one_is p k (p == k) xs refl there both.0 (λ h. among_them k xs h both.1)

  -- one more behind them
  pub pushed_none : (xs ys : List ℕ) (x : ℕ) → ys ≡ xs ++ x ∷ [] → list_any test ys ≡ false → (list_any test xs ≡ false) × (test x ≡ false)
  pushed_none xs ys x is none =
      let both = none_of_both (list_any test xs) (list_any test (x ∷ [])) (sym (ap (list_any test) is ∙ list_any-append test xs (x ∷ [])) ∙ none) in
      (both.0, (none_of_both (test x) false both.1).0)

  -- one more of a list
  pub next_none : (xs : List ℕ) (i : ℕ) → i < length xs → test (get_or xs i 0) ≡ false → list_any test (drop (i + 1) xs) ≡ false → list_any test (drop i xs) ≡ false
  next_none xs i below here later = ap (list_any test) (drop_more xs i 0 below) ∙ ap₂ (λ (a b : Bool). a || b) here later

  pub none_left : (xs : List ℕ) (i : ℕ) → length xs ≤ i → list_any test (drop i xs) ≡ false
  none_left xs i past = ap (list_any test) (drop_all i xs past)

  counted_or_not : (b : Bool) → b ≡ false → ◌≡◌ {A = ℕ} (cond b 1 0) 0
  counted_or_not b h = ap (λ (c : Bool). cond c 1 0) h

  none_counted : (xs : List ℕ) → list_any test xs ≡ false → count_by test xs ≡ 0
  none_counted [] h = refl
  none_counted (x ∷ xs) h =
      let both = none_of_both (test x) (list_any test xs) h in
      let here = counted_or_not (test x) both.0 in
      let later = none_counted xs both.1 in
      omega (arith, here, later, sum_by-cons (λ (n : ℕ). cond (test n) 1 0) x xs)

-- names that are known stay so where there are more, and one that comes is known
module _ (names : List (List ℕ)) where
  known_is : (o : Option (List ℕ)) (name : List ℕ) (found : List (List ℕ)) → o ≡ Some name → option_map_or (is_one_of (found ++ name ∷ [])) o true ≡ true
  known_is o name found is =
      ap (λ (x : Option (List ℕ)). option_map_or (is_one_of (found ++ name ∷ [])) x true) is
      ∙ list_any-append (λ (n : List ℕ). bytes_eq n name) found (name ∷ [])
      ∙ last (is_one_of found name) (bytes_eq name name) ((bytes_eq-Decides name name).1 refl)
    where
      last : (a b : Bool) → b ≡ true → (a || (b || false)) ≡ true
      last true b h = refl
      last false true h = refl
      last false false h = absurd (cc)

  pub put_known : (place : ℕ) (name : List ℕ) (found now : List (List ℕ)) → Some name ≡ slice_get names place → now ≡ found ++ name ∷ [] → is_known names now place ≡ true
  put_known place name found now is pushed = ap (λ (ns : List (List ℕ)). is_known names ns place) pushed ∙ known_is (slice_get names place) name found (sym is)

  pub stays_known : (name : List ℕ) (found now : List (List ℕ)) → now ≡ found ++ name ∷ [] → (n : ℕ) → is_known names found n ≡ true → is_known names now n ≡ true
  stays_known name found now pushed n known = ap (λ (ns : List (List ℕ)). is_known names ns n) pushed ∙ by (slice_get names n) known
    where
      or_more : (a b : Bool) → a ≡ true → (a || b) ≡ true
      or_more true b h = refl
      or_more false b h = absurd (cc)

      by : (o : Option (List ℕ)) → option_map_or (is_one_of found) o true ≡ true → option_map_or (is_one_of (found ++ name ∷ [])) o true ≡ true
      by None h = refl
      by (Some x) h = list_any-append (λ (n : List ℕ). bytes_eq n x) found (name ∷ []) ∙ or_more (is_one_of found x) (list_any (λ (n : List ℕ). bytes_eq n x) (name ∷ [])) h

  pub none_known : (place : ℕ) → None ≡ slice_get names place → (found : List (List ℕ)) → is_known names found place ≡ true
  none_known place none found = ap (λ (o : Option (List ℕ)). option_map_or (is_one_of found) o true) (sym none)

-- how many shapes touch one of some, and have a place that passes a test
module _ (out : ℕ → Bool) where
  abbrev passing : List Shape → ℕ × Shape → ℕ
  passing some p = cond (touches_one some p.1 && out p.0) 1 0

  touched_counted : (o : Shape) (placed : List (ℕ × Shape)) → count_by out (touched_by placed o) ≡ sum_by (λ p. cond (touch p.1 o && out p.0) 1 0) placed
  touched_counted o [] = refl
  touched_counted o (p ∷ placed) = by (touch p.1 o) (touched_counted o placed) ∙ sym (sum_by-cons (λ (r : ℕ × Shape). cond (touch r.1 o && out r.0) 1 0) p placed)
    where
      by : (b : Bool) → count_by out (map (λ (r : ℕ × Shape). r.0) (filter (λ (r : ℕ × Shape). touch r.1 o) placed)) ≡ sum_by (λ r. cond (touch r.1 o && out r.0) 1 0) placed
          → count_by out (map (λ (r : ℕ × Shape). r.0) (cond b (p ∷ filter (λ (r : ℕ × Shape). touch r.1 o) placed) (filter (λ (r : ℕ × Shape). touch r.1 o) placed)))
          ≡ cond (b && out p.0) 1 0 + sum_by (λ r. cond (touch r.1 o && out r.0) 1 0) placed
      by true later = omega (arith, later, sum_by-cons (λ (n : ℕ). cond (out n) 1 0) p.0 (map (λ (r : ℕ × Shape). r.0) (filter (λ (r : ℕ × Shape). touch r.1 o) placed)))
      by false later = omega (arith, later)

  either : (a b c : Bool) → cond ((a || b) && c) 1 0 ≤ cond (a && c) 1 0 + cond (b && c) 1 0
  either true b true = omega arith
  either true b false = omega arith
  either false b c = omega arith

  none_touches : (placed : List (ℕ × Shape)) → sum_by (passing []) placed ≡ 0
  none_touches [] = refl
  none_touches (p ∷ placed) = let later = none_touches placed in omega (arith, later, sum_by-cons (passing []) p placed)

  first_or_others : (o : Shape) (os : List Shape) (placed : List (ℕ × Shape)) → sum_by (passing (o ∷ os)) placed ≤ sum_by (λ p. cond (touch p.1 o && out p.0) 1 0) placed + sum_by (passing os) placed
  first_or_others o os [] = omega arith
  first_or_others o os (p ∷ placed) =
      let later = first_or_others o os placed in
      let here = either (touch p.1 o) (touches_one os p.1) (out p.0) in
      omega (arith, later, here, sum_by-cons (passing (o ∷ os)) p placed, sum_by-cons (λ (r : ℕ × Shape). cond (touch r.1 o && out r.0) 1 0) p placed, sum_by-cons (passing os) p placed)

  any_counted : (some : List Shape) (placed : List (ℕ × Shape)) → sum_by (passing some) placed ≤ count_by out (flat_map (touched_by placed) some)
  any_counted [] placed = let none = none_touches placed in omega (arith, none)
  any_counted (o ∷ os) placed =
      let later = any_counted os placed in
      let here = touched_counted o placed in
      let both = first_or_others o os placed in
      omega (arith, later, here, both, sum_by-append (λ (n : ℕ). cond (out n) 1 0) (touched_by placed o) (flat_map (touched_by placed) os))

module _ (names found : List (List ℕ)) (some : List Shape) where
  abbrev other : NetShape → ℕ
  other s = cond (touches_one some s.shape && not (is_one_of found s.net)) 1 0

  abbrev unknown : ℕ → Bool
  unknown n = not (is_known names found n)

  by_place : (p : ℕ × Shape) → weight names other (named_by names p) ≤ passing unknown some p
  by_place p = by (slice_get names p.0)
    where
      by : (o : Option (List ℕ)) → weight names other (option_map (λ net. named net p.1) o) ≤ cond (touches_one some p.1 && not (option_map_or (is_one_of found) o true)) 1 0
      by None = omega arith
      by (Some net) = omega arith

  by_places : (placed : List (ℕ × Shape)) → sum_by (λ p. weight names other (named_by names p)) placed ≤ sum_by (passing unknown some) placed
  by_places [] = omega arith
  by_places (p ∷ placed) =
      let here = by_place p in
      let later = by_places placed in
      omega (arith, here, later, sum_by-cons (λ (r : ℕ × Shape). weight names other (named_by names r)) p placed, sum_by-cons (passing unknown some) p placed)

  pub all_found : (placed : List (ℕ × Shape)) (places once : List ℕ) → SameThings places (flat_map (touched_by placed) some) → ((test : ℕ → Bool) → list_any test once ≡ false → list_any test places ≡ false)
      → list_any unknown once ≡ false → AreTouching (named_shapes names placed) some found
  all_found placed places once same each none = record {
    no_other =
        let counted = none_counted unknown places (each unknown none) in
        let there = same.sums (λ (n : ℕ). cond (unknown n) 1 0) in
        let any = any_counted unknown some placed in
        let by_name = by_places placed in
        omega (arith, counted, there, any, by_name, sum_named names other placed);
  }
