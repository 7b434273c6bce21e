-- Which columns, or rows, a stretch covers.
use Rattle.std.proofs.Common.{◌≡◌, ◌+◌, ◌-◌, ◌<◌, ◌≤◌, ◌≤ℤ◌, ◌<ℤ◌, ◌+ℤ◌, ◌-ℤ◌, nat_abs, pos, negsuc, FitsSigned, w64, ◌^◌, min, max, Bool, true, false, ◌⊎◌, inl, inr, nat_lt, ◌==◌, ℕ, zero, suc, List, [], ◌∷◌, length, ℤ, Some, None, refl, sym, ap, ap₂, ◌∙◌, arith, get_or, not}
use Rattle.std.proofs.lemmas.Bool.Decides.{nat_tests}
use Rattle.std.proofs.lemmas.Int.{ints, clamps}
use Rattle.std.specs.Int.{int_max, int_min, saturate_to_bits}
use Rattle.std.specs.Int.Signed.{le_z, lt_z}
use Rattle.std.specs.List.{AllByRecursion}
use Rattle.std.specs.List.Sorted.{IsPartitionedBy, IsStrictlySortedBy}
use Rattle.std.specs.Ordering.{int_cmp}
use Rattle.std.specs.declared.cmp.Ordering.TheVariants.{Less}
use Rattle.measure_rules.specs.Density.{extent}
use Rattle.measure_rules.specs.GridCells.{between}
use Rattle.cell_sums.specs.Covered.{AreBefore, AreFull, IsCovered, is_before}
use Rattle.cell_sums.specs.Lines.{common_length, is_from, shared_by, width, width_by}
use Rattle.cell_sums.proofs.LengthLemmas.{extent_none}

pub between_some : (ls : List ℤ) (i : ℕ) (d e : ℤ) → suc i < length ls → between ls i ≡ Some (get_or ls i d, get_or ls (suc i) e)
unfolding between
between_some [] i d e within = absurd (omega (arith, within))
between_some (l ∷ []) i d e within = absurd (omega (arith, within))
between_some (l ∷ m ∷ ls) zero d e within = refl
between_some (l ∷ m ∷ ls) (suc i) d e within = between_some (m ∷ ls) i d e (omega (arith, within))

-- two lines as the code reads them
pub between_is : (ls : List ℤ) (i : ℕ) (a b : ℤ) → i + 1 < length ls → a ≡ get_or ls i a → b ≡ get_or ls (i + 1) b → between ls i ≡ Some (a, b)
between_is ls i a b within first next = between_some ls i a b (omega (arith, within)) ∙ ap₂ (λ (x y : ℤ). Some (x, y)) (sym first) (sym (next ∙ ap (λ k. get_or ls k b) (omega arith)))

pub between_none : (ls : List ℤ) (i : ℕ) → length ls ≤ i + 1 → between ls i ≡ None
unfolding between
between_none [] i past = refl
between_none (l ∷ []) i past = refl
between_none (l ∷ m ∷ ls) zero past = absurd (omega (arith, past))
between_none (l ∷ m ∷ ls) (suc i) past = between_none (m ∷ ls) i (omega (arith, past))

get_or_any : (ls : List ℤ) (i : ℕ) (d e : ℤ) → i < length ls → get_or ls i d ≡ get_or ls i e
get_or_any [] i d e within = absurd (omega (arith, within))
get_or_any (l ∷ ls) zero d e within = refl
get_or_any (l ∷ ls) (suc i) d e within = get_or_any ls i d e (omega (arith, within))

-- lines that rise don't fall from one to a later one
later_than : (l : ℤ) (ls : List ℤ) (j : ℕ) (d : ℤ) → AllByRecursion (λ m. int_cmp l m ≡ Less) ls → j < length ls → l ≤ℤ get_or ls j d
later_than l [] j d all within = absurd (omega (arith, within))
later_than l (m ∷ ls) zero d all within = let first = all.0 in grind (arith, ints)
later_than l (m ∷ ls) (suc j) d all within = later_than l ls j d all.1 (omega (arith, within))

rises_at : (ls : List ℤ) (i j : ℕ) (d : ℤ) → IsStrictlySortedBy int_cmp ls → i ≤ j → j < length ls → get_or ls i d ≤ℤ get_or ls j d
unfolding IsStrictlySortedBy
rises_at [] i j d up le within = absurd (omega (arith, within))
rises_at (l ∷ ls) zero zero d up le within = omega (arith, ints)
rises_at (l ∷ ls) (suc i) zero d up le within = absurd (omega (arith, le))
rises_at (l ∷ ls) zero (suc j) d up le within = later_than l ls j d up.0 (omega (arith, within))
rises_at (l ∷ ls) (suc i) (suc j) d up le within = rises_at ls i j d up.1 (omega (arith, le)) (omega (arith, within))

next_rises : (ls : List ℤ) (i : ℕ) (d : ℤ) → IsStrictlySortedBy int_cmp ls → suc i < length ls → get_or ls i d <ℤ get_or ls (suc i) d
unfolding IsStrictlySortedBy
next_rises [] i d up within = absurd (omega (arith, within))
next_rises (l ∷ []) i d up within = absurd (omega (arith, within))
next_rises (l ∷ m ∷ ls) zero d up within = let first = up.0.0 in grind (arith, ints)
next_rises (l ∷ m ∷ ls) (suc i) d up within = next_rises (m ∷ ls) i d up.1 (omega (arith, within))

apart : (l m : ℤ) → l <ℤ m → 1 ≤ nat_abs (m -ℤ l)
apart l m h = omega (arith, ints, h)

-- a column that is there has some length
pub some_width : (ls : List ℤ) (i : ℕ) → IsStrictlySortedBy int_cmp ls → i + 1 < length ls → 1 ≤ width ls i
some_width ls i up within =
    let is = ap width_by (between_some ls i (pos 0) (pos 0) (omega (arith, within))) in
    let some = apart _ _ (next_rises ls i (pos 0) up (omega (arith, within))) in
    omega (arith, is, some)

below_too : (a b t : ℤ) → a ≤ℤ b → lt_z b t ≡ true → lt_z a t ≡ true
below_too a b t le h = grind (arith, ints)

pub parted_below : (ls : List ℤ) (t : ℤ) → IsStrictlySortedBy int_cmp ls → IsPartitionedBy (λ l. lt_z l t) ls
parted_below ls t up = λ i j d le within h. below_too _ _ t (rises_at ls i j d up le within) h

not_below : (a b t : ℤ) → a ≤ℤ b → lt_z a t ≡ false → lt_z b t ≡ false
not_below a b t le h = grind (arith, ints)

-- a line as the code reads it
pub is_before_at : (ls : List ℤ) (place : ℤ) (i : ℕ) (d : ℤ) → i < length ls → lt_z (get_or ls i d) place ≡ is_before ls place i
is_before_at [] place i d within = absurd (omega (arith, within))
is_before_at (l ∷ ls) place zero d within = refl
is_before_at (l ∷ ls) place (suc i) d within = is_before_at ls place i d (omega (arith, within))

pub line_before : (ls : List ℤ) (place : ℤ) (i : ℕ) (l : ℤ) → i < length ls → l ≡ get_or ls i l → lt_z l place ≡ is_before ls place i
line_before ls place i l within is = ap (λ m. lt_z m place) is ∙ is_before_at ls place i l within

pub none_there : (ls : List ℤ) (place : ℤ) (i : ℕ) → length ls ≤ i → false ≡ is_before ls place i
none_there [] place i past = refl
none_there (l ∷ ls) place zero past = absurd (omega (arith, past))
none_there (l ∷ ls) place (suc i) past = none_there ls place i (omega (arith, past))

held : (ls : List ℤ) (place : ℤ) (i : ℕ) (d : ℤ) → is_before ls place i ≡ true → (i < length ls) × (lt_z (get_or ls i d) place ≡ true)
held [] place i d h = absurd (no_line h)
  where
    no_line : false ≡ true → ⊥
    no_line e = cc
held (l ∷ ls) place zero d h = (omega arith, h)
held (l ∷ ls) place (suc i) d h = let rest = held ls place i d h in (omega (arith, rest.0), rest.1)

not_held : (ls : List ℤ) (place : ℤ) (i : ℕ) (d : ℤ) → i < length ls → is_before ls place i ≡ false → lt_z (get_or ls i d) place ≡ false
not_held [] place i d within h = absurd (omega (arith, within))
not_held (l ∷ ls) place zero d within h = h
not_held (l ∷ ls) place (suc i) d within h = not_held ls place i d (omega (arith, within)) h

not_true : (b : Bool) → not b ≡ true → b ≡ false
not_true true h = cc
not_true false h = refl

module _ (ls : List ℤ) (up : IsStrictlySortedBy int_cmp ls) (place : ℤ) where
  -- so many lines lie before a place where the last of them does and the next doesn't
  pub none_before : (count : ℕ) (next : Bool) → count ≡ 0 → next ≡ is_before ls place 0 → not next ≡ true → AreBefore ls place count
  none_before count next none is h = (
    λ k d low within. absurd (omega (arith, within, none)),
    λ k d low within. not_below _ _ place (rises_at ls 0 k d up (omega arith) within) (not_held ls place 0 d (omega (arith, within)) (sym is ∙ not_true next h)),
  )

  pub some_before : (count : ℕ) (last next : Bool) → last ≡ is_before ls place (count - 1) → last ≡ true → next ≡ is_before ls place count → not next ≡ true → AreBefore ls place count
  some_before count last next last_is e is h = (
    λ k d low within. let here = held ls place (count - 1) d (sym last_is ∙ e) in below_too _ _ place (rises_at ls k (count - 1) d up (omega (arith, within)) here.0) here.1,
    λ k d low within. not_below _ _ place (rises_at ls count k d up low within) (not_held ls place count d (omega (arith, low, within)) (sym is ∙ not_true next h)),
  )

-- the place behind another, as 64 bits hold it
pub next_follows : (low next : ℤ) → FitsSigned w64 low → next ≡ saturate_to_bits 63 (low +ℤ pos 1) → next ≤ℤ (low +ℤ pos 1)
next_follows (pos n) next fits is = omega (arith, ints, is)
next_follows (negsuc zero) next fits is = omega (arith, ints, is)
next_follows (negsuc (suc n)) next fits is =
    let sum : (negsuc (suc n) +ℤ pos 1) ≡ negsuc n = omega (arith, ints) in
    let next_is = is ∙ ap (saturate_to_bits 63) sum in
    let small : n < 2 ^ 63 = omega (arith, fits) in
    omega (arith, ints, sum, next_is, small)

-- and it isn't before that one
pub next_not_before : (low next : ℤ) → FitsSigned w64 low → next ≡ saturate_to_bits 63 (low +ℤ pos 1) → low ≤ℤ next
next_not_before (pos n) next fits is = omega (arith, ints, is, fits)
next_not_before (negsuc zero) next fits is = omega (arith, ints, is)
next_not_before (negsuc (suc n)) next fits is =
    let sum : (negsuc (suc n) +ℤ pos 1) ≡ negsuc n = omega (arith, ints) in
    let next_is = is ∙ ap (saturate_to_bits 63) sum in
    let small : n < 2 ^ 63 = omega (arith, fits) in
    omega (arith, ints, sum, next_is, small)

-- what lies between two lines of a stretch lies in it as a whole
not_behind : (l low next : ℤ) → low ≤ℤ next → lt_z l next ≡ false → low ≤ℤ l
not_behind l low next le h = grind (arith, ints)

upto_high : (m high : ℤ) → lt_z m high ≡ true → m ≤ℤ high
upto_high m high h = grind (arith, ints)

whole : (l m low high : ℤ) → low ≤ℤ l → m ≤ℤ high → l ≤ℤ m → extent (int_max l low) (int_min m high) ≡ nat_abs (m -ℤ l)
whole l m low high le ge up =
    let from : int_max l low ≡ l = omega (arith, ints, clamps, le) in
    let to : int_min m high ≡ m = omega (arith, ints, clamps, ge) in
    ap₂ extent from to ∙ omega (arith, ints, clamps, up)

-- fewer columns of those that a stretch covers
pub fewer_full : (ls : List ℤ) (low high : ℤ) (first end from to : ℕ) → AreFull ls low high first end → first ≤ from → to ≤ end → AreFull ls low high from to
fewer_full ls low high first end from to full behind upto = record {
  inside = λ i above below. full.inside i (omega (arith, behind, above)) (omega (arith, upto, below));
  within = λ some. let within = full.within (omega (arith, behind, upto, some)) in omega (arith, upto, within);
}

-- a line before the place that follows another doesn't lie behind that one
ends_before : (l m low next high : ℤ) → next ≤ℤ (low +ℤ pos 1) → lt_z m next ≡ true → int_min m high ≤ℤ int_max l low
ends_before l m low next high le h = grind (arith, ints, clamps)

begins_behind : (l m low high : ℤ) → lt_z l high ≡ false → int_min m high ≤ℤ int_max l low
begins_behind l m low high h = grind (arith, ints, clamps)

-- a number that isn't from one to another
outside_cases : (first end i : ℕ) → is_from first end i ≡ false → (i < first) ⊎ (end ≤ i)
outside_cases first end i h = grind (arith, nat_tests)

le_true : (a b : ℤ) → le_z a b ≡ true → a ≤ℤ b
le_true a b h = grind (arith, ints)

-- one place isn't behind another, as the code sees it
pub le_so : (a b x y : ℤ) → x ≡ a → y ≡ b → le_z x y ≡ true → a ≤ℤ b
le_so a b x y e f h = le_true a b (rw (e, f) at (h))

-- a stretch from the first of three lines up to the third covers no other columns than the two between them
module _ (ls : List ℤ) (up : IsStrictlySortedBy int_cmp ls) (low high a d : ℤ) (first : ℕ) (within : first + 2 < length ls) (a_is : a ≡ get_or ls first a) (d_is : d ≡ get_or ls (first + 2) d) (from : a ≤ℤ low) (to : high ≤ℤ d) where
  ends_at : (l m : ℤ) → m ≤ℤ a → int_min m high ≤ℤ int_max l low
  ends_at l m le = omega (arith, ints, clamps, le, from)

  begins_at : (l m : ℤ) → d ≤ℤ l → int_min m high ≤ℤ int_max l low
  begins_at l m le = omega (arith, ints, clamps, le, to)

  first_is : (e : ℤ) → get_or ls first e ≡ a
  first_is e = get_or_any ls first e a (omega (arith, within)) ∙ sym a_is

  third_is : (e : ℤ) → get_or ls (first + 2) e ≡ d
  third_is e = get_or_any ls (first + 2) e d within ∙ sym d_is

  no_others : (i : ℕ) → (i < first) ⊎ (first + 2 ≤ i) → (w : Bool) → nat_lt (suc i) (length ls) ≡ w → common_length ls low high i ≡ 0
  no_others i side false w = ap (λ o. shared_by low high o) (between_none ls i (grind (arith, nat_tests)))
  no_others i (inl h) true w =
      let there : suc i < length ls = grind (arith, nat_tests) in
      let rises = rises_at ls (suc i) first low up (omega (arith, h)) (omega (arith, within)) in
      ap (λ o. shared_by low high o) (between_some ls i low low there) ∙ extent_none _ _ (ends_at (get_or ls i low) (get_or ls (suc i) low) (rw (first_is low) at rises))
  no_others i (inr h) true w =
      let there : suc i < length ls = grind (arith, nat_tests) in
      let rises = rises_at ls (first + 2) i low up h (omega (arith, there)) in
      ap (λ o. shared_by low high o) (between_some ls i low low there) ∙ extent_none _ _ (begins_at (get_or ls i low) (get_or ls (suc i) low) (rw (third_is low) at rises))

  pub in_two : IsCovered ls low high first (first + 2)
  in_two = record {
    ordered = omega arith;
    outside = λ i h. no_others i (outside_cases first (first + 2) i h) (nat_lt (suc i) (length ls)) refl;
    full = record { inside = λ i above below. absurd (omega (arith, above, below)); within = λ some. within };
  }

-- where it has nothing in common with the second, it covers the first alone
pub in_one : (ls : List ℤ) (low high : ℤ) (first : ℕ) → IsCovered ls low high first (first + 2) → common_length ls low high (first + 1) ≡ 0 → IsCovered ls low high first (first + 1)
in_one ls low high first covered none = record {
  ordered = omega arith;
  outside = λ i h. by i h (i == first + 1) refl;
  full = record { inside = λ i above below. absurd (omega (arith, above, below)); within = λ some. let all = covered.full.within (omega arith) in omega (arith, all) };
}
  where
    by : (i : ℕ) → is_from first (first + 1) i ≡ false → (b : Bool) → (i == first + 1) ≡ b → common_length ls low high i ≡ 0
    by i h true e = ap (common_length ls low high) (grind (arith, nat_tests)) ∙ none
    by i h false e = covered.outside i (grind (arith, nat_tests))

module _ (ls : List ℤ) (up : IsStrictlySortedBy int_cmp ls) (low next high : ℤ) (follows : next ≤ℤ (low +ℤ pos 1)) (behind : low ≤ℤ next) (p q : ℕ) (before : AreBefore ls next p) (upto : AreBefore ls high q) where
  none_shared : (i : ℕ) → suc i < length ls → (i < p - 1) ⊎ (q ≤ i) → common_length ls low high i ≡ 0
  none_shared i within (inl h) =
      ap (λ o. shared_by low high o) (between_some ls i low low within)
      ∙ extent_none _ _ (ends_before (get_or ls i low) (get_or ls (suc i) low) low next high follows (before.0 (suc i) low (omega arith) (omega (arith, h))))
  none_shared i within (inr h) =
      ap (λ o. shared_by low high o) (between_some ls i low low within)
      ∙ extent_none _ _ (begins_behind (get_or ls i low) (get_or ls (suc i) low) low high (upto.1 i low (omega (arith, h)) (omega (arith, within))))

  past : (i : ℕ) → length ls ≤ suc i → common_length ls low high i ≡ 0
  past i h = ap (λ o. shared_by low high o) (between_none ls i (omega (arith, h)))

  outside : (i first end top : ℕ) → first ≡ p - 1 → top ≡ min q (length ls - 1) → end ≡ max top first → is_from first end i ≡ false → common_length ls low high i ≡ 0
  outside i first end top first_is top_is end_is h = by (outside_cases first end i h) (nat_lt (suc i) (length ls)) refl
    where
      by : (i < first) ⊎ (end ≤ i) → (w : Bool) → nat_lt (suc i) (length ls) ≡ w → common_length ls low high i ≡ 0
      by either false w = past i (grind (arith, nat_tests))
      by (inl k) true w = none_shared i (grind (arith, nat_tests)) (inl (omega (arith, k, first_is)))
      by (inr k) true w = none_shared i (grind (arith, nat_tests)) (inr (grind (arith, nat_tests)))

  full_at : (i first end top : ℕ) → first ≡ p - 1 → top ≡ min q (length ls - 1) → end ≡ max top first → first < i → i + 1 < end → common_length ls low high i ≡ width ls i
  full_at i first end top first_is top_is end_is above below =
      let within : suc i < length ls = omega arith in
      let from = not_behind (get_or ls i low) low next behind (before.1 i low (omega arith) (omega (arith, within))) in
      let to = upto_high (get_or ls (suc i) low) high (upto.0 (suc i) low (omega arith) (omega arith)) in
      let there = between_some ls i low low within in
      ap (λ o. shared_by low high o) there ∙ whole _ _ low high from to (rises_at ls i (suc i) low up (omega arith) within) ∙ sym (ap width_by there)

  pub covered_is : (first end top : ℕ) → first ≡ p - 1 → top ≡ min q (length ls - 1) → end ≡ max top first → IsCovered ls low high first end
  covered_is first end top first_is top_is end_is = record {
    ordered = omega arith;
    outside = λ i h. outside i first end top first_is top_is end_is h;
    full = record { inside = λ i above below. full_at i first end top first_is top_is end_is above below; within = λ some. omega (arith, top_is, end_is, some) };
  }
