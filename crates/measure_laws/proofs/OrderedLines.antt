-- Lines in order.
use Rattle.std.proofs.Common.{◌≡◌, Bool, true, false, ◌&&◌, ◌||◌, List, [], ◌∷◌, ℤ, ◌<ℤ◌, ◌≤ℤ◌, refl, sym, ap, ap₂, ◌∙◌, arith, if◌then◌else◌}
use Rattle.std.specs.Prelude.{int_lt}
use Rattle.std.specs.List.{list_any}
use Rattle.std.proofs.lemmas.Int.{by_lt_z, ints}
use Rattle.measure_rules.specs.GridCells.{with_line, in_order}
use Rattle.measure_laws.specs.LineLaws.{RiseFrom, Rise, HasSameLines, LinesAreInOrder, OrderIsOne}

below : (a b : ℤ) → int_lt a b ≡ true → a <ℤ b
below a b h = grind (arith, ints)

same : (a b : ℤ) → int_lt a b ≡ false → int_lt b a ≡ false → a ≡ b
same a b h k = grind (arith, ints)

rises_with : (before z : ℤ) (ls : List ℤ) → before <ℤ z → RiseFrom before ls → RiseFrom before (with_line z ls)
unfolding with_line
rises_with before z [] above rise = (above, tt)
rises_with before z (l ∷ ls) above rise = by (int_lt z l) refl (int_lt l z) refl (λ more. rises_with l z ls more rise.1)
  where
    by : (b : Bool) → int_lt z l ≡ b → (c : Bool) → int_lt l z ≡ c → (l <ℤ z → RiseFrom l (with_line z ls)) → RiseFrom before (if b then z ∷ l ∷ ls else (if c then l ∷ with_line z ls else l ∷ ls))
    by true e c f later = (above, (below z l e, rise.1))
    by false e true f later = (rise.0, later (below l z f))
    by false e false f later = rise

rise_with : (z : ℤ) (ls : List ℤ) → Rise ls → Rise (with_line z ls)
unfolding with_line
rise_with z [] rise = tt
rise_with z (l ∷ ls) rise = by (int_lt z l) refl (int_lt l z) refl
  where
    by : (b : Bool) → int_lt z l ≡ b → (c : Bool) → int_lt l z ≡ c → Rise (if b then z ∷ l ∷ ls else (if c then l ∷ with_line z ls else l ∷ ls))
    by true e c f = (below z l e, rise)
    by false e true f = rises_with l z ls (below l z f) rise
    by false e false f = rise

rise : (ls : List ℤ) → Rise (in_order ls)
unfolding in_order
rise [] = tt
rise (l ∷ ls) = rise_with l (in_order ls) (rise ls)

or_turned : (a b c : Bool) → (a || (b || c)) ≡ (b || (a || c))
or_turned true true c = refl
or_turned true false c = refl
or_turned false b c = refl

or_twice : (a b : Bool) → (a || b) ≡ (a || (a || b))
or_twice true b = refl
or_twice false b = refl

module _ (test : ℤ → Bool) where
  any_with : (z : ℤ) (ls : List ℤ) → list_any test (with_line z ls) ≡ (test z || list_any test ls)
  unfolding with_line
  any_with z [] = refl
  any_with z (l ∷ ls) = by (int_lt z l) refl (int_lt l z) refl (any_with z ls)
    where
      by : (b : Bool) → int_lt z l ≡ b → (c : Bool) → int_lt l z ≡ c → list_any test (with_line z ls) ≡ (test z || list_any test ls)
          → list_any test (if b then z ∷ l ∷ ls else (if c then l ∷ with_line z ls else l ∷ ls)) ≡ (test z || (test l || list_any test ls))
      by true e c f later = refl
      by false e true f later = ap (λ b. test l || b) later ∙ or_turned (test l) (test z) (list_any test ls)
      by false e false f later = or_twice (test l) (list_any test ls) ∙ ap (λ k. test k || (test l || list_any test ls)) (sym (same z l e f))

  any_same : (ls : List ℤ) → list_any test (in_order ls) ≡ list_any test ls
  unfolding in_order
  any_same [] = refl
  any_same (l ∷ ls) = any_with l (in_order ls) ∙ ap (λ b. test l || b) (any_same ls)

pub lines_are_in_order : LinesAreInOrder
lines_are_in_order ls = (rise ls, record { any = λ test. any_same test ls })

above : (a b : ℤ) → a <ℤ b → int_lt a b ≡ true
above a b h = grind (arith, ints)

not_above : (a b : ℤ) → b ≤ℤ a → int_lt a b ≡ false
not_above a b h = grind (arith, ints)

not_itself : (a : ℤ) → int_lt a a ≡ false
not_itself a = grind (arith, ints)

later_still : (a b c : ℤ) → a ≤ℤ b → b <ℤ c → a ≤ℤ c
later_still a b c h k = omega (arith, ints)

weaker : (a b : ℤ) → a <ℤ b → a ≤ℤ b
weaker a b h = omega (arith, ints)

behind : (a b c : ℤ) → a ≤ℤ b → b <ℤ c → a <ℤ c
behind a b c h k = omega (arith, ints)

at_itself : (a : ℤ) → a ≤ℤ a
at_itself a = omega (arith, ints)

and_true : (b : Bool) → (b && true) ≡ b
and_true true = refl
and_true false = refl

none_of : (b c : Bool) → c ≡ false → (b && c) ≡ false
none_of true c e = e
none_of false c e = refl

both_ways : (a b : ℤ) → a ≤ℤ b → b ≤ℤ a → a ≡ b
both_ways a b h k = omega (arith, ints)

-- none of rising lines is before what they rise from
none_before : (n l : ℤ) (ls : List ℤ) → n ≤ℤ l → RiseFrom l ls → list_any (λ z. int_lt z n) ls ≡ false
none_before n l [] h rise = refl
none_before n l (m ∷ ls) h rise =
    let on = later_still n l m h rise.0 in
    rw (not_above m n on) (none_before n m ls on rise.1)

-- all of them are behind what they rise from
all_behind : (test : ℤ → Bool) (a l : ℤ) (ls : List ℤ) → a ≤ℤ l → RiseFrom l ls → list_any (λ z. test z && int_lt a z) ls ≡ list_any test ls
all_behind test a l [] h rise = refl
all_behind test a l (m ∷ ls) h rise =
    let on = behind a l m h rise.0 in
    ap₂ (λ b c. b || c) (ap (λ b. test m && b) (above a m on) ∙ and_true (test m)) (all_behind test a m ls (weaker a m on) rise.1)

is_least : (l m : ℤ) (ls ms : List ℤ) → RiseFrom m ms → HasSameLines (l ∷ ls) (m ∷ ms) → m ≤ℤ l
is_least l m ls ms rise same = by_lt_z l m
    (λ (less : l <ℤ m).
    let test = λ (z : ℤ). int_lt z m in
    let e : true ≡ false = ap (λ b. b || list_any test ls) (sym (above l m less)) ∙ same.any test ∙ ap₂ (λ b c. b || c) (not_itself m) (none_before m m ms (at_itself m) rise) in
    absurd (cc))
    (λ (least : m ≤ℤ l). least)

turned : (ls ms : List ℤ) → HasSameLines ls ms → HasSameLines ms ls
turned ls ms same = record { any = λ test. sym (same.any test) }

rise_after : (l : ℤ) (ls : List ℤ) → RiseFrom l ls → Rise ls
rise_after l [] rise = tt
rise_after l (m ∷ ls) rise = rise.1

-- the lines after the first are the same, where the first is
later_same : (l m : ℤ) (ls ms : List ℤ) → l ≤ℤ m → m ≤ℤ l → RiseFrom l ls → RiseFrom m ms → HasSameLines (l ∷ ls) (m ∷ ms) → HasSameLines ls ms
later_same l m ls ms less more rise_l rise_m same = record {
  any = λ test.
      let after = λ (z : ℤ). test z && int_lt l z in
      sym (all_behind test l l ls (at_itself l) rise_l)
      ∙ sym (ap (λ b. b || list_any after ls) (none_of (test l) (int_lt l l) (not_itself l)))
      ∙ same.any after
      ∙ ap (λ b. b || list_any after ms) (none_of (test m) (int_lt l m) (not_above l m more))
      ∙ all_behind test l m ms less rise_m;
}

one_order : (ls ms : List ℤ) → Rise ls → Rise ms → HasSameLines ls ms → ls ≡ ms
one_order [] [] rise_l rise_m same = refl
one_order [] (m ∷ ms) rise_l rise_m same = let e = same.any (λ z. true) in absurd (cc)
one_order (l ∷ ls) [] rise_l rise_m same = let e = same.any (λ z. true) in absurd (cc)
one_order (l ∷ ls) (m ∷ ms) rise_l rise_m same =
    let more = is_least l m ls ms rise_m same in
    let less = is_least m l ms ls rise_l (turned (l ∷ ls) (m ∷ ms) same) in
    ap₂ (λ x xs. x ∷ xs) (both_ways l m less more) (one_order ls ms (rise_after l ls rise_l) (rise_after m ms rise_m) (later_same l m ls ms less more rise_l rise_m same))

pub order_is_one : OrderIsOne
order_is_one ls ms rise_l same = one_order ls (in_order ms) rise_l (rise ms) (record { any = λ test. same.any test ∙ sym (any_same test ms) })
