-- Few digits spell a small number.
use Rattle.std.proofs.Common.{◌≡◌, ℕ, zero, suc, ◌+◌, ◌-◌, ◌*◌, ◌<◌, ◌≤◌, Bool, true, false, ◌&&◌, ◌==◌, List, [], ◌∷◌, length, take, arith, refl, subst, ◌∙◌, le_refl}
use Rattle.std.proofs.lemmas.List.{take_all}
use Rattle.std.specs.Prelude.{fold, nat_lt, nat_le, IsOk}
use Rattle.std.specs.List.{list_all}
use Rattle.std.specs.Char.{is_ascii_digit}
use Rattle.std.proofs.lemmas.Bool.{lt-ltb, le-leb}
use Rattle.std.proofs.lemmas.Bool.Decides.{nat_tests}
use Rattle.unit_numbers.specs.Laws.{FewDigitsAreWhole}
use Rattle.design_model.specs.Units.{one_more, decimal_value, unsigned, whole}

digit_high : (d : ℕ) → is_ascii_digit d ≡ true → d - 48 ≤ 9
digit_high d h = grind (arith, nat_tests)

both : (a b : Bool) → (a && b) ≡ true → (a ≡ true) × (b ≡ true)
both true true h = (refl, refl)
both true false h = cc
both false b h = cc

-- each digit makes the bound ten times as high
bound : ℕ → ℕ → ℕ
bound zero n = n
bound (suc k) n = bound k (10 * n)

spelled_below : (ds : List ℕ) (n m : ℕ) → n < m → list_all is_ascii_digit ds ≡ true → fold one_more n ds < bound (length ds) m
unfolding bound
spelled_below [] n m low h = low
spelled_below (d ∷ ds) n m low h =
    let digits = both (is_ascii_digit d) (list_all is_ascii_digit ds) h in
    let high = digit_high d digits.0 in
    spelled_below ds (one_more n d) (10 * m) (omega arith) digits.1

bound_grows : (k n m : ℕ) → n ≤ m → bound k n ≤ bound k m
unfolding bound
bound_grows zero n m h = h
bound_grows (suc k) n m h = bound_grows k (10 * n) (10 * m) (omega arith)

bound_longer : (j k n m : ℕ) → j + k ≡ n → bound k m ≤ bound n m
unfolding bound
bound_longer zero k n m is = let same : k ≡ n = omega arith in subst (λ (l : ℕ). bound k m ≤ bound l m) same (le_refl (bound k m))
bound_longer (suc j) k zero m is = absurd (omega arith)
bound_longer (suc j) k (suc n) m is =
    let shorter = bound_longer j k n m (omega arith) in
    let higher = bound_grows n m (10 * m) (omega arith) in
    omega arith

nine_digits : bound 9 1 ≡ 1000000000
unfolding bound
nine_digits = refl

nine : (k : ℕ) → k ≤ 9 → bound k 1 ≤ 1000000000
nine k h = subst (λ (n : ℕ). bound k 1 ≤ n) nine_digits (bound_longer (9 - k) k 9 1 (omega arith))

few_digits_within : (ds : List ℕ) → length ds ≤ 9 → list_all is_ascii_digit ds ≡ true → decimal_value ds ≤ 2147483647
few_digits_within ds few digits =
    let below = spelled_below ds 0 1 (omega arith) digits in
    let most = nine (length ds) few in
    omega arith

short_digits : (text : List ℕ) → 0 < length (unsigned text) → length (unsigned text) ≤ 9 → list_all is_ascii_digit (unsigned text) ≡ true → IsOk (whole text)
unfolding whole
short_digits text some few digits =
    let any : nat_lt 0 (length (unsigned text)) ≡ true = lt-ltb _ _ some in
    let within : nat_le (decimal_value (unsigned text)) 2147483647 ≡ true = le-leb _ _ (few_digits_within (unsigned text) few digits) in
    rw (any, digits, within) refl

-- all of a body was passed
pub short_body : (text body : List ℕ) (n : ℕ) → body ≡ unsigned text → 0 < length body → length body ≤ 9 → length body ≤ n → list_all is_ascii_digit (take n body) ≡ true → IsOk (whole text)
short_body text body n is some few all digits =
    short_digits text (subst (λ (b : List ℕ). 0 < length b) is some) (subst (λ (b : List ℕ). length b ≤ 9) is few)
    (subst (λ (b : List ℕ). list_all is_ascii_digit b ≡ true) (take_all n body all ∙ is) digits)

digit_is_no_sign : (b : ℕ) → is_ascii_digit b ≡ true → ((b == 43) ≡ false) × ((b == 45) ≡ false)
digit_is_no_sign b digit = (grind (arith, nat_tests), grind (arith, nat_tests))

-- one to nine digits have no sign
pub few_digits : FewDigitsAreWhole
unfolding whole
few_digits [] some few = cc
few_digits (b ∷ bs) some few =
    let all : list_all is_ascii_digit (b ∷ bs) ≡ true = (both (nat_lt 0 (length (b ∷ bs))) (list_all is_ascii_digit (b ∷ bs)) some).1 in
    let first = digit_is_no_sign b (both (is_ascii_digit b) (list_all is_ascii_digit bs) all).0 in
    let within : nat_le (decimal_value (b ∷ bs)) 2147483647 ≡ true = le-leb _ _ (few_digits_within (b ∷ bs) few all) in
    rw (first.0, first.1, some, within) refl
