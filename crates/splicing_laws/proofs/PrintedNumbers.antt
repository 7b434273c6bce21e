-- Printed whole numbers: some digits after at most a minus, in the place of a number, and read as one.
use Rattle.std.proofs.Common.{◌≡◌, ℕ, zero, suc, ◌+◌, ◌-◌, ◌*◌, ◌/◌, ◌%◌, ◌^◌, ◌<◌, ◌≤◌, ◌==◌, true, false, ℤ, pos, negsuc, List, [], ◌∷◌, length, fold, decimal, nat_lt, nat_le, refl, ap, ⊎_elim, lt-ltb, le-leb, ne_eqb, arith, rules}
use Rattle.std.specs.Char.{is_ascii_digit}
use Rattle.std.specs.Fmt.{signed_decimal, digits, digits_onto, digit_glyph}
use Rattle.std.specs.List.{list_all}
use Rattle.std.proofs.lemmas.Bool.{cases_Bool as cases, and_from, and_parts, leb-true}
use Rattle.std.proofs.lemmas.Fmt.{digits_value-decimal}
use Rattle.std.proofs.lemmas.Int.{ints}
use Rattle.std.proofs.lemmas.Str.Parse.{IsNumeralModel, numerals_by_fold}
use Rattle.design_model.specs.Units.{one_more, decimal_value, are_digits, unsigned, is_minus, whole}
use Rattle.form_meanings.specs.Words.{is_place}
use Rattle.splicing_laws.specs.WordLaws.{PrintedNumbersAreRead}

-- the last digit
last_digit : (n : ℕ) → is_ascii_digit (digit_glyph false (n % 10)) ≡ true
last_digit n =
    let below : n % 10 < 10 = omega arith in
    let low : 48 ≤ 48 + n % 10 = omega arith in
    let high : 48 + n % 10 ≤ 57 = omega arith in
    rw (lt-ltb (n % 10) 10 below, le-leb 48 (48 + n % 10) low, le-leb (48 + n % 10) 57 high) refl

-- digits before some others
onto_digits : (k n : ℕ) (acc : List ℕ) → are_digits acc ≡ true → are_digits (digits_onto k 10 false n acc) ≡ true
onto_digits zero n acc are = are
onto_digits (suc k) n acc are =
    let parts = and_parts (nat_lt 0 (length acc)) (list_all is_ascii_digit acc) are in
    let more : are_digits (digit_glyph false (n % 10) ∷ acc) ≡ true = and_from (nat_lt 0 (suc (length acc))) _ (lt-ltb 0 (suc (length acc)) (omega arith)) (and_from (is_ascii_digit (digit_glyph false (n % 10))) (list_all is_ascii_digit acc) (last_digit n) parts.1) in
    ⊎_elim (λ last. rw last more) (λ others. rw others (onto_digits k (n / 10) (digit_glyph false (n % 10) ∷ acc) more)) (cases (n / 10 == 0))

-- what is written of a number without a sign
pub decimal_digits : (n : ℕ) → are_digits (decimal n) ≡ true
unfolding digits
decimal_digits n =
    let one : are_digits (digit_glyph false (n % 10) ∷ []) ≡ true = rw (last_digit n) refl in
    ⊎_elim (λ last. rw last one) (λ others. rw others (onto_digits 63 (n / 10) (digit_glyph false (n % 10) ∷ []) one)) (cases (n / 10 == 0))

one_more_later : (n digit : ℕ) (digits : List ℕ) → fold one_more n (digit ∷ digits) ≡ fold one_more (n * 10 + (digit - 48)) digits
one_more_later n digit digits = let same : 10 * n + (digit - 48) ≡ n * 10 + (digit - 48) = omega arith in ap (λ (m : ℕ). fold one_more m digits) same

numerals : IsNumeralModel (λ ds. list_all is_ascii_digit ds ≡ true) (fold one_more 0)
numerals = numerals_by_fold _ (search rules) (fold one_more) (record { empty = λ n. refl; more = λ n digit digits is. one_more_later n digit digits })

pub decimal_reads : (n : ℕ) → n < 2 ^ 64 → decimal_value (decimal n) ≡ n
decimal_reads n fits = digits_value-decimal numerals n fits

first_digit : (d : ℕ) (ds : List ℕ) → are_digits (d ∷ ds) ≡ true → is_ascii_digit d ≡ true
first_digit d ds are = (and_parts (is_ascii_digit d) (list_all is_ascii_digit ds) (and_parts (nat_lt 0 (suc (length ds))) (list_all is_ascii_digit (d ∷ ds)) are).1).0

-- digits have no sign
no_sign : (ds : List ℕ) → are_digits ds ≡ true → (unsigned ds ≡ ds) × (is_minus ds ≡ false)
no_sign [] are = absurd cc
no_sign (d ∷ ds) are =
    let low = leb-true 48 d (and_parts (nat_le 48 d) (nat_le d 57) (first_digit d ds are)).0 in
    let no_plus : (d == 43) ≡ false = ne_eqb d 43 (λ e. omega arith) in
    let no_minus : (d == 45) ≡ false = ne_eqb d 45 (λ e. omega arith) in
    (rw (no_plus, no_minus) refl, no_minus)

pub printed_numbers_are_read : PrintedNumbersAreRead
unfolding whole
printed_numbers_are_read (pos n) inside =
    let few : n ≤ 2147483647 = grind (arith, ints) in
    let are = decimal_digits n in
    let fits : n < 2 ^ 64 = omega arith in
    let plain = no_sign (decimal n) are in
    rw (plain.0, plain.1, are, decimal_reads n fits, le-leb n 2147483647 few) refl
printed_numbers_are_read (negsuc n) inside =
    let few : suc n ≤ 2147483647 = grind (arith, ints) in
    let are = decimal_digits (suc n) in
    let fits : suc n < 2 ^ 64 = omega arith in
    rw (are, decimal_reads (suc n) fits, le-leb (suc n) 2147483647 few) refl

-- another byte than a digit
not_digit : (d b : ℕ) → is_ascii_digit d ≡ true → is_ascii_digit b ≡ false → (d == b) ≡ false
not_digit d b digit other = ne_eqb d b (λ e. let h : is_ascii_digit d ≡ false = rw e other in absurd cc)

digits_are_place : (ds : List ℕ) → are_digits ds ≡ true → is_place ds ≡ true
digits_are_place [] are = absurd cc
digits_are_place (d ∷ ds) are =
    let digit = first_digit d ds are in
    rw (not_digit d 34 digit refl, not_digit d 59 digit refl, not_digit d 40 digit refl, not_digit d 41 digit refl, not_digit d 43 digit refl, not_digit d 45 digit refl) refl

minus_is_place : (ds : List ℕ) → are_digits ds ≡ true → is_place (45 ∷ ds) ≡ true
minus_is_place [] are = absurd cc
minus_is_place (d ∷ ds) are = refl

pub printed_is_place : (z : ℤ) → is_place (signed_decimal z) ≡ true
printed_is_place (pos n) = digits_are_place (decimal n) (decimal_digits n)
printed_is_place (negsuc n) = minus_is_place (decimal (suc n)) (decimal_digits (suc n))
