-- Words right behind a blank.
use Rattle.std.proofs.Common.{◌≡◌, ◌≢◌, ℕ, zero, suc, ◌+◌, ◌-◌, ◌<◌, ◌≤◌, Bool, true, false, List, length, take, drop, get_or, nat_lt, ap, drop-cons, le_refl, refl, subst, sym, ◌∙◌, arith, ◌==◌, eqb-true, Some}
use Rattle.std.specs.Char.{is_ascii_digit}
use Rattle.std.specs.List.{list_all, slice_range}
use Rattle.std.proofs.lemmas.Bool.{false_from_ne_true, lt-ltb}
use Rattle.std.proofs.lemmas.Bool.Decides.{nat_tests}
use Rattle.std.proofs.lemmas.Simd.{length-chunk}
use Rattle.memchr.specs.Find.{IsFirst, Nowhere, Passes}
use Rattle.design_model.specs.Units.{are_digits}
use Rattle.statement_model.specs.Tokens.{is_white}
use Rattle.lefdef_tokens.specs.Runs.{begins, stops, ComesFirst}
use Rattle.lefdef_tokens.specs.Expected.{DigitsStand, MarkStands}
use Rattle.lefdef_tokens.proofs.Lexing.{white_step, word_before_white}

white_stops : (b : ℕ) → is_white b ≡ true → stops 32 b ≡ true
white_stops b white = grind (arith, nat_tests)

digit_goes_on : (b : ℕ) → is_ascii_digit b ≡ true → stops 32 b ≡ false
digit_goes_on b digit = grind (arith, nat_tests)

digit_begins : (b : ℕ) → is_ascii_digit b ≡ true → (begins b ≡ true) × (b ≢ 34)
digit_begins b digit = (grind (arith, nat_tests), grind (arith, nat_tests))

mark_begins : (b : ℕ) → 35 < b → b < 127 → begins b ≡ true
mark_begins b high low = grind (arith, nat_tests)

behind_blank : (text : List ℕ) (from end : ℕ) → from + 1 < end → end < length text → get_or text from 0 ≡ 32 → begins (get_or text (from + 1) 0) ≡ true
    → get_or text (from + 1) 0 ≢ 34 → Nowhere (Passes (stops 32) text) (from + 1 + 1) end → is_white (get_or text end 0) ≡ true → ComesFirst text from (from + 1) end
behind_blank text from end some within blank opens plain inside white =
    let none : (get_or text (from + 1) 0 == 34) ≡ false = false_from_ne_true (get_or text (from + 1) 0 == 34) (λ h. plain (eqb-true _ _ h)) in
    let stop : IsFirst (Passes (stops 32) text) (from + 1 + 1) (length text) (Some end) = (record { low = omega arith; high = within; before = inside }, white_stops (get_or text end 0) white) in
    record {
      low = omega arith;
      some = some;
      high = omega arith;
      left = white_step text from (omega arith) (rw blank refl) (rw blank refl) ∙ rw none (word_before_white text (from + 1) end (omega arith) opens plain stop white);
    }

pub digits_stand : (text : List ℕ) (from count : ℕ) → get_or text from 0 ≡ 32 → 0 < count → count ≤ 9 → from + 1 + count < length text
    → ((k : ℕ) → k < count → k < 16 → is_ascii_digit (get_or text (from + 1 + k) 0) ≡ true) → get_or text (from + 1 + count) 0 ≡ 32
    → DigitsStand text from (from + 1) (from + 1 + count)
digits_stand text from count blank some few within run stop =
    let digits : (k : ℕ) → from + 1 ≤ k → k < from + 1 + count → is_ascii_digit (get_or text k 0) ≡ true
    = λ k a b. let e : from + 1 + (k - (from + 1)) ≡ k = omega arith in subst (λ (n : ℕ). is_ascii_digit (get_or text n 0) ≡ true) e (run (k - (from + 1)) (omega arith) (omega arith)) in
    let first = digit_begins (get_or text (from + 1) 0) (digits (from + 1) (omega arith) (omega arith)) in
    record {
      comes = behind_blank text from (from + 1 + count) (omega arith) within blank first.0 first.1 (λ k a b stops. let goes = digit_goes_on (get_or text k 0) (digits k (omega arith) b) in let both = sym goes ∙ stops in cc) (rw stop refl);
      few = omega arith;
      digits = digits;
    }

pub mark_stands : (text : List ℕ) (from mark : ℕ) → 35 < mark → mark < 127 → from + 2 < length text → get_or text from 0 ≡ 32 → get_or text (from + 1) 0 ≡ mark → is_white (get_or text (from + 2) 0) ≡ true
    → MarkStands mark text from (from + 1) (from + 2)
mark_stands text from mark high low within blank is white = record {
  comes = behind_blank text from (from + 2) (omega arith) within blank (rw is (mark_begins mark high low)) (λ quote. omega arith) (λ k a b stops. absurd (omega arith)) white;
  one = omega arith;
  here = is;
}

all_taken : (p : ℕ → Bool) (text : List ℕ) (n a : ℕ) → a + n ≤ length text → ((k : ℕ) → a ≤ k → k < a + n → p (get_or text k 0) ≡ true) → list_all p (take n (drop a text)) ≡ true
all_taken p text zero a room each = refl
all_taken p text (suc n) a room each =
    let lt : a < length text = omega arith in
    let now = each a (le_refl a) (omega arith) in
    let later : list_all p (take n (drop (suc a) text)) ≡ true = all_taken p text n (suc a) (omega arith) (λ k low high. each k (omega arith) (omega arith)) in
    rw (drop-cons text a 0, now) later

-- the bytes of such a word
pub digits_of : (text : List ℕ) (from start end : ℕ) (bytes : List ℕ) → DigitsStand text from start end → bytes ≡ slice_range text start end
    → are_digits bytes ≡ true
digits_of text from start end bytes d is =
    let some = d.comes.some in
    let high = d.comes.high in
    let e : start + (end - start) ≡ end = omega arith in
    let long : length bytes ≡ end - start = ap length is ∙ length-chunk start (end - start) text (omega arith) in
    let all : list_all is_ascii_digit bytes ≡ true = rw is (all_taken is_ascii_digit text (end - start) start (omega arith) (λ k a b. d.digits k a (omega arith))) in
    let any : nat_lt 0 (length bytes) ≡ true = lt-ltb 0 (length bytes) (omega arith) in
    rw (any, all) refl
