-- Where blanks end and where the next one stands, by marks.
use Rattle.std.proofs.Common.{◌≡◌, ◌≢◌, ◌↔◌, ℕ, ◌+◌, ◌-◌, ◌/◌, ◌%◌, ◌^◌, ◌<◌, ◌≤◌, List, length, get_or, subst, sym, ap, ◌∙◌, arith, inl, inr, w64}
use Rattle.std.specs.Int.{bit_at, trailing_ones, trailing_zeros}
use Rattle.std.proofs.Math.Nat.{lt_of_not-le}
use Rattle.std.proofs.lemmas.Bool.{cases_lt}
use Rattle.std.proofs.lemmas.Nat.{shr-shr, shr_le}
use Rattle.std.proofs.lemmas.Nat.Bits.{bit_at-zero, bit_at_ones, bit_at-trailing_ones, bit_at-trailing_zeros}
use Rattle.lefdef_tokens.specs.Windows.{LowMarks, IsNextLow}

-- of n bytes from a place on, a mark is set for each that is a blank or below one
abbrev LowOf : ℕ → List ℕ → ℕ → ℕ → Type 0
LowOf n text at marks = (k : ℕ) → (bit_at marks k ≡ 1) ↔ ((k < n) × (get_or text (at + k) 0 ≤ 32))

-- the marks after some
shifted : (text : List ℕ) (from start marks : ℕ) → from ≤ start → LowMarks text from marks → LowOf (from + 32 - start) text start (marks / 2 ^ (start - from))
shifted text from start marks low m k =
    let s = start - from in
    let same : bit_at (marks / 2 ^ s) k ≡ bit_at marks (s + k) = ap (λ (n : ℕ). n % 2) (shr-shr marks s k) in
    let e : from + (s + k) ≡ start + k = omega arith in
    let here = m (s + k) in (
      λ set. let both = here.0 (sym same ∙ set) in let inside = both.0 in (omega arith, subst (λ (n : ℕ). get_or text n 0 ≤ 32) e both.1),
      λ both. let inside = both.0 in same ∙ here.1 (omega arith, subst (λ (n : ℕ). get_or text n 0 ≤ 32) (sym e) both.1),
    )

-- the blanks that come first
pub record Leads (text : List ℕ) (at run : ℕ) : Type 0 where
  pub few : run ≤ 32
  pub blank : (k : ℕ) → at ≤ k → k < at + run → get_or text k 0 ≤ 32

leads : (text : List ℕ) (at marks : ℕ) → marks < 2 ^ 64 → LowMarks text at marks → Leads text at (trailing_ones w64 marks)
leads text at marks fits m =
    let run = trailing_ones w64 marks in
    let some : marks ≢ 2 ^ 64 - 1 = λ all. let last = (m 63).0 (ap (λ (n : ℕ). bit_at n 63) all ∙ bit_at_ones 64 63 (omega arith)) in let low = last.0 in omega arith in
    let told = bit_at-trailing_ones w64 marks (omega arith) in
    let few : run ≤ 32 = elim (cases_lt 32 run) [
      | inl more ↦ let past = (m 32).0 (told.2 32 more) in let low = past.0 in absurd (omega arith)
      | inr not_more ↦ omega arith
    ] in
    record {
      few = few;
      blank = λ k a b. let e : at + (k - at) ≡ k = omega arith in subst (λ (n : ℕ). get_or text n 0 ≤ 32) e ((m (k - at)).0 (told.2 (k - at) (omega arith))).1;
    }

pub leading : (text : List ℕ) (at marks run : ℕ) → marks < 2 ^ 64 → LowMarks text at marks → run ≡ trailing_ones w64 marks → Leads text at run
leading text at marks run fits m is = subst (Leads text at) (sym is) (leads text at marks fits m)

-- the lowest mark is the first low byte
record First (n : ℕ) (text : List ℕ) (at r : ℕ) : Type 0 where
  pub near : r < n
  pub here : get_or text (at + r) 0 ≤ 32
  pub before : (k : ℕ) → at ≤ k → k < at + r → 32 < get_or text k 0

first_low : (n : ℕ) (text : List ℕ) (at marks : ℕ) → n ≤ 32 → 0 < marks → marks < 2 ^ 64 → LowOf n text at marks → First n text at (trailing_zeros w64 marks)
first_low n text at marks small some fits m =
    let r = trailing_zeros w64 marks in
    let told = bit_at-trailing_zeros w64 marks some fits in
    let here = (m r).0 told.1 in
    let near = here.0 in
    record {
      near = near;
      here = here.1;
      before = λ k a b. lt_of_not-le (λ low.
          let e : k ≡ at + (k - at) = omega arith in
          let set = (m (k - at)).1 (omega arith, subst (λ (p : ℕ). get_or text p 0 ≤ 32) e low) in
          let clear = told.2 (k - at) (omega arith) in
          absurd (omega arith));
    }

no_low : (n : ℕ) (text : List ℕ) (at marks : ℕ) → marks ≡ 0 → LowOf n text at marks → (k : ℕ) → at ≤ k → k < at + n → 32 < get_or text k 0
no_low n text at marks none m k a b = lt_of_not-le (λ low.
    let e : k ≡ at + (k - at) = omega arith in
    let set = (m (k - at)).1 (omega arith, subst (λ (p : ℕ). get_or text p 0 ≤ 32) e low) in
    let clear = ap (λ (p : ℕ). bit_at p (k - at)) none ∙ bit_at-zero (k - at) in
    absurd (omega arith))

-- where one byte is low and another is not, they are two
apart : (text : List ℕ) (i j : ℕ) → 32 < get_or text i 0 → get_or text j 0 ≤ 32 → i ≡ j → ⊥
apart text i j high low same = let both = subst (λ (n : ℕ). 32 < get_or text n 0) same high in absurd (omega arith)

module _ (text : List ℕ) (from start marks : ℕ) (room : from + 64 ≤ length text) (m : LowMarks text from marks) (fits : marks < 2 ^ 64) (low : from ≤ start) (near : start ≤ from + 32) (high : 32 < get_or text start 0) where
  abbrev later : ℕ
  later = marks / 2 ^ (start - from)

  -- the next low byte stands among the first 32
  pub next_near : 0 < later → IsNextLow text start (start + trailing_zeros w64 later)
  next_near some =
      let smaller = shr_le marks (start - from) in
      let found = first_low (from + 32 - start) text start later (omega arith) some (omega arith) (shifted text from start marks low m) in
      let inside = found.near in
      let r = trailing_zeros w64 later in
      record {
        after = elim (cases_lt start (start + r)) [
          | inl more ↦ more
          | inr same ↦ absurd (apart text start (start + r) high found.here (omega arith))
        ];
        within = omega arith;
        inside = λ k a b. found.before k (omega arith) b;
        here = found.here;
      }

  -- or among the second 32
  pub next_far : (marks2 : ℕ) → later ≡ 0 → LowMarks text (from + 32) marks2 → 0 < marks2 → marks2 < 2 ^ 64 → IsNextLow text start (from + 32 + trailing_zeros w64 marks2)
  next_far marks2 none m2 some small =
      let r = trailing_zeros w64 marks2 in
      let found = first_low 32 text (from + 32) marks2 (omega arith) some small m2 in
      let inside = found.near in
      record {
        after = elim (cases_lt start (from + 32 + r)) [
          | inl more ↦ more
          | inr same ↦ absurd (apart text start (from + 32 + r) high found.here (omega arith))
        ];
        within = omega arith;
        inside = λ k a b. elim (cases_lt k (from + 32)) [
          | inl first ↦ no_low (from + 32 - start) text start later none (shifted text from start marks low m) k (omega arith) (omega arith)
          | inr second ↦ found.before k (omega arith) b
        ];
        here = found.here;
      }
