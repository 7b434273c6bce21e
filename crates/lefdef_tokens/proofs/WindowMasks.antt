-- Marks for the bytes of a text that pass a test, by the lanes of a vector.
use Rattle.std.proofs.Common.{◌≡◌, ℕ, ◌+◌, ◌-◌, ◌%◌, ◌^◌, ◌<◌, ◌≤◌, Bool, true, false, cond, leb, ⊎_elim, List, length, map, get_or, refl, subst, sym, ap, ◌∙◌, arith, w64}
use Rattle.std.specs.Int.{bit_at, trailing_ones}
use Rattle.std.specs.Char.{is_ascii_digit}
use Rattle.std.specs.Simd.Lanes.{chunk, mask_l}
use Rattle.std.proofs.lemmas.Simd.{bit_mask_l, mask_l-lt, length-chunk, get_or-chunk}
use Rattle.std.proofs.lemmas.Bool.{cases_lt, leb-true, le-leb}
use Rattle.std.proofs.lemmas.Nat.Bits.{bit_at-trailing_ones}
use Rattle.std.proofs.lemmas.Bool.Decides.{nat_tests}
use Rattle.std.proofs.lemmas.List.{get_or-map, get_or_past, length-map}
use Rattle.lefdef_tokens.specs.Windows.{LowMarks}

module _ (p : ℕ → Bool) (text : List ℕ) (at n : ℕ) (room : at + n ≤ length text) where
  abbrev marks_of : ℕ
  marks_of = mask_l (map p (chunk at n text))

  -- a bit of the mask of n bytes
  pub bit_in : (k : ℕ) → k < n → bit_at marks_of k ≡ cond (p (get_or text (at + k) 0)) 1 0
  bit_in k lt =
      let long = length-chunk at n text room in
      bit_mask_l (map p (chunk at n text)) k
      ∙ ap (λ b. cond b 1 0) (get_or-map p (chunk at n text) k 0 false (omega arith) ∙ ap p (get_or-chunk at n text k 0 lt))

  pub bit_past : (k : ℕ) → n ≤ k → bit_at marks_of k ≡ 0
  bit_past k past =
      let long = length-chunk at n text room in
      bit_mask_l (map p (chunk at n text)) k
      ∙ ap (λ b. cond b 1 0) (get_or_past (map p (chunk at n text)) k false (omega (arith, length-map (chunk at n text) p)))

is_set : (b : Bool) → cond {A = ℕ} b 1 0 ≡ 1 → b ≡ true
is_set true h = refl
is_set false h = absurd (omega arith)

low_is : (b : ℕ) → leb b 32 ≡ true → b ≤ 32
low_is b h = leb-true b 32 h

is_low : (b : ℕ) → b ≤ 32 → leb b 32 ≡ true
is_low b h = le-leb b 32 h

pub low_marked : (text : List ℕ) (at marks : ℕ) → at + 32 ≤ length text → marks ≡ mask_l (map (λ b. leb b 32) (chunk at 32 text)) → LowMarks text at marks
low_marked text at marks room is k =
    let byte = get_or text (at + k) 0 in
    let same = ap (λ (m : ℕ). bit_at m k) is in (
      λ set. ⊎_elim
          (λ inside. (inside, low_is byte (is_set (leb byte 32) (sym (bit_in (λ b. leb b 32) text at 32 room k inside) ∙ sym same ∙ set))))
          (λ past. let none = same ∙ bit_past (λ b. leb b 32) text at 32 room k past in absurd (omega arith))
          (cases_lt k 32),
      λ both. same ∙ bit_in (λ b. leb b 32) text at 32 room k both.0 ∙ ap (λ b. cond b 1 0) (is_low byte both.1),
    )

-- the value of a digit, and of no other byte, is at most 9
pub is_digit : (b : ℕ) → b < 256 → leb ((b + (256 - 48)) % 256) 9 ≡ true → is_ascii_digit b ≡ true
is_digit b small low = grind (arith, nat_tests, leb-true ((b + (256 - 48)) % 256) 9 low)

-- as many lanes pass a test as the mask has ones below its lowest zero
pub first_ones : (p : ℕ → Bool) (text : List ℕ) (at marks : ℕ) → at + 16 ≤ length text → marks ≡ mask_l (map p (chunk at 16 text))
    → (k : ℕ) → k < trailing_ones w64 marks → k < 16 → p (get_or text (at + k) 0) ≡ true
first_ones p text at marks room is k below inside =
    let ms = map p (chunk at 16 text) in
    let long : length ms ≡ 16 = omega (arith, length-map (chunk at 16 text) p, length-chunk at 16 text room) in
    let few : mask_l ms < 2 ^ 16 = subst (λ (n : ℕ). mask_l ms < 2 ^ n) long (mask_l-lt ms) in
    let told = bit_at-trailing_ones w64 marks (omega (arith, few, is)) in
    is_set (p (get_or text (at + k) 0)) (sym (bit_in p text at 16 room k inside) ∙ ap (λ (m : ℕ). bit_at m k) (sym is) ∙ told.2 k below)
