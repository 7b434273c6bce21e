-- How many bytes of a text are marked, and which is the first.
use Rattle.std.proofs.Common.{◌≡◌, ℕ, zero, suc, ◌+◌, ◌-◌, ◌*◌, ◌%◌, ◌^◌, ◌≤◌, Bool, List, [], ◌∷◌, length, take, drop, map, get_or, count_ones, refl, sym, ap, ◌∙◌, arith, inl, inr, le_refl}
use Rattle.std.specs.Int.Count.{count_trailing_zeros, trailing_of_zero, ones}
use Rattle.std.specs.List.{count_by, position_or_len, range_with_len, slice_range}
use Rattle.std.specs.Simd.Lanes.{chunk, mask_l, zip2}
use Rattle.std.proofs.lemmas.Simd.{zip2_of_maps, run_in_chunk_le, run_in_chunk_fails, first_set_mask_l, length-chunk, mask_l-mod, ones-mask_l, pick_l-range_with_len}
use Rattle.std.proofs.lemmas.Bool.{cases_eq, eq-eqb, ne_eqb, cond-true, cond-false}
use Rattle.std.proofs.lemmas.List.{length-take}
use Rattle.std.proofs.Math.Nat.{pow-zero, pow-suc, mul-zero, mul_comm, mul_assoc, add-mul-mod_self_left}
use Rattle.std.proofs.lemmas.List.FromFn.{take-map-range_with_len}
use Rattle.memchr.specs.Find.{Nowhere, Passes}
use Rattle.lefdef_tokens.specs.Skipping.{begins_after, begins_at, is_special}

-- 64 bytes of a text
pub chunk_is : (text : List ℕ) (at : ℕ) → slice_range text at (at + 64) ≡ chunk at 64 text
chunk_is text at = let e : at + 64 - at ≡ 64 = omega arith in rw e refl

pub first_marked : (p : ℕ → Bool) (text : List ℕ) (at marks : ℕ) → at + 64 ≤ length text → marks ≡ mask_l (map p (slice_range text at (at + 64)))
    → count_trailing_zeros 64 marks ≡ position_or_len p (slice_range text at (at + 64))
first_marked p text at marks room is =
    let block = slice_range text at (at + 64) in
    let long : length block ≡ 64 = ap length (chunk_is text at) ∙ length-chunk at 64 text room in
    let found = first_set_mask_l p block 64 long (le_refl 64) in
    elim (cases_eq (mask_l (map p block)) 0) [
      | inl none ↦ ap (count_trailing_zeros 64) (is ∙ none) ∙ trailing_of_zero 64 ∙ sym (cond-true _ _ _ (eq-eqb _ _ none)) ∙ found
      | inr some ↦ ap (count_trailing_zeros 64) is ∙ sym (cond-false _ _ _ (ne_eqb _ _ some)) ∙ found
    ]

-- the bits of the first k lanes
split_mask : (ms : List Bool) (k : ℕ) → mask_l ms ≡ mask_l (take k ms) + 2 ^ k * mask_l (drop k ms)
split_mask ms zero = omega (arith, pow-zero 2)
split_mask [] (suc k) = omega (arith, mul-zero (2 ^ suc k))
split_mask (m ∷ ms) (suc k) =
    let later = split_mask ms k in
    let twice : 2 ^ suc k * mask_l (drop k ms) ≡ 2 * (2 ^ k * mask_l (drop k ms)) = ap (λ n. n * mask_l (drop k ms)) (pow-suc 2 k ∙ mul_comm (2 ^ k) 2) ∙ mul_assoc 2 (2 ^ k) (mask_l (drop k ms)) in
    omega arith

pub first_bits : (ms : List Bool) (k : ℕ) → mask_l ms % 2 ^ k ≡ mask_l (take k ms)
first_bits ms k =
    ap (λ n. n % 2 ^ k) (split_mask ms k) ∙ add-mul-mod_self_left (mask_l (take k ms)) (2 ^ k) (mask_l (drop k ms))
    ∙ mask_l-mod (take k ms) k (omega (arith, length-take k ms))

-- the words that begin in 64 bytes
before_each : (text : List ℕ) (at n : ℕ) → 1 ≤ at → map (λ j. get_or text j 0) (range_with_len (at - 1) n) ≡ map (λ j. get_or text (j - 1) 0) (range_with_len at n)
before_each text at zero low = refl
before_each text at (suc n) low =
    let e : at - 1 + 1 ≡ at + 1 - 1 = omega arith in
    ap (λ r. get_or text (at - 1) 0 ∷ r) (rw e (before_each text (at + 1) n (omega arith)))

pub begun_lanes : (text : List ℕ) (at : ℕ) → 1 ≤ at → at + 64 ≤ length text
    → zip2 begins_after (slice_range text (at - 1) (at - 1 + 64)) (slice_range text at (at + 64)) ≡ map (begins_at text) (range_with_len at 64)
begun_lanes text at low room =
    zip2_of_maps begins_after (λ j. get_or text (j - 1) 0) (λ j. get_or text j 0) (range_with_len at 64)
    (chunk_is text (at - 1) ∙ sym (pick_l-range_with_len 0 text (at - 1) 64 (omega arith)) ∙ before_each text at 64 low)
    (chunk_is text at ∙ sym (pick_l-range_with_len 0 text at 64 room))

module _ (text : List ℕ) (at len : ℕ) (few : len ≤ 64) where
  begun_first : take len (map (begins_at text) (range_with_len at 64)) ≡ map (begins_at text) (range_with_len at len)
  begun_first = take-map-range_with_len (begins_at text) at 64 len few

  pub counted_all : (marks : ℕ) → len ≡ 64 → marks ≡ mask_l (map (begins_at text) (range_with_len at 64)) → count_ones marks ≡ count_by (begins_at text) (range_with_len at len)
  counted_all marks all is = rw all (ap count_ones is ∙ ones-mask_l (begins_at text) (range_with_len at 64))

  pub counted_first : (marks : ℕ) → marks ≡ mask_l (map (begins_at text) (range_with_len at 64)) → count_ones (marks % 2 ^ len) ≡ count_by (begins_at text) (range_with_len at len)
  counted_first marks is =
      ap count_ones (ap (λ m. m % 2 ^ len) is ∙ first_bits (map (begins_at text) (range_with_len at 64)) len ∙ ap mask_l begun_first) ∙ ones-mask_l (begins_at text) (range_with_len at len)

pub plain_run : (text : List ℕ) (at run : ℕ) → at + 64 ≤ length text → run ≡ position_or_len is_special (slice_range text at (at + 64)) → (run ≤ 64) × Nowhere (Passes is_special text) at (at + run)
plain_run text at run room is =
    let counted = is ∙ ap (position_or_len is_special) (chunk_is text at) in
    (run_in_chunk_le is_special text at 64 run 0 room counted, λ k a b stop. let goes = run_in_chunk_fails is_special text at 64 run 0 room counted k a b in let both = sym goes ∙ stop in cc)
