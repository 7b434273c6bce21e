-- The first line feed of a text.
use Rattle.std.proofs.Common.{◌≡◌, ◌<◌, ◌==◌, ℕ, Bool, true, false, not, List, length, get_or, refl, arith, Some, None}
use Rattle.std.specs.List.{prefix_len}
use Rattle.std.proofs.lemmas.List.Sums.{prefix_len-le-length, prefix_len_passes, prefix_len_stops}
use Rattle.bstr.specs.Find.{IsFirstByte, is_byte}

abbrev in_line : ℕ → Bool
in_line b = not (b == 10)

both : (b : Bool) → b ≡ true → not b ≡ true → ⊥
both true e h = cc
both false e h = cc

is_feed : (b : Bool) → not b ≡ false → b ≡ true
is_feed true h = refl
is_feed false h = absurd (cc)

pub found : (text : List ℕ) (k : ℕ) → IsFirstByte (is_byte 10) text (Some k) → k ≡ prefix_len in_line text
found text k h =
    let more : ¬ (k < prefix_len in_line text) = λ lt. both (get_or text k 0 == 10) h.1 (prefix_len_passes in_line text k 0 lt) in
    let inside = h.0.high in
    let less : ¬ (prefix_len in_line text < k) = λ lt.
    h.0.before (prefix_len in_line text) (omega arith) lt (is_feed (get_or text (prefix_len in_line text) 0 == 10) (prefix_len_stops in_line text 0 (omega (arith, inside, lt)))) in
    omega (arith, more, less)

pub none : (text : List ℕ) → IsFirstByte (is_byte 10) text None → length text ≡ prefix_len in_line text
none text h =
    let le = prefix_len-le-length in_line text in
    let less : ¬ (prefix_len in_line text < length text) = λ lt. h (prefix_len in_line text) (omega arith) lt (is_feed (get_or text (prefix_len in_line text) 0 == 10) (prefix_len_stops in_line text 0 lt)) in
    omega (arith, le, less)
