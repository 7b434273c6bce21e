-- Laws of the bytes that are put: words with a space between each two, and printed numbers among them.
use Rattle.std.specs.Prelude.{◌≡◌, ◌≤◌, ℕ, ℤ, Bool, true, false, not, ◌&&◌, ◌||◌, ◌==◌, List, [], ◌∷◌, ◌++◌, Ok, nat_abs}
use Rattle.std.specs.Fmt.{signed_decimal}
use Rattle.std.specs.List.{list_all}
use Rattle.design_model.specs.Units.{whole}
use Rattle.form_meanings.specs.Words.{is_place}
use Rattle.statement_model.specs.Tokens.{Token, is_white, is_refused}
use Rattle.statement_model.specs.Boundaries.{words}
use Rattle.splicing_laws.specs.SplicingLaws.{AreTokens}

-- a byte of a word, and the first of one
abbrev pub goes_on : ℕ → Bool
goes_on b = not (is_refused b || is_white b)

abbrev pub opens_word : ℕ → Bool
opens_word b = goes_on b && not (b == 35 || b == 34)

-- bytes that are one word
abbrev pub is_one_word : List ℕ → Bool
is_one_word [] = false
is_one_word (b ∷ bs) = opens_word b && list_all goes_on bs

-- words with a space between each two
abbrev pub spaced : List (List ℕ) → List ℕ
spaced [] = []
spaced (w ∷ []) = w
spaced (w ∷ v ∷ vs) = w ++ 32 ∷ spaced (v ∷ vs)

-- White space and then words with a space between each two are these words as tokens.
abbrev pub SpacedAreTokens : Type 0
SpacedAreTokens = (blanks : List ℕ) (ws : List (List ℕ))
    → list_all is_white blanks ≡ true
    → list_all is_one_word ws ≡ true
    → (ps : List Token) × AreTokens (blanks ++ spaced ws) ps × (words ps ≡ ws)

-- A printed number is one word, and can stand in the place of a number.
abbrev pub PrintedNumbersAreWords : Type 0
PrintedNumbersAreWords = (z : ℤ) → (is_one_word (signed_decimal z) ≡ true) × (is_place (signed_decimal z) ≡ true)

-- A printed number within the limits of a text reads as itself.
abbrev pub PrintedNumbersAreRead : Type 0
PrintedNumbersAreRead = (z : ℤ) → nat_abs z ≤ 2147483647 → whole (signed_decimal z) ≡ Ok z
