-- The tokens of words with a space between each two, and of printed numbers.
use Rattle.std.proofs.Common.{◌≡◌, ℕ, suc, ◌+◌, ◌==◌, ◌||◌, Bool, true, false, not, List, [], ◌∷◌, ◌++◌, length, Ok, refl, sym, ap, subst, ◌∙◌, length-append, append_assoc, append-nil, add-zero, zero-add, arith, ℤ, pos, negsuc, decimal, nat_lt}
use Rattle.std.specs.Char.{is_ascii_digit}
use Rattle.std.specs.Fmt.{signed_decimal}
use Rattle.std.specs.List.{list_all}
use Rattle.std.proofs.lemmas.Bool.{and_from, and_parts, or_parts, not-true}
use Rattle.std.proofs.lemmas.Bool.Decides.{nat_tests}
use Rattle.statement_model.specs.Tokens.{Open, Token, Lexed, lex, is_white, is_refused, tokens}
use Rattle.statement_model.specs.Tokens.Open.{between, word}
use Rattle.statement_model.specs.Boundaries.{words}
use Rattle.lefdef_tokens.specs.Laws.{state_after, IsClosed}
use Rattle.design_model.specs.Units.{are_digits}
use Rattle.splicing_laws.specs.SplicingLaws.{AreTokens}
use Rattle.splicing_laws.specs.WordLaws.{goes_on, opens_word, is_one_word, spaced, SpacedAreTokens, PrintedNumbersAreWords}
use Rattle.splicing_laws.proofs.PrintedNumbers.{decimal_digits, printed_is_place}

-- reading comes from a place to a later one, and no token ends on the way
pub record ComesTo (at : ℕ) (s : Open) (text : List ℕ) (later : ℕ) (s2 : Open) (rest : List ℕ) : Type 0 where
  pub tokens : lex at s text ≡ lex later s2 rest
  pub state : state_after at s text ≡ state_after later s2 rest

neither : (x y : Bool) → not (x || y) ≡ true → (x ≡ false) × (y ≡ false)
neither x y none = or_parts x y (not-true (x || y) none)

byte_passes : (b : ℕ) (bs : List ℕ) (at start : ℕ) (front : List ℕ) → goes_on b ≡ true → ComesTo at (word start front) (b ∷ bs) (at + 1) (word start (front ++ b ∷ [])) bs
unfolding lex state_after
byte_passes b bs at start front goes =
    let is = neither (is_refused b) (is_white b) goes in
    record { tokens = rw (is.0, is.1) refl; state = rw is.1 refl }

bytes_pass : (bs rest : List ℕ) (at start : ℕ) (front : List ℕ) → list_all goes_on bs ≡ true → ComesTo at (word start front) (bs ++ rest) (at + length bs) (word start (front ++ bs)) rest
bytes_pass [] rest at start front all = rw (append-nil front, add-zero at) (record { tokens = refl; state = refl })
bytes_pass (b ∷ bs) rest at start front all =
    let parts = and_parts (goes_on b) (list_all goes_on bs) all in
    let one = byte_passes b (bs ++ rest) at start front parts.0 in
    let more = bytes_pass bs rest (at + 1) start (front ++ b ∷ []) parts.1 in
    let sum : at + suc (length bs) ≡ at + 1 + length bs = omega arith in
    rw (sum, ← append_assoc front (b ∷ []) bs) (record { tokens = one.tokens ∙ more.tokens; state = one.state ∙ more.state })

byte_opens : (b : ℕ) (bs : List ℕ) (at : ℕ) → opens_word b ≡ true → ComesTo at between (b ∷ bs) (at + 1) (word at (b ∷ [])) bs
unfolding lex state_after
byte_opens b bs at opens =
    let parts = and_parts (goes_on b) (not (b == 35 || b == 34)) opens in
    let is = neither (is_refused b) (is_white b) parts.0 in
    let plain = neither (b == 35) (b == 34) parts.1 in
    record { tokens = rw (is.0, is.1, plain.0, plain.1) refl; state = rw (is.1, plain.0, plain.1) refl }

-- a word, up to its end
word_passes : (w rest : List ℕ) (at : ℕ) → is_one_word w ≡ true → ComesTo at between (w ++ rest) (at + length w) (word at w) rest
word_passes [] rest at one = absurd cc
word_passes (b ∷ bs) rest at one =
    let parts = and_parts (opens_word b) (list_all goes_on bs) one in
    let first = byte_opens b (bs ++ rest) at parts.0 in
    let more = bytes_pass bs rest (at + 1) at (b ∷ []) parts.1 in
    let sum : at + suc (length bs) ≡ at + 1 + length bs = omega arith in
    rw sum (record { tokens = first.tokens ∙ more.tokens; state = first.state ∙ more.state })

-- from a place on a text is these words, and ends outside of comments and strings
pub record IsWords (at : ℕ) (text : List ℕ) (ws : List (List ℕ)) : Type 0 where
  pub words : words (lex at between text).pieces ≡ ws
  pub end : (lex at between text).end ≡ Ok (at + length text)
  pub closed : IsClosed (state_after at between text)

none_is_words : (at : ℕ) → IsWords at [] []
unfolding lex state_after
none_is_words at = record { words = refl; end = ap Ok (sym (add-zero at)); closed = tt }

pub white_is_not_refused : (b : ℕ) → is_white b ≡ true → is_refused b ≡ false
white_is_not_refused b white = grind (arith, nat_tests)

-- white space before words
white_is_words : (at b : ℕ) (text : List ℕ) (ws : List (List ℕ)) → is_white b ≡ true → IsWords (at + 1) text ws → IsWords at (b ∷ text) ws
unfolding lex state_after
white_is_words at b text ws white is =
    let sum : at + suc (length text) ≡ at + 1 + length text = omega arith in
    let good = white_is_not_refused b white in
    record { words = rw (good, white) is.words; end = rw (good, white) (is.end ∙ ap Ok (sym sum)); closed = rw white is.closed }

whites_are_words : (at : ℕ) (blanks text : List ℕ) (ws : List (List ℕ)) → list_all is_white blanks ≡ true → IsWords (at + length blanks) text ws → IsWords at (blanks ++ text) ws
whites_are_words at [] text ws white is = let here = add-zero at in rw here at is
whites_are_words at (b ∷ bs) text ws white is =
    let parts = and_parts (is_white b) (list_all is_white bs) white in
    let sum : at + suc (length bs) ≡ at + 1 + length bs = omega arith in
    white_is_words at b (bs ++ text) ws parts.0 (whites_are_words (at + 1) bs text ws parts.1 (rw sum at is))

-- one word, at the end of a text
last_is_word : (at : ℕ) (w : List ℕ) → is_one_word w ≡ true → IsWords at w (w ∷ [])
unfolding lex state_after
last_is_word at w one =
    let passes = word_passes w [] at one in
    let all = append-nil w in
    let tokens : lex at between w ≡ lex (at + length w) (word at w) [] = ap (lex at between) (sym all) ∙ passes.tokens in
    let state : state_after at between w ≡ word at w = ap (state_after at between) (sym all) ∙ passes.state in
    record { words = ap (λ (l : Lexed). words l.pieces) tokens; end = ap (λ (l : Lexed). l.end) tokens; closed = subst IsClosed (sym state) tt }

-- one word, and more after a space
first_is_word : (at : ℕ) (w text : List ℕ) (ws : List (List ℕ)) → is_one_word w ≡ true → IsWords (at + length w + 1) text ws → IsWords at (w ++ 32 ∷ text) (w ∷ ws)
unfolding lex state_after
first_is_word at w text ws one is =
    let passes = word_passes w (32 ∷ text) at one in
    let sum : at + length w + 1 + length text ≡ at + length (w ++ 32 ∷ text) = omega (arith, length-append w (32 ∷ text)) in
    record {
      words = ap (λ (l : Lexed). words l.pieces) passes.tokens ∙ ap (λ (vs : List (List ℕ)). w ∷ vs) is.words;
      end = ap (λ (l : Lexed). l.end) passes.tokens ∙ is.end ∙ ap Ok sum;
      closed = subst IsClosed (sym passes.state) is.closed;
    }

pub spaced_are_words : (at : ℕ) (ws : List (List ℕ)) → list_all is_one_word ws ≡ true → IsWords at (spaced ws) ws
spaced_are_words at [] all = none_is_words at
spaced_are_words at (w ∷ []) all = last_is_word at w (and_parts (is_one_word w) true all).0
spaced_are_words at (w ∷ v ∷ vs) all =
    let parts = and_parts (is_one_word w) (list_all is_one_word (v ∷ vs)) all in
    first_is_word at w (spaced (v ∷ vs)) (v ∷ vs) parts.0 (spaced_are_words (at + length w + 1) (v ∷ vs) parts.1)

-- printed numbers are words
digit_goes_on : (d : ℕ) → is_ascii_digit d ≡ true → goes_on d ≡ true
digit_goes_on d digit = grind (arith, nat_tests)

digit_opens : (d : ℕ) → is_ascii_digit d ≡ true → opens_word d ≡ true
digit_opens d digit = grind (arith, nat_tests)

digits_go_on : (ds : List ℕ) → list_all is_ascii_digit ds ≡ true → list_all goes_on ds ≡ true
digits_go_on [] all = refl
digits_go_on (d ∷ ds) all =
    let parts = and_parts (is_ascii_digit d) (list_all is_ascii_digit ds) all in
    and_from (goes_on d) (list_all goes_on ds) (digit_goes_on d parts.0) (digits_go_on ds parts.1)

digits_are_one_word : (ds : List ℕ) → are_digits ds ≡ true → is_one_word ds ≡ true
digits_are_one_word [] are = absurd cc
digits_are_one_word (d ∷ ds) are =
    let all = (and_parts (nat_lt 0 (suc (length ds))) (list_all is_ascii_digit (d ∷ ds)) are).1 in
    let parts = and_parts (is_ascii_digit d) (list_all is_ascii_digit ds) all in
    and_from (opens_word d) (list_all goes_on ds) (digit_opens d parts.0) (digits_go_on ds parts.1)

minus_is_one_word : (ds : List ℕ) → are_digits ds ≡ true → is_one_word (45 ∷ ds) ≡ true
minus_is_one_word ds are = digits_go_on ds (and_parts (nat_lt 0 (length ds)) (list_all is_ascii_digit ds) are).1

printed_is_one_word : (z : ℤ) → is_one_word (signed_decimal z) ≡ true
printed_is_one_word (pos n) = digits_are_one_word (decimal n) (decimal_digits n)
printed_is_one_word (negsuc n) = minus_is_one_word (decimal (suc n)) (decimal_digits (suc n))

-- such bytes at the front of a text
words_are_tokens : (text : List ℕ) (ws : List (List ℕ)) → IsWords 0 text ws → (ps : List Token) × AreTokens text ps × (words ps ≡ ws)
words_are_tokens text ws is = ((tokens text).pieces, record { pieces = refl; end = is.end ∙ ap Ok (zero-add (length text)); closed = is.closed }, is.words)

pub spaced_are_tokens : SpacedAreTokens
spaced_are_tokens blanks ws white each = words_are_tokens (blanks ++ spaced ws) ws (whites_are_words 0 blanks (spaced ws) ws white (spaced_are_words (0 + length blanks) ws each))

pub printed_numbers_are_words : PrintedNumbersAreWords
printed_numbers_are_words z = (printed_is_one_word z, printed_is_place z)
