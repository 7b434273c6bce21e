-- The first line of a text, and the first word of a line.
use Rattle.std.proofs.Common.{◌≡◌, ◌≢◌, ◌≤◌, ◌<◌, ◌+◌, ◌-◌, ◌==◌, ℕ, zero, suc, Bool, true, false, cond, not, List, [], ◌∷◌, length, take, drop, get_or, refl, sym, ap, ◌∙◌, arith}
use Rattle.std.specs.List.{slice_split, onto_first, filter, prefix_len}
use Rattle.std.proofs.lemmas.Bool.Decides.{nat_tests}
use Rattle.std.proofs.lemmas.List.{take_rest}
use Rattle.std.proofs.lemmas.List.Splits.{slice_split-cons_yes, slice_split-cons_no, slice_split_first, length-slice_split}
use Rattle.std.proofs.lemmas.List.Sums.{prefix_len-le-length}
use Rattle.std.proofs.lemmas.List.Folds.{length-prefix_len}
use Rattle.edit_rules.specs.Script.{is_blank, is_some_word, line_words, past, after_word, ends_in_return, without_last_byte, trimmed, trimmed_lines, script_lines}

abbrev is_black : ℕ → Bool
is_black b = not (is_blank b)

drop_one : {A : Type 0} (n : ℕ) (x : A) (xs : List A) → drop (1 + n) (x ∷ xs) ≡ drop n xs
drop_one n x xs = let same : 1 + n ≡ suc n = omega arith in ap (λ k. drop k (x ∷ xs)) same

take_one : {A : Type 0} (n : ℕ) (x : A) (xs : List A) → take (1 + n) (x ∷ xs) ≡ x ∷ take n xs
take_one n x xs = let same : 1 + n ≡ suc n = omega arith in ap (λ k. take k (x ∷ xs)) same

-- what `past` leaves, as a slice is seen
pub past_slice : (test : ℕ → Bool) (line : List ℕ) (n : ℕ) → n ≡ prefix_len test line → take (length line - n) (drop n line) ≡ past test line
past_slice test line n e = take_rest line n ∙ ap (λ k. drop k line) (e ∙ sym (length-prefix_len test line))

-- the words of a line are those behind its first blanks
skip_blanks : (line : List ℕ) → line_words line ≡ line_words (drop (prefix_len is_blank line) line)
skip_blanks [] = refl
skip_blanks (b ∷ bs) =
    elim (is_blank b) as (λ t. is_blank b ≡ t → line_words (b ∷ bs) ≡ line_words (drop (cond t (1 + prefix_len is_blank bs) 0) (b ∷ bs))) [
      | true ↦ λ e. ap (filter is_some_word) (slice_split-cons_yes is_blank b bs e) ∙ skip_blanks bs ∙ ap line_words (sym (drop_one (prefix_len is_blank bs) b bs))
      | false ↦ λ e. refl
    ] refl

-- the part before the first blank, and parts whose words are those behind it
first_part : (xs : List ℕ) → (tail : List (List ℕ)) × (slice_split is_blank xs ≡ take (prefix_len is_black xs) xs ∷ tail) × (filter is_some_word tail ≡ line_words (drop (prefix_len is_black xs) xs))
first_part [] = ([], refl, refl)
first_part (x ∷ xs) =
    let (tail, parts, words) = first_part xs in
    elim (is_blank x) as
    (λ t. is_blank x ≡ t → (tail : List (List ℕ)) × (slice_split is_blank (x ∷ xs) ≡ take (cond (not t) (1 + prefix_len is_black xs) 0) (x ∷ xs) ∷ tail)
    × (filter is_some_word tail ≡ line_words (drop (cond (not t) (1 + prefix_len is_black xs) 0) (x ∷ xs)))) [
      | true ↦ λ e. (slice_split is_blank xs, slice_split-cons_yes is_blank x xs e, sym (ap (filter is_some_word) (slice_split-cons_yes is_blank x xs e)))
      | false ↦ λ e. (
        tail,
        slice_split-cons_no is_blank x xs e ∙ ap (onto_first x) parts ∙ ap (λ l. l ∷ tail) (sym (take_one (prefix_len is_black xs) x xs)),
        words ∙ ap line_words (sym (drop_one (prefix_len is_black xs) x xs)),
      )
    ] refl

take_is_some : (n : ℕ) (xs : List ℕ) → 0 < n → n ≤ length xs → is_some_word (take n xs) ≡ true
take_is_some zero xs some within = absurd (omega (arith, some))
take_is_some (suc n) [] some within = absurd (omega (arith, within))
take_is_some (suc n) (x ∷ xs) some within = refl

-- a line that begins with a word
words_of_first : (ws : List ℕ) (n : ℕ) → n ≡ prefix_len is_black ws → 0 < n → line_words ws ≡ take n ws ∷ line_words (drop n ws)
words_of_first ws n e some =
    let (tail, parts, words) = first_part ws in
    let within : n ≤ length ws = omega (arith, e, prefix_len-le-length is_black ws) in
    let named : line_words ws ≡ filter is_some_word (take n ws ∷ tail) = ap (filter is_some_word) parts ∙ ap (λ k. filter is_some_word (take k ws ∷ tail)) (sym e) in
    named ∙ ap (λ t. cond t (take n ws ∷ filter is_some_word tail) (filter is_some_word tail)) (take_is_some n ws some within) ∙ ap (λ l. take n ws ∷ l) (words ∙ ap (λ k. line_words (drop k ws)) (sym e))

abbrev as_past : (line ws : List ℕ) → ws ≡ past is_blank line → ws ≡ drop (prefix_len is_blank line) line
as_past line ws same = same ∙ ap (λ k. drop k line) (length-prefix_len is_blank line)

pub first_word : (line ws : List ℕ) (n : ℕ) → ws ≡ past is_blank line → n ≡ prefix_len is_black ws → n ≢ 0 → line_words line ≡ take n ws ∷ line_words (take (length ws - n) (drop n ws))
first_word line ws n same e some =
    skip_blanks line ∙ ap line_words (sym (as_past line ws same)) ∙ words_of_first ws n e (omega (arith, some)) ∙ ap (λ l. take n ws ∷ line_words l) (sym (take_rest ws n))

pub behind_first : (line ws : List ℕ) (n : ℕ) → ws ≡ past is_blank line → n ≡ prefix_len is_black ws → take (length ws - n) (drop n ws) ≡ after_word line
behind_first line ws n same e = past_slice is_black ws n e ∙ ap (past is_black) same

-- a line of blanks has no word
pub no_word : (line ws : List ℕ) (n : ℕ) → ws ≡ past is_blank line → n ≡ prefix_len is_black ws → n ≡ 0 → line_words line ≡ []
no_word line ws n same e none = skip_blanks line ∙ blank line (ap (prefix_len is_black) (sym (as_past line ws same)) ∙ sym e ∙ none) where
  blank : (line : List ℕ) → prefix_len is_black (drop (prefix_len is_blank line) line) ≡ 0 → line_words (drop (prefix_len is_blank line) line) ≡ []
  blank [] = λ e. refl
  blank (b ∷ bs) =
      elim (is_blank b) as
      (λ t. is_blank b ≡ t → prefix_len is_black (drop (cond t (1 + prefix_len is_blank bs) 0) (b ∷ bs)) ≡ 0 → line_words (drop (cond t (1 + prefix_len is_blank bs) 0) (b ∷ bs)) ≡ []) [
        | true ↦ λ e z. rw drop_one (blank bs (rw drop_one at z))
        | false ↦ λ e z. absurd (omega (arith, ap (λ t. cond (not t) (1 + prefix_len is_black bs) 0) (sym e) ∙ z))
      ] refl

-- a line that ends in a carriage return, and one that doesn't
cut_last : (line : List ℕ) → without_last_byte line ≡ take (length line - 1) line
cut_last [] = refl
cut_last (b ∷ []) = refl
cut_last (b ∷ c ∷ cs) =
    let one_less : length (b ∷ c ∷ cs) - 1 ≡ suc (length (c ∷ cs) - 1) = omega arith in
    ap (λ l. b ∷ l) (cut_last (c ∷ cs)) ∙ ap (λ k. take k (b ∷ c ∷ cs)) (sym one_less)

last_is_return : (line : List ℕ) → length line ≢ 0 → ends_in_return line ≡ (get_or line (length line - 1) 0 == 13)
last_is_return [] some = absurd (some refl)
last_is_return (b ∷ []) some = refl
last_is_return (b ∷ c ∷ cs) some =
    let one_less : length (b ∷ c ∷ cs) - 1 ≡ suc (length (c ∷ cs) - 1) = omega arith in
    last_is_return (c ∷ cs) (λ e. absurd (omega (arith, e))) ∙ ap (λ k. get_or (b ∷ c ∷ cs) k 0 == 13) (sym one_less)

pub trimmed_return : (line : List ℕ) → length line ≢ 0 → get_or line (length line - 1) 0 ≡ 13 → take (length line - 1) line ≡ trimmed line
trimmed_return line some last =
    let at_end : ends_in_return line ≡ true = last_is_return line some ∙ ap (λ b. b == 13) last in
    sym (cut_last line) ∙ sym (ap (λ t. cond t (without_last_byte line) line) at_end)

pub trimmed_empty : (line : List ℕ) → length line ≡ 0 → line ≡ trimmed line
trimmed_empty [] none = refl
trimmed_empty (b ∷ bs) none = absurd (omega (arith, none))

pub trimmed_other : (line : List ℕ) → length line ≢ 0 → get_or line (length line - 1) 0 ≢ 13 → line ≡ trimmed line
trimmed_other line some last =
    let at_end : ends_in_return line ≡ false = last_is_return line some ∙ is_other (get_or line (length line - 1) 0) last in
    sym (ap (λ t. cond t (without_last_byte line) line) at_end) where
      is_other : (b : ℕ) → b ≢ 13 → (b == 13) ≡ false
      is_other b ne = grind (arith, nat_tests)

abbrev is_feed : ℕ → Bool
is_feed b = b == 10

-- a text without a line feed is one line
pub last_line : (text : List ℕ) (n : ℕ) → n ≡ prefix_len (λ b. not (is_feed b)) text → n ≡ length text → script_lines text ≡ text ∷ []
last_line text n e all = ap trimmed_lines (whole text (sym e ∙ all)) where
  whole : (text : List ℕ) → prefix_len (λ b. not (is_feed b)) text ≡ length text → slice_split is_feed text ≡ text ∷ []
  whole [] = λ e. refl
  whole (x ∷ xs) =
      elim (is_feed x) as (λ t. is_feed x ≡ t → cond (not t) (1 + prefix_len (λ b. not (is_feed b)) xs) 0 ≡ length (x ∷ xs) → slice_split is_feed (x ∷ xs) ≡ (x ∷ xs) ∷ []) [
        | true ↦ λ e z. absurd (omega (arith, z))
        | false ↦ λ e z. slice_split-cons_no is_feed x xs e ∙ ap (onto_first x) (whole xs (omega (arith, z)))
      ] refl

trimmed_before : (line : List ℕ) (parts : List (List ℕ)) → 0 < length parts → trimmed_lines (line ∷ parts) ≡ trimmed line ∷ trimmed_lines parts
trimmed_before line [] some = absurd (omega (arith, some))
trimmed_before line (part ∷ parts) some = refl

-- the first line of a text with a line feed
pub first_line : (text : List ℕ) (n : ℕ) → n ≡ prefix_len (λ b. not (is_feed b)) text → n ≤ length text → n ≢ length text
    → script_lines text ≡ trimmed (take n text) ∷ script_lines (take (length text - (n + 1)) (drop (n + 1) text))
first_line text n e within some =
    let below : prefix_len (λ b. not (is_feed b)) text < length text = omega (arith, e, within, some) in
    let behind = drop (prefix_len (λ b. not (is_feed b)) text + 1) text in
    let parts : slice_split is_feed text ≡ take (prefix_len (λ b. not (is_feed b)) text) text ∷ slice_split is_feed behind = slice_split_first is_feed text 0 below in
    let more : 0 < length (slice_split is_feed behind) = omega (arith, length-slice_split is_feed behind) in
    ap trimmed_lines parts ∙ trimmed_before (take (prefix_len (λ b. not (is_feed b)) text) text) (slice_split is_feed behind) more
    ∙ ap (λ k. trimmed (take k text) ∷ script_lines (drop (k + 1) text)) (sym e) ∙ ap (λ l. trimmed (take n text) ∷ script_lines l) (sym (take_rest text (n + 1)))
