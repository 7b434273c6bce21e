-- Where the words of a text end.
use Rattle.std.proofs.Common.{◌≡◌, ℕ, ◌+◌, true, false, List, [], ◌∷◌, ◌++◌, length, drop, refl, sym, ap, ◌∙◌, ⊎_elim, length-append, arith, ◌==◌}
use Rattle.std.specs.List.{All}
use Rattle.std.proofs.lemmas.List.{drop-drop}
use Rattle.std.proofs.lemmas.List.Elements.{All-nil, All-cons, All-append}
use Rattle.statement_model.specs.Tokens.{Open, Token, lex, next_open, ended_by, at_end, is_white, is_refused, closes, tokens}
use Rattle.statement_model.specs.Tokens.Open.{between, comment, word, string}
use Rattle.design_model.specs.declared.token_kind.TokenKind.TheVariants.{Word, Quoted}
use Rattle.form_meanings.specs.Words.{is_quoted}
use Rattle.lefdef_tokens.specs.Laws.{BeginsApart}
use Rattle.std.proofs.lemmas.Bool.{cases_Bool as cases}

-- a token that is no string ends before white space or where the text does
abbrev pub WordEndsApart : List ℕ → Token → Type 0
WordEndsApart text p = is_quoted p.bytes ≡ false → BeginsApart (drop (p.pos + length p.bytes) text)

-- what is open at a place is what the text has before it
abbrev Stands : ℕ → Open → Type 0
Stands pos between = Unit {0}
Stands pos comment = Unit {0}
Stands pos (word start bytes) = start + length bytes ≡ pos
Stands pos (string start bytes last) = is_quoted bytes ≡ true

still_quoted : (bytes more : List ℕ) → is_quoted bytes ≡ true → is_quoted (bytes ++ more) ≡ true
still_quoted [] more e = absurd (cc)
still_quoted (b ∷ bs) more e = e

one_longer : (start pos b : ℕ) (bytes : List ℕ) → start + length bytes ≡ pos → start + length (bytes ++ b ∷ []) ≡ pos + 1
one_longer start pos b bytes e = omega (arith, length-append bytes (b ∷ []))

between_stands : (pos b : ℕ) → Stands (pos + 1) (next_open pos between b)
between_stands pos b = ⊎_elim
    (λ (white : is_white b ≡ true). rw white tt)
    (λ (no_white : is_white b ≡ false). ⊎_elim
    (λ (hash : (b == 35) ≡ true). rw (no_white, hash) tt)
    (λ (no_hash : (b == 35) ≡ false). ⊎_elim
    (λ (quote : (b == 34) ≡ true). rw (no_white, no_hash, quote) quote)
    (λ (no_quote : (b == 34) ≡ false). rw (no_white, no_hash, no_quote) refl)
    (cases (b == 34)))
    (cases (b == 35)))
    (cases (is_white b))

still_stands : (pos b : ℕ) (state : Open) → Stands pos state → Stands (pos + 1) (next_open pos state b)
still_stands pos b between stands = between_stands pos b
still_stands pos b comment stands = ⊎_elim (λ end. rw end tt) (λ more. rw more tt) (cases (b == 10))
still_stands pos b (word start bytes) stands = ⊎_elim
    (λ white. rw white tt)
    (λ more. rw more (one_longer start pos b bytes stands))
    (cases (is_white b))
still_stands pos b (string start bytes last) stands = ⊎_elim
    (λ end. rw end tt)
    (λ more. rw more (still_quoted bytes (b ∷ []) stands))
    (cases (closes last b))

only : (text : List ℕ) (p : Token) → WordEndsApart text p → All (WordEndsApart text) (p ∷ [])
only text p h = All-cons (WordEndsApart text) p [] h (All-nil (WordEndsApart text))

ended_apart : (text bs : List ℕ) (pos b : ℕ) (state : Open) → drop pos text ≡ b ∷ bs → Stands pos state → All (WordEndsApart text) (ended_by state b)
ended_apart text bs pos b between left stands = All-nil (WordEndsApart text)
ended_apart text bs pos b comment left stands = All-nil (WordEndsApart text)
ended_apart text bs pos b (word start bytes) left stands = ⊎_elim
    (λ white. rw white (only text (record { kind = Word; bytes = bytes; pos = start }) (λ plain. rw (stands, left) white)))
    (λ more. rw more (All-nil (WordEndsApart text)))
    (cases (is_white b))
ended_apart text bs pos b (string start bytes last) left stands = ⊎_elim
    (λ end. rw end (only text (record { kind = Quoted; bytes = bytes ++ b ∷ []; pos = start }) (λ plain. let quoted = still_quoted bytes (b ∷ []) stands in absurd (cc))))
    (λ more. rw more (All-nil (WordEndsApart text)))
    (cases (closes last b))

last_apart : (text : List ℕ) (pos : ℕ) (state : Open) → drop pos text ≡ [] → Stands pos state → All (WordEndsApart text) (at_end pos state).pieces
last_apart text pos between left stands = All-nil (WordEndsApart text)
last_apart text pos comment left stands = All-nil (WordEndsApart text)
last_apart text pos (word start bytes) left stands = only text (record { kind = Word; bytes = bytes; pos = start }) (λ plain. rw (stands, left) tt)
last_apart text pos (string start bytes last) left stands = All-nil (WordEndsApart text)

next_left : (text bs : List ℕ) (pos b : ℕ) → drop pos text ≡ b ∷ bs → drop (pos + 1) text ≡ bs
next_left text bs pos b left = sym (drop-drop 1 pos text) ∙ ap (drop 1) left

pub words_end : (text bs : List ℕ) (pos : ℕ) (state : Open) → drop pos text ≡ bs → Stands pos state → All (WordEndsApart text) (lex pos state bs).pieces
unfolding lex
words_end text [] pos state left stands = last_apart text pos state left stands
words_end text (b ∷ bs) pos state left stands = ⊎_elim
    (λ refused. rw refused (All-nil (WordEndsApart text)))
    (λ more.
    let later = words_end text bs (pos + 1) (next_open pos state b) (next_left text bs pos b left) (still_stands pos b state stands) in
    rw more (All-append (WordEndsApart text) (ended_by state b) _ (ended_apart text bs pos b state left stands) later))
    (cases (is_refused b))

-- each word of a text ends before white space or where the text does
pub words_end_apart : (text : List ℕ) → All (WordEndsApart text) (tokens text).pieces
words_end_apart text = words_end text text 0 between refl tt
