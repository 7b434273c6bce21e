-- The text up to the end of a token.
use Rattle.std.proofs.Common.{◌≡◌, ℕ, ◌+◌, true, false, List, [], ◌∷◌, ◌++◌, length, Ok, refl, sym, ap, subst, ◌∙◌, ⊎_elim, length-append, add-zero, arith, ◌==◌, Result}
use Rattle.statement_model.specs.Tokens.{Open, Token, Lexed, lex, before, next_open, ended_by, at_end, is_white, is_refused, closes}
use Rattle.statement_model.specs.Tokens.Open.{between, comment, word, string}
use Rattle.design_model.specs.declared.fault.Fault.{Fault}
use Rattle.design_model.specs.declared.token_kind.TokenKind.TheVariants.{Word, Quoted}
use Rattle.statement_model.specs.Cuts.{end_of}
use Rattle.std.proofs.lemmas.Bool.{cases_Bool as cases}
use Rattle.lefdef_tokens.specs.Laws.{state_after, IsClosed}
use Rattle.splicing_laws.proofs.SplicingParts.{Part, longer, first_is, none_is_one}

-- what is open at a place has the bytes up to it
abbrev pub Reaches : ℕ → Open → Type 0
Reaches pos between = Unit {0}
Reaches pos comment = Unit {0}
Reaches pos (word start bytes) = start + length bytes ≡ pos
Reaches pos (string start bytes last) = start + length bytes ≡ pos

one_longer : (start pos b : ℕ) (bytes : List ℕ) → start + length bytes ≡ pos → start + length (bytes ++ b ∷ []) ≡ pos + 1
one_longer start pos b bytes e = omega (arith, length-append bytes (b ∷ []))

between_reaches : (pos b : ℕ) → Reaches (pos + 1) (next_open pos between b)
between_reaches pos b = ⊎_elim
    (λ (white : is_white b ≡ true). rw white tt)
    (λ (no_white : is_white b ≡ false). ⊎_elim
    (λ (hash : (b == 35) ≡ true). rw (no_white, hash) tt)
    (λ (no_hash : (b == 35) ≡ false). ⊎_elim
    (λ (quote : (b == 34) ≡ true). rw (no_white, no_hash, quote) refl)
    (λ (no_quote : (b == 34) ≡ false). rw (no_white, no_hash, no_quote) refl)
    (cases (b == 34)))
    (cases (b == 35)))
    (cases (is_white b))

comment_reaches : (pos b : ℕ) → Reaches (pos + 1) (next_open pos comment b)
comment_reaches pos b = ⊎_elim (λ end. rw end tt) (λ more. rw more tt) (cases (b == 10))

-- no comment and no string is open, and these tokens come then
abbrev pub Behind : ℕ → List Token → Result ℕ Fault → Open → List ℕ → Type 0
Behind to after end state rest = IsClosed state × (lex to between rest ≡ record { pieces = after; end = end })

-- the text up to the end of a token
abbrev pub Ends : ℕ → Open → List ℕ → List Token → Token → List Token → Result ℕ Fault → Type 0
Ends pos state bytes first p after end = Part (Behind (end_of p) after end) pos state bytes (first ++ p ∷ []) (end_of p)

abbrev pub Later : ℕ → List ℕ → Type 0
Later pos bytes = (end : Result ℕ Fault) (state : Open) (first after : List Token) (p : Token) → Reaches pos state → lex pos state bytes ≡ record { pieces = first ++ p ∷ after; end = end } → Ends pos state bytes first p after end

-- a word ends before white space
word_here : (pos : ℕ) (end : Result ℕ Fault) (b start : ℕ) (word_bytes bytes : List ℕ) (after : List Token) → is_refused b ≡ false → is_white b ≡ true → start + length word_bytes ≡ pos
    → lex (pos + 1) between bytes ≡ record { pieces = after; end = end }
    → Ends pos (word start word_bytes) (b ∷ bytes) [] (record { kind = Word; bytes = word_bytes; pos = start }) after end
unfolding lex state_after
word_here pos end b start word_bytes bytes after good white reaches e = record {
  front = [];
  rest = b ∷ bytes;
  whole = refl;
  place = add-zero pos ∙ sym reaches;
  read = ap (λ (k : ℕ). record { pieces = record { kind = Word; bytes = word_bytes; pos = start } ∷ []; end = Ok k }) (sym reaches);
  left = (tt, rw (reaches, good, white) e);
}

-- a string ends with its quote
string_here : (pos : ℕ) (end : Result ℕ Fault) (b start last : ℕ) (string_bytes bytes : List ℕ) (after : List Token) → is_refused b ≡ false → closes last b ≡ true → start + length string_bytes ≡ pos
    → lex (pos + 1) between bytes ≡ record { pieces = after; end = end }
    → Ends pos (string start string_bytes last) (b ∷ bytes) [] (record { kind = Quoted; bytes = string_bytes ++ b ∷ []; pos = start }) after end
unfolding lex state_after
string_here pos end b start last string_bytes bytes after good quote reaches e =
    let place = sym (one_longer start pos b string_bytes reaches) in
    record {
      front = b ∷ [];
      rest = bytes;
      whole = refl;
      place = place;
      read = rw (good, quote) (ap (λ (k : ℕ). record { pieces = record { kind = Quoted; bytes = string_bytes ++ b ∷ []; pos = start } ∷ []; end = Ok k }) place);
      left = rw quote (tt, ap (λ (k : ℕ). lex k between bytes) (sym place) ∙ e);
    }

-- a byte with which, or before which, a token ends: this one, or a later one
one_ends : (pos : ℕ) (end : Result ℕ Fault) (b : ℕ) (state : Open) (bytes : List ℕ) (first after : List Token) (p q : Token) → is_refused b ≡ false → ended_by state b ≡ q ∷ [] → next_open pos state b ≡ between
    → ((left : List Token) → lex (pos + 1) between bytes ≡ record { pieces = left; end = end } → Ends pos state (b ∷ bytes) [] q left end)
    → before (q ∷ []) (lex (pos + 1) between bytes) ≡ record { pieces = first ++ p ∷ after; end = end } → Later (pos + 1) bytes → Ends pos state (b ∷ bytes) first p after end
one_ends pos end b state bytes [] after p q good ended opens here e later =
    let is = first_is q p (lex (pos + 1) between bytes) after end e in
    subst (λ (r : Token). Ends pos state (b ∷ bytes) [] r after end) is.0 (here after is.1)
one_ends pos end b state bytes (r ∷ rs) after p q good ended opens here e later =
    let is = first_is q r (lex (pos + 1) between bytes) (rs ++ p ∷ after) end e in
    let Left = Behind (end_of p) after end in
    subst (λ (t : Token). Part Left pos state (b ∷ bytes) (t ∷ (rs ++ p ∷ [])) (end_of p)) is.0
    (longer Left pos (end_of p) b state between bytes (q ∷ []) (rs ++ p ∷ []) good ended opens (later end between rs after p tt is.1))

-- one byte
ends_step : (pos : ℕ) (end : Result ℕ Fault) (b : ℕ) (state : Open) (bytes : List ℕ) (first after : List Token) (p : Token) → is_refused b ≡ false → Reaches pos state
    → before (ended_by state b) (lex (pos + 1) (next_open pos state b) bytes) ≡ record { pieces = first ++ p ∷ after; end = end }
    → Later (pos + 1) bytes → Ends pos state (b ∷ bytes) first p after end
ends_step pos end b between bytes first after p good reaches e later =
    longer (Behind (end_of p) after end) pos (end_of p) b between _ bytes [] (first ++ p ∷ []) good refl refl (later end _ first after p (between_reaches pos b) e)
ends_step pos end b comment bytes first after p good reaches e later =
    longer (Behind (end_of p) after end) pos (end_of p) b comment _ bytes [] (first ++ p ∷ []) good refl refl (later end _ first after p (comment_reaches pos b) e)
ends_step pos end b (word start word_bytes) bytes first after p good reaches e later = ⊎_elim
    (λ white.
    let h = rw white at e in
    one_ends pos end b (word start word_bytes) bytes first after p (record { kind = Word; bytes = word_bytes; pos = start }) good (rw white refl) (rw white refl)
    (λ left l. word_here pos end b start word_bytes bytes left good white reaches l) h later)
    (λ more.
    let h = rw more at e in
    longer (Behind (end_of p) after end) pos (end_of p) b (word start word_bytes) (word start (word_bytes ++ b ∷ [])) bytes [] (first ++ p ∷ []) good (rw more refl) (rw more refl)
    (later end (word start (word_bytes ++ b ∷ [])) first after p (one_longer start pos b word_bytes reaches) h))
    (cases (is_white b))
ends_step pos end b (string start string_bytes last) bytes first after p good reaches e later = ⊎_elim
    (λ quote.
    let h = rw quote at e in
    one_ends pos end b (string start string_bytes last) bytes first after p (record { kind = Quoted; bytes = string_bytes ++ b ∷ []; pos = start }) good (rw quote refl) (rw quote refl)
    (λ left l. string_here pos end b start last string_bytes bytes left good quote reaches l) h later)
    (λ more.
    let h = rw more at e in
    longer (Behind (end_of p) after end) pos (end_of p) b (string start string_bytes last) (string start (string_bytes ++ b ∷ []) b) bytes [] (first ++ p ∷ []) good (rw more refl) (rw more refl)
    (later end (string start (string_bytes ++ b ∷ []) b) first after p (one_longer start pos b string_bytes reaches) h))
    (cases (closes last b))

-- a word ends where the text does
ends_at_end : (pos : ℕ) (end : Result ℕ Fault) (state : Open) (first after : List Token) (p : Token) → Reaches pos state → at_end pos state ≡ record { pieces = first ++ p ∷ after; end = end } → Ends pos state [] first p after end
unfolding lex state_after
ends_at_end pos end between first after p reaches e = absurd (none_is_one first after p (ap (λ (l : Lexed). l.pieces) e))
ends_at_end pos end comment first after p reaches e = absurd (none_is_one first after p (ap (λ (l : Lexed). l.pieces) e))
ends_at_end pos end (string start bytes last) first after p reaches e = absurd (none_is_one first after p (ap (λ (l : Lexed). l.pieces) e))
ends_at_end pos end (word start bytes) [] after p reaches e =
    let w : Token = record { kind = Word; bytes = bytes; pos = start } in
    let is = first_is w p (record { pieces = []; end = Ok pos }) after end e in
    let here : Ends pos (word start bytes) [] [] w after end = record {
      front = [];
      rest = [];
      whole = refl;
      place = add-zero pos ∙ sym reaches;
      read = ap (λ (k : ℕ). record { pieces = w ∷ []; end = Ok k }) (sym reaches);
      left = (tt, rw reaches is.1);
    } in
    subst (λ (q : Token). Ends pos (word start bytes) [] [] q after end) is.0 here
ends_at_end pos end (word start bytes) (q ∷ qs) after p reaches e =
    let is = first_is (record { kind = Word; bytes = bytes; pos = start }) q (record { pieces = []; end = Ok pos }) (qs ++ p ∷ after) end e in
    absurd (none_is_one qs after p (ap (λ (l : Lexed). l.pieces) is.1))

-- what is read from a place on, up to the end of a token
pub ends : (bytes : List ℕ) (pos : ℕ) → Later pos bytes
unfolding lex
ends [] pos end state first after p reaches e = ends_at_end pos end state first after p reaches e
ends (b ∷ bytes) pos end state first after p reaches e = ⊎_elim
    (λ refused. let h = rw refused at e in absurd (none_is_one first after p (ap (λ (l : Lexed). l.pieces) h)))
    (λ good. let h = rw good at e in ends_step pos end b state bytes first after p good reaches h (ends bytes (pos + 1)))
    (cases (is_refused b))
