-- The text up to the place of a token.
use Rattle.std.proofs.Common.{◌≡◌, ℕ, ◌+◌, true, false, List, [], ◌∷◌, ◌++◌, Ok, refl, ap, subst, ◌∙◌, ⊎_elim, add-zero, ◌==◌, Result}
use Rattle.statement_model.specs.Tokens.{Open, Token, Lexed, lex, before, next_open, ended_by, at_end, is_white, is_refused, closes}
use Rattle.statement_model.specs.Tokens.Open.{between, comment, word, string}
use Rattle.design_model.specs.declared.fault.Fault.{Fault}
use Rattle.design_model.specs.declared.token_kind.TokenKind.TheVariants.{Word, Quoted}
use Rattle.std.proofs.lemmas.Bool.{cases_Bool as cases}
use Rattle.lefdef_tokens.specs.Laws.{state_after}
use Rattle.splicing_laws.proofs.SplicingParts.{Part, longer, first_is, none_is_one}

-- an open word or string is the first token
word_starts : (bytes : List ℕ) (pos : ℕ) (end : Result ℕ Fault) (start : ℕ) (so_far : List ℕ) (after : List Token) (p : Token) → lex pos (word start so_far) bytes ≡ record { pieces = p ∷ after; end = end } → start ≡ p.pos
unfolding lex
word_starts [] pos end start so_far after p e =
    let is = first_is (record { kind = Word; bytes = so_far; pos = start }) p (record { pieces = []; end = Ok pos }) after end e in
    ap (λ (q : Token). q.pos) is.0
word_starts (b ∷ bytes) pos end start so_far after p e = ⊎_elim
    (λ refused. let h = rw refused at e in absurd (none_is_one [] after p (ap (λ (l : Lexed). l.pieces) h)))
    (λ (good : is_refused b ≡ false). ⊎_elim
    (λ (white : is_white b ≡ true).
    let h = rw (good, white) at e in
    let is = first_is (record { kind = Word; bytes = so_far; pos = start }) p (lex (pos + 1) between bytes) after end h in
    ap (λ (q : Token). q.pos) is.0)
    (λ (more : is_white b ≡ false). let h = rw (good, more) at e in word_starts bytes (pos + 1) end start (so_far ++ b ∷ []) after p h)
    (cases (is_white b)))
    (cases (is_refused b))

string_starts : (bytes : List ℕ) (pos : ℕ) (end : Result ℕ Fault) (start last : ℕ) (so_far : List ℕ) (after : List Token) (p : Token) → lex pos (string start so_far last) bytes ≡ record { pieces = p ∷ after; end = end } → start ≡ p.pos
unfolding lex
string_starts [] pos end start last so_far after p e = absurd (none_is_one [] after p (ap (λ (l : Lexed). l.pieces) e))
string_starts (b ∷ bytes) pos end start last so_far after p e = ⊎_elim
    (λ refused. let h = rw refused at e in absurd (none_is_one [] after p (ap (λ (l : Lexed). l.pieces) h)))
    (λ (good : is_refused b ≡ false). ⊎_elim
    (λ (quote : closes last b ≡ true).
    let h = rw (good, quote) at e in
    let is = first_is (record { kind = Quoted; bytes = so_far ++ b ∷ []; pos = start }) p (lex (pos + 1) between bytes) after end h in
    ap (λ (q : Token). q.pos) is.0)
    (λ (more : closes last b ≡ false). let h = rw (good, more) at e in string_starts bytes (pos + 1) end start b (so_far ++ b ∷ []) after p h)
    (cases (closes last b)))
    (cases (is_refused b))

-- nothing is open
abbrev pub Nothing : Open → List ℕ → Type 0
Nothing state rest = state ≡ between

-- the text up to the place of a token, with these tokens before it
abbrev pub Starts : ℕ → Open → List ℕ → List Token → Token → Type 0
Starts pos state bytes first p = Part Nothing pos state bytes first p.pos

-- an open word or string is one of these tokens
abbrev IsAmong : Open → List Token → Type 0
IsAmong between first = Unit {0}
IsAmong comment first = Unit {0}
IsAmong (word start bytes) [] = ⊥
IsAmong (word start bytes) (q ∷ qs) = Unit {0}
IsAmong (string start bytes last) [] = ⊥
IsAmong (string start bytes last) (q ∷ qs) = Unit {0}

abbrev Later : ℕ → List ℕ → Type 0
Later pos bytes = (end : Result ℕ Fault) (state : Open) (first after : List Token) (p : Token) → IsAmong state first → lex pos state bytes ≡ record { pieces = first ++ p ∷ after; end = end } → Starts pos state bytes first p

-- a byte that ends no token
none_ends : (pos : ℕ) (end : Result ℕ Fault) (b : ℕ) (state next : Open) (bytes : List ℕ) (first after : List Token) (p : Token) → is_refused b ≡ false → ended_by state b ≡ [] → next_open pos state b ≡ next
    → IsAmong next first → lex (pos + 1) next bytes ≡ record { pieces = first ++ p ∷ after; end = end } → Later (pos + 1) bytes → Starts pos state (b ∷ bytes) first p
none_ends pos end b state next bytes first after p good ended opens among e later =
    longer Nothing pos p.pos b state next bytes [] first good ended opens (later end next first after p among e)

-- a byte that ends the first
one_ends : (pos : ℕ) (end : Result ℕ Fault) (b : ℕ) (state : Open) (bytes : List ℕ) (qs after : List Token) (p q r : Token) → is_refused b ≡ false → ended_by state b ≡ r ∷ [] → next_open pos state b ≡ between
    → before (r ∷ []) (lex (pos + 1) between bytes) ≡ record { pieces = q ∷ (qs ++ p ∷ after); end = end } → Later (pos + 1) bytes → Starts pos state (b ∷ bytes) (q ∷ qs) p
one_ends pos end b state bytes qs after p q r good ended opens e later =
    let is = first_is r q (lex (pos + 1) between bytes) (qs ++ p ∷ after) end e in
    subst (λ (t : Token). Part Nothing pos state (b ∷ bytes) (t ∷ qs) p.pos) is.0
    (longer Nothing pos p.pos b state between bytes (r ∷ []) qs good ended opens (later end between qs after p tt is.1))

-- a token begins here
here : (pos : ℕ) (bytes : List ℕ) (p : Token) → pos ≡ p.pos → Starts pos between bytes [] p
unfolding lex state_after
here pos bytes p is = record {
  front = [];
  rest = bytes;
  whole = refl;
  place = add-zero pos ∙ is;
  read = ap (λ (k : ℕ). record { pieces = []; end = Ok k }) is;
  left = refl;
}

word_opens : (pos : ℕ) (end : Result ℕ Fault) (b : ℕ) (bytes : List ℕ) (first after : List Token) (p : Token) → is_refused b ≡ false → next_open pos between b ≡ word pos (b ∷ [])
    → lex (pos + 1) (word pos (b ∷ [])) bytes ≡ record { pieces = first ++ p ∷ after; end = end } → Later (pos + 1) bytes → Starts pos between (b ∷ bytes) first p
word_opens pos end b bytes [] after p good opens e later = here pos (b ∷ bytes) p (word_starts bytes (pos + 1) end pos (b ∷ []) after p e)
word_opens pos end b bytes (q ∷ qs) after p good opens e later = none_ends pos end b between (word pos (b ∷ [])) bytes (q ∷ qs) after p good refl opens tt e later

string_opens : (pos : ℕ) (end : Result ℕ Fault) (b : ℕ) (bytes : List ℕ) (first after : List Token) (p : Token) → is_refused b ≡ false → next_open pos between b ≡ string pos (b ∷ []) b
    → lex (pos + 1) (string pos (b ∷ []) b) bytes ≡ record { pieces = first ++ p ∷ after; end = end } → Later (pos + 1) bytes → Starts pos between (b ∷ bytes) first p
string_opens pos end b bytes [] after p good opens e later = here pos (b ∷ bytes) p (string_starts bytes (pos + 1) end pos b (b ∷ []) after p e)
string_opens pos end b bytes (q ∷ qs) after p good opens e later = none_ends pos end b between (string pos (b ∷ []) b) bytes (q ∷ qs) after p good refl opens tt e later

-- a byte between tokens
between_step : (pos : ℕ) (end : Result ℕ Fault) (b : ℕ) (bytes : List ℕ) (first after : List Token) (p : Token) → is_refused b ≡ false
    → lex (pos + 1) (next_open pos between b) bytes ≡ record { pieces = first ++ p ∷ after; end = end } → Later (pos + 1) bytes → Starts pos between (b ∷ bytes) first p
between_step pos end b bytes first after p good e later = ⊎_elim
    (λ (white : is_white b ≡ true).
    let h = rw white at e in
    none_ends pos end b between between bytes first after p good refl (rw white refl) tt h later)
    (λ (no_white : is_white b ≡ false). ⊎_elim
    (λ (hash : (b == 35) ≡ true).
    let h = rw (no_white, hash) at e in
    none_ends pos end b between comment bytes first after p good refl (rw (no_white, hash) refl) tt h later)
    (λ (no_hash : (b == 35) ≡ false). ⊎_elim
    (λ (quote : (b == 34) ≡ true). let h = rw (no_white, no_hash, quote) at e in string_opens pos end b bytes first after p good (rw (no_white, no_hash, quote) refl) h later)
    (λ (no_quote : (b == 34) ≡ false). let h = rw (no_white, no_hash, no_quote) at e in word_opens pos end b bytes first after p good (rw (no_white, no_hash, no_quote) refl) h later)
    (cases (b == 34)))
    (cases (b == 35)))
    (cases (is_white b))

-- one byte
starts_step : (pos : ℕ) (end : Result ℕ Fault) (b : ℕ) (state : Open) (bytes : List ℕ) (first after : List Token) (p : Token) → is_refused b ≡ false → IsAmong state first
    → before (ended_by state b) (lex (pos + 1) (next_open pos state b) bytes) ≡ record { pieces = first ++ p ∷ after; end = end } → Later (pos + 1) bytes → Starts pos state (b ∷ bytes) first p
starts_step pos end b between bytes first after p good among e later = between_step pos end b bytes first after p good e later
starts_step pos end b comment bytes first after p good among e later = ⊎_elim
    (λ (over : (b == 10) ≡ true). let h = rw over at e in none_ends pos end b comment between bytes first after p good refl (rw over refl) tt h later)
    (λ (more : (b == 10) ≡ false). let h = rw more at e in none_ends pos end b comment comment bytes first after p good refl (rw more refl) tt h later)
    (cases (b == 10))
starts_step pos end b (word start so_far) bytes [] after p good among e later = absurd among
starts_step pos end b (word start so_far) bytes (q ∷ qs) after p good among e later = ⊎_elim
    (λ (white : is_white b ≡ true).
    let h = rw white at e in
    one_ends pos end b (word start so_far) bytes qs after p q (record { kind = Word; bytes = so_far; pos = start }) good (rw white refl) (rw white refl) h later)
    (λ (more : is_white b ≡ false).
    let h = rw more at e in
    none_ends pos end b (word start so_far) (word start (so_far ++ b ∷ [])) bytes (q ∷ qs) after p good (rw more refl) (rw more refl) tt h later)
    (cases (is_white b))
starts_step pos end b (string start so_far last) bytes [] after p good among e later = absurd among
starts_step pos end b (string start so_far last) bytes (q ∷ qs) after p good among e later = ⊎_elim
    (λ (quote : closes last b ≡ true).
    let h = rw quote at e in
    one_ends pos end b (string start so_far last) bytes qs after p q (record { kind = Quoted; bytes = so_far ++ b ∷ []; pos = start }) good (rw quote refl) (rw quote refl) h later)
    (λ (more : closes last b ≡ false).
    let h = rw more at e in
    none_ends pos end b (string start so_far last) (string start (so_far ++ b ∷ []) b) bytes (q ∷ qs) after p good (rw more refl) (rw more refl) tt h later)
    (cases (closes last b))

-- no token begins at the end
none_at_end : (pos : ℕ) (end : Result ℕ Fault) (state : Open) (first after : List Token) (p : Token) → IsAmong state first → at_end pos state ≡ record { pieces = first ++ p ∷ after; end = end } → ⊥
none_at_end pos end between first after p among e = none_is_one first after p (ap (λ (l : Lexed). l.pieces) e)
none_at_end pos end comment first after p among e = none_is_one first after p (ap (λ (l : Lexed). l.pieces) e)
none_at_end pos end (word start so_far) [] after p among e = among
none_at_end pos end (word start so_far) (q ∷ qs) after p among e =
    let is = first_is (record { kind = Word; bytes = so_far; pos = start }) q (record { pieces = []; end = Ok pos }) (qs ++ p ∷ after) end e in
    none_is_one qs after p (ap (λ (l : Lexed). l.pieces) is.1)
none_at_end pos end (string start so_far last) first after p among e = none_is_one first after p (ap (λ (l : Lexed). l.pieces) e)

starts : (bytes : List ℕ) (pos : ℕ) → Later pos bytes
unfolding lex
starts [] pos end state first after p among e = absurd (none_at_end pos end state first after p among e)
starts (b ∷ bytes) pos end state first after p among e = ⊎_elim
    (λ refused. let h = rw refused at e in absurd (none_is_one first after p (ap (λ (l : Lexed). l.pieces) h)))
    (λ good. let h = rw good at e in starts_step pos end b state bytes first after p good among h (starts bytes (pos + 1)))
    (cases (is_refused b))

-- what is left at a place, up to the place of a token
pub token_starts : (bytes : List ℕ) (at : ℕ) (end : Result ℕ Fault) (first after : List Token) (p : Token) → lex at between bytes ≡ record { pieces = first ++ p ∷ after; end = end } → Starts at between bytes first p
token_starts bytes at end first after p e = starts bytes at end between first after p tt e
