-- Laws of the tokens of a text.
use Rattle.std.specs.Prelude.{◌≡◌, ◌≤◌, ◌<◌, ℕ, ◌+◌, true, List, [], ◌∷◌, ◌++◌, length, Result, Ok, Err, map}
use Rattle.std.specs.List.{slice_range}
use Rattle.statement_model.specs.Tokens.{Open, Token, Lexed, lex, before, next_open, is_white, tokens}
use Rattle.design_model.specs.declared.fault.Fault.{Fault}
use Rattle.statement_model.specs.Tokens.Open.{between, comment, word, string}

-- what is open after a text
unfoldable pub state_after : ℕ → Open → List ℕ → Open
state_after pos state [] = state
state_after pos state (b ∷ bs) = state_after (pos + 1) (next_open pos state b) bs

-- a text that ends outside of comments and strings
abbrev pub IsClosed : Open → Type 0
IsClosed between = Unit {0}
IsClosed comment = ⊥
IsClosed (word start bytes) = Unit {0}
IsClosed (string start bytes last) = ⊥

-- a text that is empty or begins with white space
abbrev pub BeginsApart : List ℕ → Type 0
BeginsApart [] = Unit {0}
BeginsApart (b ∷ bs) = is_white b ≡ true

-- Where s reads and ends outside of comments and strings, and t begins apart from it, the tokens of s and then t are those of s and then those of t.
abbrev pub TokensJoin : Type 0
TokensJoin = (s t : List ℕ) (n : ℕ) → (tokens s).end ≡ Ok n → IsClosed (state_after 0 between s) → BeginsApart t → tokens (s ++ t) ≡ before (tokens s).pieces (lex (length s) between t)

-- the same, k bytes later
abbrev pub moved_token : ℕ → Token → Token
moved_token k p = record { kind = p.kind; bytes = p.bytes; pos = k + p.pos }

abbrev pub moved_state : ℕ → Open → Open
moved_state k between = between
moved_state k comment = comment
moved_state k (word start bytes) = word (k + start) bytes
moved_state k (string start bytes last) = string (k + start) bytes last

abbrev pub moved_end : ℕ → Result ℕ Fault → Result ℕ Fault
moved_end k (Ok n) = Ok (k + n)
moved_end k (Err f) = Err (record { code = f.code; pos = k + f.pos })

abbrev pub moved : ℕ → Lexed → Lexed
moved k l = record { pieces = map (moved_token k) l.pieces; end = moved_end k l.end }

-- What is read doesn't depend on where it stands, but for the places.
abbrev pub TokensMove : Type 0
TokensMove = (text : List ℕ) (k pos : ℕ) → lex (k + pos) between text ≡ moved k (lex pos between text)

-- The tokens stand in the text one after the other, from a place on, and their bytes are what the text has there.
abbrev pub StandIn : List ℕ → ℕ → List Token → Type 0
StandIn text from [] = Unit {0}
StandIn text from (p ∷ ps) =
    (from ≤ p.pos)
    × (0 < length p.bytes)
    × (p.pos + length p.bytes ≤ length text)
    × (p.bytes ≡ slice_range text p.pos (p.pos + length p.bytes))
    × StandIn text (p.pos + length p.bytes) ps

-- Each token of a text is a slice of it, and begins no earlier than the one before it ends.
abbrev pub TokensAreSlices : Type 0
TokensAreSlices = (text : List ℕ) → StandIn text 0 (tokens text).pieces
