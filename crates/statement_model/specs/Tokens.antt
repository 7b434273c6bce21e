-- The tokens of a text, with their places (own).
use Rattle.std.specs.Prelude.{ℕ, ◌+◌, false, Bool, not, ◌&&◌, ◌||◌, ◌==◌, nat_lt, List, [], ◌∷◌, ◌++◌, drop, Option, Some, None, Result, Ok, Err, if◌then◌else◌}
use Rattle.design_model.specs.declared.fault.Fault.{Fault}
use Rattle.design_model.specs.declared.fault.FaultCode.TheVariants.{RefusedByte, OpenString}
use Rattle.design_model.specs.declared.token_kind.TokenKind.{TokenKind}
use Rattle.design_model.specs.declared.token_kind.TokenKind.TheVariants.{Word, Quoted}

-- space, tab, carriage return and line feed
abbrev pub is_white : ℕ → Bool
is_white b = b == 32 || b == 9 || b == 13 || b == 10

-- the other control bytes
abbrev pub is_refused : ℕ → Bool
is_refused b = (nat_lt b 32 && not (is_white b)) || b == 127

-- a token: its kind, its bytes, and where they begin
pub record Token : Type 0 where
  pub kind : TokenKind
  pub bytes : List ℕ
  pub pos : ℕ

-- what is open at a place of a text: nothing, a comment, a word or a string, these two with where they began
-- and their bytes so far, and for the string its last byte
pub data Open : Type 0 where
  between : Open
  comment : Open
  word : ℕ → List ℕ → Open
  string : ℕ → List ℕ → ℕ → Open

-- the byte ends a string: a quote, and the byte before is no backslash
abbrev pub closes : ℕ → ℕ → Bool
closes last b = b == 34 && not (last == 92)

-- what is open after the byte b at place pos
abbrev pub next_open : ℕ → Open → ℕ → Open
next_open pos between b = if is_white b then between else (if b == 35 then comment else (if b == 34 then string pos (b ∷ []) b else word pos (b ∷ [])))
next_open pos comment b = if b == 10 then between else comment
next_open pos (word start bytes) b = if is_white b then between else word start (bytes ++ b ∷ [])
next_open pos (string start bytes last) b = if closes last b then between else string start (bytes ++ b ∷ []) b

-- the token that the byte b ends: white space ends a word before it, a quote ends a string with it
abbrev pub ended_by : Open → ℕ → List Token
ended_by between b = []
ended_by comment b = []
ended_by (word start bytes) b = if is_white b then record { kind = Word; bytes = bytes; pos = start } ∷ [] else []
ended_by (string start bytes last) b = if closes last b then record { kind = Quoted; bytes = bytes ++ b ∷ []; pos = start } ∷ [] else []

-- tokens in order, and then the text's length or its fault
pub record Lexed : Type 0 where
  pub pieces : List Token
  pub end : Result ℕ Fault

abbrev pub before : List Token → Lexed → Lexed
before ps l = record { pieces = ps ++ l.pieces; end = l.end }

-- at the end of the text
abbrev pub at_end : ℕ → Open → Lexed
at_end pos between = record { pieces = []; end = Ok pos }
at_end pos comment = record { pieces = []; end = Ok pos }
at_end pos (word start bytes) = record { pieces = record { kind = Word; bytes = bytes; pos = start } ∷ []; end = Ok pos }
at_end pos (string start bytes last) = record { pieces = []; end = Err (record { code = OpenString; pos = start }) }

-- nothing but a fault
abbrev pub only_fault : Fault → Lexed
only_fault f = record { pieces = []; end = Err f }

-- the tokens from place pos on, where this is open
unfoldable pub lex : ℕ → Open → List ℕ → Lexed
lex pos state [] = at_end pos state
lex pos state (b ∷ bs) =
    if is_refused b then only_fault (record { code = RefusedByte; pos = pos })
    else before (ended_by state b) (lex (pos + 1) (next_open pos state b) bs)

-- the tokens of a text
abbrev pub tokens : List ℕ → Lexed
tokens text = lex 0 between text

-- what is read from a place on, between two tokens
abbrev pub left_from : List ℕ → ℕ → Lexed
left_from text from = lex from between (drop from text)

-- one token at a time: the first of them, and what is left then; at the end the end, for good
abbrev pub first_of : List Token → Result ℕ Fault → Result (Option Token) Fault
first_of (p ∷ ps) end = Ok (Some p)
first_of [] (Ok n) = Ok None
first_of [] (Err f) = Err f

abbrev pub first_token : Lexed → Result (Option Token) Fault
first_token l = first_of l.pieces l.end

abbrev pub without_first : List Token → List Token
without_first [] = []
without_first (p ∷ ps) = ps

abbrev pub later_tokens : Lexed → Lexed
later_tokens l = record { pieces = without_first l.pieces; end = l.end }

-- a scanner: its text, and what of the text's tokens is left
pub record Scan : Type 0 where
  pub text : List ℕ
  pub left : Lexed
