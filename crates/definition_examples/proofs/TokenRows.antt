-- Worked rows of tokens and of where statements end, by computing.
use Rattle.std.proofs.Common.{◌≡◌, ◌++◌, List, ℕ, [], ◌∷◌, Ok, Err, refl, codes, map}
use Rattle.design_model.specs.declared.fault.FaultCode.TheVariants.{RefusedByte, OpenString}
use Rattle.design_model.specs.declared.token_kind.TokenKind.{TokenKind}
use Rattle.design_model.specs.declared.token_kind.TokenKind.TheVariants.{Word, Quoted}
use Rattle.statement_model.specs.Tokens.{Token, lex, tokens}
use Rattle.statement_model.specs.Boundaries.{last_of, statements, words}
use Rattle.statement_model.specs.Reading.{fault_at}
use Rattle.def_grammar.specs.Records.{def_ending}

abbrev piece : TokenKind → List ℕ → ℕ → Token
piece kind bytes pos = record { kind = kind; bytes = bytes; pos = pos }

-- the statements of a text, by their words, and the words of one that isn't whole
abbrev statements_in : List ℕ → List (List (List ℕ)) × List (List ℕ)
statements_in text = (map words (statements def_ending [] (tokens text).pieces).0, words (statements def_ending [] (tokens text).pieces).1)

-- words and strings with their places, and a comment, which is no token
some_tokens : tokens (codes "a \"b c\"\n# d\n e;") ≡ record { pieces = piece Word (codes "a") 0 ∷ piece Quoted (codes "\"b c\"") 2 ∷ piece Word (codes "e;") 13 ∷ []; end = Ok 15 }
unfolding lex
some_tokens = refl

-- a # within a word begins no comment, a quote within a word no string, and a quote after a backslash ends no string
within_a_token : tokens (codes "a#b c\"d \"e\\\"f\"g") ≡ record {
  pieces = piece Word (codes "a#b") 0 ∷ piece Word (codes "c\"d") 4 ∷ piece Quoted (codes "\"e\\\"f\"") 8 ∷ piece Word (codes "g") 14 ∷ [];
  end = Ok 15;
}
unfolding lex
within_a_token = refl

-- a control byte ends the tokens where it stands: the word before it, which it doesn't end, is none
refused_byte : tokens (codes "a b" ++ 127 ∷ codes " c") ≡ record { pieces = piece Word (codes "a") 0 ∷ []; end = Err (fault_at RefusedByte 3) }
unfolding lex
refused_byte = refl

-- a string that isn't closed, by where it begins
open_string : tokens (codes "a \"b c") ≡ record { pieces = piece Word (codes "a") 0 ∷ []; end = Err (fault_at OpenString 2) }
unfolding lex
open_string = refl

-- ; and PROPERTYDEFINITIONS stand alone, END takes one more token, BEGINEXT runs to ENDEXT, and another word to the first ;
ends : statements_in (codes "; PROPERTYDEFINITIONS END ; BEGINEXT a ; ENDEXT b c ; d") ≡ (
  (codes ";" ∷ [])
      ∷ (codes "PROPERTYDEFINITIONS" ∷ [])
      ∷ (codes "END" ∷ codes ";" ∷ [])
      ∷ (codes "BEGINEXT" ∷ codes "a" ∷ codes ";" ∷ codes "ENDEXT" ∷ [])
      ∷ (codes "b" ∷ codes "c" ∷ codes ";" ∷ [])
      ∷ [],
  codes "d" ∷ [],
)
unfolding lex statements last_of
ends = refl
