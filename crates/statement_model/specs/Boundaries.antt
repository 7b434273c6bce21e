-- Where statements begin and end (LEF/DEF 5.8 Language Reference, "DEF Syntax" and "LEF Syntax").
use Rattle.std.specs.Prelude.{ℕ, ◌+◌, Bool, true, false, ◌||◌, List, [], ◌∷◌, ◌++◌, length, map, Option, Some, None, Result, Ok, Err, codes, if◌then◌else◌}
use Rattle.design_model.specs.declared.fault.Fault.{Fault}
use Rattle.design_model.specs.declared.fault.FaultCode.TheVariants.{Unfinished}
use Rattle.statement_model.specs.Tokens.{Token, Lexed}
use Rattle.form_meanings.specs.Words.{is_word}

-- the bytes of tokens, without their places
abbrev pub words : List Token → List (List ℕ)
words = map (λ p. p.bytes)

-- what ends a statement: its first token, the one after it, or the first of a certain word
pub data Ending : Type 0 where
  alone : Ending
  with_next : Ending
  up_to : List ℕ → Ending

abbrev pub is_alone : Ending → Bool
is_alone alone = true
is_alone with_next = false
is_alone (up_to word) = false

-- a later token is the last
abbrev pub is_last : Ending → List ℕ → Bool
is_last alone w = true
is_last with_next w = true
is_last (up_to word) w = is_word word w

unfoldable pub last_of : Token → List Token → Token
last_of p [] = p
last_of p (q ∷ qs) = last_of q qs

-- where no statement is whole: a fault of the tokens, the end of the text, or a statement that isn't finished
abbrev pub unfinished : List Token → Result ℕ Fault → Result (Option (List Token × Lexed)) Fault
unfinished ps (Err f) = Err f
unfinished [] (Ok n) = Ok None
unfinished (p ∷ ps) (Ok n) = Err (record { code = Unfinished; pos = p.pos })

abbrev pub statement_from : Option (List Token × List Token) → Lexed → Result (Option (List Token × Lexed)) Fault
statement_from (Some x) l = Ok (Some (x.0, record { pieces = x.1; end = l.end }))
statement_from None l = unfinished l.pieces l.end

module _ (ending : List ℕ → Ending) where
  -- these tokens are a whole statement
  abbrev pub is_whole : List Token → Bool
  is_whole [] = false
  is_whole (p ∷ []) = is_alone (ending p.bytes)
  is_whole (p ∷ q ∷ qs) = is_last (ending p.bytes) (last_of q qs).bytes

  -- the first statement, where some of its tokens were read before, and the tokens after it
  unfoldable pub cut : List Token → List Token → Option (List Token × List Token)
  cut before [] = None
  cut before (p ∷ ps) = if is_whole (before ++ p ∷ []) then Some (before ++ p ∷ [], ps) else cut (before ++ p ∷ []) ps

  -- all statements, and the tokens of one that isn't whole
  unfoldable pub statements : List Token → List Token → List (List Token) × List Token
  statements before [] = ([], before)
  statements before (p ∷ ps) =
      if is_whole (before ++ p ∷ []) then (let later = statements [] ps in ((before ++ p ∷ []) ∷ later.0, later.1))
      else statements (before ++ p ∷ []) ps

  -- the first statement and what is left after it
  unfoldable pub statement_at : Lexed → Result (Option (List Token × Lexed)) Fault
  statement_at l = statement_from (cut [] l.pieces) l
