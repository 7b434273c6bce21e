-- Laws of where statements end in a text.
use Rattle.std.specs.Prelude.{◌≡◌, ℕ, ◌+◌, List, [], ◌∷◌, length, drop, Ok}
use Rattle.std.specs.List.{All}
use Rattle.statement_model.specs.Tokens.{Token, tokens}
use Rattle.statement_model.specs.Boundaries.{statements, last_of}
use Rattle.lefdef_tokens.specs.Laws.{BeginsApart}
use Rattle.def_grammar.specs.Records.{Record, def_ending, read_def}

-- after the last of these tokens a text has white space or ends
abbrev pub EndApart : List ℕ → List Token → Type 0
EndApart text [] = Unit {0}
EndApart text (p ∷ ps) = let last = last_of p ps in BeginsApart (drop (last.pos + length last.bytes) text)

-- In a DEF text that reads, each statement ends before white space or where the text does.
abbrev pub StatementsEndApart : Type 0
StatementsEndApart = (text : List ℕ) (recs : List Record) → read_def text ≡ Ok recs → All (EndApart text) (statements def_ending [] (tokens text).pieces).0
