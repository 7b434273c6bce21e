-- A whole text in pieces.
use Rattle.std.specs.Prelude.{◌≡◌, ℕ, List, [], ◌++◌, length, Result, Ok, Err}
use Rattle.std.specs.List.{concat}
use Rattle.design_model.specs.declared.fault.ReadError.{ReadError}
use Rattle.design_model.specs.declared.fault.ReadError.TheVariants.{Fault, Memory}
use Rattle.design_model.specs.declared.mode.Mode.TheVariants.{Top, After}
use Rattle.statement_model.specs.Tokens.{tokens}
use Rattle.statement_model.specs.Reading.{read_from}
use Rattle.def_grammar.specs.Records.{Record, def}
use Rattle.piece_laws.specs.Pieces.{keyless, AreApart, AreChained, IsTail, modes_from}
use Rattle.rereading.specs.Rereading.{new_bytes, new_modes}
use Rattle.rereading.specs.declared.pieces.WholeText.{WholeText}

-- the text is these pieces, which are chained from its beginning to behind its END DESIGN, and a tail
pub record IsInPieces {A : Type 0} (text : List ℕ) (x : WholeText A) : Type 0 where
  pub recs : List Record
  pub chained : AreChained def Top (new_bytes x.pieces.items) recs After
  pub modes : new_modes x.pieces.items ≡ modes_from def Top recs
  pub reads : x.reads ≡ length x.pieces.items
  pub whole : concat (new_bytes x.pieces.items) ++ x.tail.items ≡ text
  pub apart : AreApart (new_bytes x.pieces.items) x.tail.items
  pub ends : IsTail def After x.tail.items

-- what reading a whole text in pieces says
abbrev pub ReadsPieces : {A : Type 0} → List ℕ → Result (WholeText A) ReadError → Type 0
ReadsPieces text (Ok x) = IsInPieces text x
ReadsPieces text (Err (Fault f)) = read_from (keyless def) (Top, []) (tokens text) ≡ Err f
ReadsPieces text (Err Memory) = Unit {0}
