-- A text in pieces as its contracts see it.
use Rattle.std.specs.Prelude.{◌≡◌, ◌≤◌, ℕ, List, ◌++◌, length, map, Result, Ok, Err, IsOk}
use Rattle.std.specs.List.{concat}
use Rattle.design_model.specs.declared.TheConstants.{MAX_TEXT}
use Rattle.design_model.specs.declared.fault.Fault as fault
use Rattle.design_model.specs.declared.fault.ReadError.{ReadError}
use Rattle.design_model.specs.declared.fault.ReadError.TheVariants.{Fault, Memory}
use Rattle.design_model.specs.declared.mode.Mode.TheVariants.{Top, After}
use Rattle.statement_model.specs.Reading.{read_text}
use Rattle.def_grammar.specs.Records.{Record, def}
use Rattle.piece_laws.specs.Pieces.{keyless, AreApart, AreChained, IsTail, modes_from}
use Rattle.text_pieces.specs.Tables.{Kept, Table, IsTable, standing}

-- the pieces of the statements, the bytes behind the last of them, and how many bytes all have
pub record Content : Type 0 where
  pub table : Table
  pub tail : List ℕ
  pub len : ℕ

abbrev pub bytes_of : List Kept → List (List ℕ)
bytes_of = map (λ k. k.bytes)

-- the text: the pieces of the statements that stand, and what is behind them
abbrev pub text_of : Content → List ℕ
text_of c = concat (bytes_of (standing c.table)) ++ c.tail

-- the pieces are those of a text that reads without its keys, from its beginning to behind its END DESIGN, each with the mode
-- in which it stands
pub record IsText (c : Content) : Type 0 where
  pub table : IsTable c.table
  pub recs : List Record
  pub chained : AreChained def Top (bytes_of (standing c.table)) recs After
  pub modes : map (λ k. k.mode) (standing c.table) ≡ modes_from def Top recs
  pub apart : AreApart (bytes_of (standing c.table)) c.tail
  pub ends : IsTail def After c.tail
  pub whole : c.len ≡ length (text_of c)
  pub fits : length (text_of c) ≤ MAX_TEXT

-- a text of which nothing is asked but that its statements can be read: its records, or its fault
abbrev pub read_keyless : List ℕ → Result (List Record) fault.Fault
read_keyless text = read_text (keyless def) Top text

-- what opening a text says; refused memory says nothing
abbrev pub Opens : List ℕ → Result Content ReadError → Type 0
Opens text (Ok c) = (text_of c ≡ text) × IsOk (read_keyless text)
Opens text (Err (Fault f)) = read_keyless text ≡ Err f
Opens text (Err Memory) = Unit {0}
