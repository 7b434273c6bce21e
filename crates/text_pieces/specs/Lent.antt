-- A piece of a text that is lent, and which statement of the text it is.
use Rattle.std.specs.Prelude.{◌≡◌, ◌≤◌, ◌+◌, ℕ, List, length, map, take, drop, Option, Some, None}
use Rattle.std.specs.List.{zip}
use Rattle.design_model.specs.declared.identifier.StmtId.{StmtId}
use Rattle.design_model.specs.declared.mode.Mode.{Mode}
use Rattle.statement_model.specs.Tokens.{Token, tokens}
use Rattle.lefdef_tokens.specs.Laws.{BeginsApart, moved_token}
use Rattle.def_grammar.specs.Records.{Record, def}
use Rattle.piece_laws.specs.Pieces.{IsPiece}
use Rattle.text_pieces.specs.Content.{Content, text_of}
use Rattle.text_pieces.specs.Statements.{look_up, statements_of}
use Rattle.text_pieces.specs.Tables.{ids_of}
use Rattle.text_pieces.specs.declared.lent.LentPiece.{LentPiece}

-- the numbers of the statements of a text in pieces, each with its tokens and what it says
abbrev pub numbered_statements : Content → List (StmtId × (List Token × Record))
numbered_statements c = zip (ids_of c.table) (statements_of (text_of c))

-- what they say, under their numbers
abbrev pub numbered_records : Content → List (StmtId × Record)
numbered_records c = zip (ids_of c.table) (map (λ x. x.1) (statements_of (text_of c)))

-- bytes are a statement by themselves in a mode; from a place on they lie in the text, what comes behind them there begins apart, and
-- this statement of the text has the number
pub record IsLent (c : Content) (id : StmtId) (mode : Mode) (bytes : List ℕ) (at : ℕ) : Type 0 where
  pub rec : Record
  pub after : Mode
  pub piece : IsPiece def mode bytes rec after
  pub numbered : look_up id (numbered_statements c) ≡ Some (map (moved_token at) (tokens bytes).pieces, rec)
  pub within : at + length bytes ≤ length (text_of c)
  pub lies : take (length bytes) (drop at (text_of c)) ≡ bytes
  pub apart : BeginsApart (drop (at + length bytes) (text_of c))

-- a piece is lent where its number stands
abbrev pub Lends : Content → StmtId → Option LentPiece → Type 0
Lends c id None = look_up id (numbered_statements c) ≡ None
Lends c id (Some p) = IsLent c id p.mode p.bytes.now p.at
