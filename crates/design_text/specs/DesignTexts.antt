-- A text in pieces with its tables, as its contracts see it.
use Rattle.std.specs.Prelude.{◌≡◌, ℕ, Bool, false, List, length, map, Option, Some, None, Ok}
use Rattle.std.specs.List.{zip}
use Rattle.design_model.specs.declared.identifier.StmtId.{StmtId}
use Rattle.statement_model.specs.Tokens.{Token}
use Rattle.form_meanings.specs.Words.{◌>>=◌}
use Rattle.def_grammar.specs.Located.{located}
use Rattle.def_grammar.specs.Records.{Record, entry_of, key_of, read_def}
use Rattle.edit_rules.specs.NetEdits.{lists}
use Rattle.piece_laws.specs.KeyLaws.{StandOnce}
use Rattle.text_pieces.specs.Chunks.{AreOnce}
use Rattle.text_pieces.specs.Content as pieces
use Rattle.text_pieces.specs.Lent.{numbered_statements}
use Rattle.text_pieces.specs.Statements.{look_up, number_at, spans_by_number, statements_of}
use Rattle.text_pieces.specs.Tables.{ids_of}
use Rattle.design_tables.specs.Listings.{AreTablesOf, Listing}
use Rattle.def_splice.specs.LookupViews.{of_entry}

-- the pieces of the text, and what stands under each name
pub record Content : Type 0 where
  pub pieces : pieces.Content
  pub names : List (List ℕ × Listing)

abbrev pub text_of : Content → List ℕ
text_of c = pieces.text_of c.pieces

-- what its statements say, one after the other
abbrev pub design_of : Content → List Record
design_of c = map (λ x. x.1) (statements_of (text_of c))

-- the numbers of the statements, in their order
abbrev pub numbers_of : Content → List StmtId
numbers_of c = ids_of c.pieces.table

-- the text reads as a design, and the tables are those of its statements under their numbers
pub record IsDesignText (c : Content) : Type 0 where
  pub design : List Record
  pub reads : read_def (text_of c) ≡ Ok design
  pub tables : AreTablesOf (zip (numbers_of c) design) c.names

-- the statement of a number, with its tokens
abbrev pub statement_under : Content → StmtId → Option (List Token × Record)
statement_under c id = look_up id (numbered_statements c.pieces)

-- what the statement says that has a position between its first token's start and its last one's end
abbrev pub record_at : Content → ℕ → Option Record
record_at c position = do
  id ← number_at position (spans_by_number c.pieces)
  x ← statement_under c id
  Some x.1

-- what is known of a text with this design: its statements are those that are read one after the other, each has a number of its own,
-- what a text has once stands once, and the tables are theirs
pub record IsNumbered (c : Content) (design : List Record) : Type 0 where
  pub located : located (text_of c) design ≡ statements_of (text_of c)
  pub said : map (λ x. x.1) (statements_of (text_of c)) ≡ design
  pub many : length (numbers_of c) ≡ length (statements_of (text_of c))
  pub once : AreOnce (numbers_of c)
  pub keys : StandOnce (map key_of design)
  pub tables : AreTablesOf (zip (numbers_of c) design) c.names

-- a test of what a statement says, where there is one
abbrev pub says_one : (Record → Bool) → Option (List Token × Record) → Bool
says_one test None = false
says_one test (Some x) = test x.1

-- an entry that lists this pin of this owner
abbrev pub is_listing : List ℕ → List ℕ → Record → Bool
is_listing owner pin r = of_entry (lists owner pin) (entry_of r)
