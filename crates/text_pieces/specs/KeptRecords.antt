-- What the statements say that are kept under numbers, of a text and of a change of it.
use Rattle.std.specs.Prelude.{◌≡◌, ℕ, List, [], ◌∷◌, ◌++◌, map, Option, Some, None, Result, Ok, Err, MatchOption}
use Rattle.std.specs.Borrow.{Bor}
use Rattle.design_model.specs.declared.fault.Fault as fault
use Rattle.design_model.specs.declared.identifier.StmtId.{StmtId}
use Rattle.design_model.specs.declared.mode.Mode.{Mode}
use Rattle.design_model.specs.declared.mode.Section.TheVariants.{Components}
use Rattle.statement_model.specs.Reading.{read_form}
use Rattle.statement_model.specs.Tokens.{tokens}
use Rattle.def_grammar.specs.Records.{Record, def, end_section}
use Rattle.piece_laws.specs.Pieces.{IsPiece}
use Rattle.text_pieces.specs.Changes.{Prepared}
use Rattle.text_pieces.specs.Chunks.{AreOnce}
use Rattle.text_pieces.specs.Content.{Content, read_keyless, text_of}
use Rattle.text_pieces.specs.Lent.{numbered_records}
use Rattle.text_pieces.specs.Tables.{Kept, ids_of, kept_at, slot}

-- what a piece says by itself in its mode; one that doesn't read is kept nowhere
abbrev pub record_or : Result (Record × Mode) fault.Fault → Record
record_or (Ok x) = x.0
record_or (Err f) = end_section Components

abbrev pub record_of : Kept → Record
record_of k = record_or (read_form def k.mode (tokens k.bytes).pieces)

-- what is kept under these numbers
abbrev pub records_under : List (Option Kept) → List StmtId → List (StmtId × Record)
records_under slots ids = map (λ id. (id, record_of (kept_at slots id))) ids

-- a statement is kept under each of these numbers
pub record HasPiece (slots : List (Option Kept)) (id : StmtId) : Type 0 where
  pub held : slot slots id ≡ Some (kept_at slots id)
  pub after : Mode
  pub piece : IsPiece def (kept_at slots id).mode (kept_at slots id).bytes (record_of (kept_at slots id)) after

abbrev pub HavePieces : List (Option Kept) → List StmtId → Type 0
HavePieces slots [] = Unit {0}
HavePieces slots (id ∷ ids) = HasPiece slots id × HavePieces slots ids

-- the statements of a text are kept under their numbers, and the text reads without its keys as they say
pub record AreKept (c : Content) : Type 0 where
  pub says : numbered_records c ≡ records_under c.table.slots (ids_of c.table)
  pub pieces : HavePieces c.table.slots (ids_of c.table)
  pub reads : read_keyless (text_of c) ≡ Ok (map (λ x. x.1) (numbered_records c))

-- the statements of the two texts between which a change leads are the same but for those that go out and those that come in, and the
-- text to which it leads reads without its keys as its own say
pub record AreParted (slots : List (Option Kept)) (p : Prepared) (base other : Content) : Type 0 where
  pub front : List StmtId
  pub rest : List StmtId
  pub goes : numbered_records base ≡ records_under slots (front ++ (p.out ++ rest))
  pub comes : numbered_records other ≡ records_under slots (front ++ (p.put ++ rest))
  pub base_once : AreOnce (front ++ (p.out ++ rest))
  pub other_once : AreOnce (front ++ (p.put ++ rest))
  pub reads : read_keyless (text_of other) ≡ Ok (map (λ x. x.1) (numbered_records other))
  pub out : HavePieces slots p.out
  pub put : HavePieces slots p.put

-- the bytes that are kept under a number, and their mode
abbrev pub LendsKept : List (Option Kept) → StmtId → Option (Bor (List ℕ) × Mode) → Type 0
LendsKept slots id found = MatchOption found (slot slots id ≡ None) (λ p. (k : Kept) × (slot slots id ≡ Some k) × (p.0.now ≡ k.bytes) × (p.1 ≡ k.mode))
