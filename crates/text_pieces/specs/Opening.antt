-- How far a text is opened.
use Rattle.std.specs.Prelude.{◌≡◌, ◌≤◌, ◌<◌, ℕ, true, false, List, [], ◌∷◌, ◌++◌, length, map, drop, Option, None, Result, Ok, Err, MatchResult, MatchOption}
use Rattle.std.specs.List.{concat, slice_range, zip}
use Rattle.design_model.specs.declared.fault.Fault as fault
use Rattle.design_model.specs.declared.fault.ReadError.{ReadError}
use Rattle.design_model.specs.declared.fault.ReadError.TheVariants.{Fault, Memory}
use Rattle.design_model.specs.declared.identifier.StmtId.{StmtId}
use Rattle.design_model.specs.declared.mode.Mode.{Mode}
use Rattle.design_model.specs.declared.mode.Mode.TheVariants.{Top}
use Rattle.statement_model.specs.Tokens.{left_from, tokens}
use Rattle.statement_model.specs.Reading.{read_at, read_from}
use Rattle.statement_reader.specs.declared.grammar.Read.{Read}
use Rattle.lefdef_tokens.specs.Laws.{BeginsApart}
use Rattle.def_grammar.specs.Records.{Record, def}
use Rattle.piece_laws.specs.Pieces.{keyless, AreApart, AreChained, IsPiece, modes_from}
use Rattle.def_reader.specs.StatementViews.{record_view}
use Rattle.def_reader.specs.declared.statement.Statement.{Statement}
use Rattle.text_pieces.specs.Chunks.{Numbers, shown, all_ids, AreOnce}
use Rattle.text_pieces.specs.Tables.{Kept, kept_at, AreChunks}
use Rattle.text_pieces.specs.Told.{Tells}
use Rattle.text_pieces.specs.Content.{bytes_of}
use Rattle.text_pieces.specs.declared.opening.Part.{Part}

-- from one position to another stands a piece that says something, in a mode and leading to another, and a blank or the end comes
-- after it
abbrev pub PieceAt : Mode → List ℕ → ℕ → ℕ → Mode → Record → Type 0
PieceAt mode text pos end after rec = (pos < end) × (end ≤ length text) × IsPiece def mode (slice_range text pos end) rec after × BeginsApart (drop end text)

-- from a position on comes the piece of this statement; or none, or a fault
abbrev pub NextPiece : Mode → List ℕ → ℕ → Result (Option (Read Statement Mode)) fault.Fault → Type 0
NextPiece mode text pos r =
    MatchResult r
    (λ found. MatchOption found (read_at def mode (left_from text pos) ≡ Ok None) (λ x. PieceAt mode text pos x.end x.place (record_view x.statement)))
    (λ f. read_at def mode (left_from text pos) ≡ Err f)

-- the statements of a text up to a position are read as these pieces, say this, and lead to a mode
pub record AreRead (text : List ℕ) (ks : List Kept) (recs : List Record) (mode : Mode) (pos : ℕ) : Type 0 where
  pub chained : AreChained def Top (bytes_of ks) recs mode
  pub modes : map (λ k. k.mode) ks ≡ modes_from def Top recs
  pub left : List ℕ
  pub whole : text ≡ concat (bytes_of ks) ++ left
  pub at : pos ≡ length (concat (bytes_of ks))
  pub apart : AreApart (bytes_of ks) left

-- they are kept under numbers, in chunks
pub record IsOpened (text : List ℕ) (front : List Numbers) (recs : List Record) (slots : List (Option Kept)) (mode : Mode) (pos : ℕ) : Type 0 where
  pub read : AreRead text (map (kept_at slots) (all_ids front)) recs mode pos
  pub chunks : AreChunks slots 0 front
  pub once : AreOnce (all_ids front)

-- and they were told under these numbers since something was begun to be told
pub record AreTold {T : Type 0} (says : T → List (StmtId × Record) → Type 0) (begun now : T) (text : List ℕ) (front : List Numbers) (slots : List (Option Kept)) (mode : Mode) (pos : ℕ) : Type 0 where
  pub recs : List Record
  pub opened : IsOpened text front recs slots mode pos
  pub told : Tells says begun now (zip (all_ids front) recs)

-- a chunk more is read and told, or the fault of the text
abbrev pub ReadsChunk : {A T : Type 0} → (T → List (StmtId × Record) → Type 0) → List ℕ → Mode → ℕ → ℕ → List (Option Kept) → List (Option Kept) → T → T → Result (Part A) ReadError → Type 0
ReadsChunk says text mode from number old new before after (Ok part) =
    (begun : _) (front : List Numbers) → length front ≡ number → AreTold says begun before text front old mode from → AreTold says begun after text (front ++ shown part.chunk ∷ []) new part.mode part.pos
ReadsChunk says text mode from number old new before after (Err (Fault f)) =
    (begun : _) (front : List Numbers) → length front ≡ number → AreTold says begun before text front old mode from → read_from (keyless def) (Top, []) (tokens text) ≡ Err f
ReadsChunk says text mode from number old new before after (Err Memory) = Unit {0}

-- where it is the last, no statement is left
abbrev pub EndsLast : {A : Type 0} → List ℕ → ℕ → Result (Part A) ReadError → Type 0
EndsLast text from (Ok part) = (part.pos ≤ length text) × (part.is_last ≡ true → read_at def part.mode (left_from text part.pos) ≡ Ok None) × (part.is_last ≡ false → from < part.pos)
EndsLast text from (Err e) = Unit {0}
