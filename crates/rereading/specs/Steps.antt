-- The next new piece of a window.
use Rattle.std.specs.Prelude.{◌≡◌, ◌≢◌, ◌⊎◌, ◌+◌, ◌≤◌, ◌<◌, ℕ, List, length, take, drop, slice_get, Option, Some, None, Result, Ok, Err, MatchResult, MatchOption}
use Rattle.std.specs.List.{slice_range}
use Rattle.design_model.specs.declared.fault.Fault as fault
use Rattle.design_model.specs.declared.fault.ReadError.{ReadError}
use Rattle.design_model.specs.declared.fault.ReadError.TheVariants.{Fault, Memory}
use Rattle.design_model.specs.declared.mode.Mode.{Mode}
use Rattle.statement_model.specs.Tokens.{Lexed, left_from}
use Rattle.statement_model.specs.Reading.{read_at}
use Rattle.lefdef_tokens.specs.Laws.{BeginsApart}
use Rattle.def_grammar.specs.Records.{Record, def}
use Rattle.piece_laws.specs.Pieces.{IsPiece}
use Rattle.rereading.specs.Rereading.{NotShared, all_bytes}
use Rattle.rereading.specs.Segments.{OldBytes, bytes_of}
use Rattle.rereading.specs.Windows.{Holds}

-- a piece stands from one position to another, in a mode and leading to another, and a blank or the end comes after it
abbrev pub PieceAt : Mode → List ℕ → ℕ → ℕ × Mode → Type 0
PieceAt mode window pos found = (pos < found.0) × (found.0 ≤ length window) × ((rec : Record) × IsPiece def mode (slice_range window pos found.0) rec found.1) × BeginsApart (drop found.0 window)

-- from a position on comes this piece; or none, or a fault
abbrev pub NextPiece : Mode → List ℕ → ℕ → Result (Option (ℕ × Mode)) fault.Fault → Type 0
NextPiece mode window pos r =
    MatchResult r
    (λ found. MatchOption found (read_at def mode (left_from window pos) ≡ Ok None) (PieceAt mode window pos))
    (λ f. read_at def mode (left_from window pos) ≡ Err f)

-- a statement that was read to its end is counted, and nothing else
abbrev pub Counts : {E : Type 0} → ℕ → Result (Option (ℕ × Mode)) E → ℕ → Type 0
Counts old (Ok (Some x)) new = new ≡ old + 1
Counts old (Ok None) new = new ≡ old
Counts old (Err e) new = new ≡ old

-- the next piece, in a window that has enough segments for it; or none, where all are in it; or the fault of all bytes
abbrev pub NextWhole : List ℕ → List OldBytes → Mode → ℕ → ℕ → List ℕ → Result (Option (ℕ × Mode)) ReadError → Type 0
NextWhole raw segments mode pos used window (Ok found) =
    Holds raw segments used window × MatchOption found ((used ≡ length segments) × (read_at def mode (left_from window pos) ≡ Ok None)) (PieceAt mode window pos)
NextWhole raw segments mode pos used window (Err (Fault f)) = read_at def mode (left_from (all_bytes raw segments) pos) ≡ Err f
NextWhole raw segments mode pos used window (Err Memory) = Unit {0}

-- the next statement isn't whole in this window
abbrev pub IsShort : Mode → ℕ → List ℕ → Type 0
IsShort mode pos window = (x : Record × Mode × Lexed) → read_at def mode (left_from window pos) ≢ Ok (Some x)

-- How often the next statement was tried again, where so many segments were in the window before, and so many are now: never; or
-- no more than one time for each segment up to one that begins before the statement ends.
abbrev pub TriedFor : List ℕ → List OldBytes → ℕ → ℕ → ℕ → ℕ → ℕ → Type 0
TriedFor raw segments used now old again end =
    ((used ≤ now) × (again ≡ old)) ⊎ ((k : ℕ) × (k < now) × (again + used ≤ old + (k + 1)) × (length raw + length (bytes_of (take k segments)) < end))

abbrev pub TriesAgain : List ℕ → List OldBytes → ℕ → ℕ → ℕ → ℕ → Result (Option (ℕ × Mode)) ReadError → Type 0
TriesAgain raw segments used now old again (Ok (Some x)) = TriedFor raw segments used now old again x.0
TriesAgain raw segments used now old again (Ok None) = again + used ≤ old + now
TriesAgain raw segments used now old again (Err e) = Unit {0}

-- the segment that comes next is an old statement, where the window ends and in this mode; or there is none, and no statement
-- is left
abbrev pub Stops : List OldBytes → Mode → ℕ → ℕ → List ℕ → Type 0
Stops segments mode pos used window = MatchOption (slice_get segments used) (read_at def mode (left_from window pos) ≡ Ok None) (λ s. (pos ≡ length window) × (s.mode ≡ Some mode))

-- the next piece where it has to be read, since no old statement stands there in its mode; or none, where reading stops; or the
-- fault of all bytes
abbrev pub NextNew : List ℕ → List OldBytes → Mode → ℕ → ℕ → List ℕ → Result (Option (ℕ × Mode)) ReadError → Type 0
NextNew raw segments mode pos used window (Ok None) = Holds raw segments used window × Stops segments mode pos used window
NextNew raw segments mode pos used window (Ok (Some x)) = Holds raw segments used window × PieceAt mode window pos x × NotShared raw segments pos mode
NextNew raw segments mode pos used window (Err (Fault f)) = read_at def mode (left_from (all_bytes raw segments) pos) ≡ Err f
NextNew raw segments mode pos used window (Err Memory) = Unit {0}
