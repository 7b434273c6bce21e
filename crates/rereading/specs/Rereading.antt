-- Rereading from an edit on: new pieces of the bytes with the edit in them, and then old ones go on as they did.
use Rattle.std.specs.Prelude.{◌≡◌, ◌≢◌, ◌+◌, ◌≤◌, ℕ, List, [], ◌∷◌, ◌++◌, length, map, take, drop, slice_get, Some, Result, Ok, Err, MatchOption}
use Rattle.std.specs.List.{concat}
use Rattle.design_model.specs.declared.fault.ReadError.{ReadError}
use Rattle.design_model.specs.declared.fault.ReadError.TheVariants.{Fault, Memory}
use Rattle.design_model.specs.declared.mode.Mode.{Mode}
use Rattle.statement_model.specs.Tokens.{tokens}
use Rattle.statement_model.specs.Reading.{read_from}
use Rattle.def_grammar.specs.Records.{Record, def}
use Rattle.piece_laws.specs.Pieces.{keyless, AreApart, AreChained, IsTail, modes_from}
use Rattle.rereading.specs.Segments.{OldBytes, bytes_of, mode_at}
use Rattle.rereading.specs.declared.pieces.NewPiece.{NewPiece}
use Rattle.rereading.specs.declared.pieces.Reread.{Reread}

-- all bytes from an edit on
abbrev pub all_bytes : List ℕ → List OldBytes → List ℕ
all_bytes raw segments = raw ++ bytes_of segments

abbrev pub new_bytes : {A : Type 0} → List (NewPiece A) → List (List ℕ)
new_bytes ps = map (λ p. p.bytes.items) ps

abbrev pub new_modes : {A : Type 0} → List (NewPiece A) → List Mode
new_modes ps = map (λ p. p.mode) ps

-- no old statement stands at this place in this mode
abbrev pub NotShared : List ℕ → List OldBytes → ℕ → Mode → Type 0
NotShared raw segments place mode = (k : ℕ) → place ≡ length raw + length (bytes_of (take k segments)) → mode_at segments k ≢ Some mode

-- none of these new pieces, from a place on, begins where an old statement stands in its mode
abbrev pub NoneShared : {A : Type 0} → List ℕ → List OldBytes → ℕ → List (NewPiece A) → Type 0
NoneShared raw segments place [] = Unit {0}
NoneShared raw segments place (p ∷ ps) = NotShared raw segments place p.mode × NoneShared raw segments (place + length p.bytes.items) ps

-- Rereading gives pieces. They are the raw bytes and the segments that were used up, but for the bytes behind them; the
-- segment that comes next is an old statement that stands in the mode to which they lead, or all is read.
pub record IsReread {A : Type 0} (first : Mode) (raw : List ℕ) (segments : List OldBytes) (x : Reread A) : Type 0 where
  pub recs : List Record
  pub chained : AreChained def first (new_bytes x.pieces.items) recs x.mode
  pub modes : new_modes x.pieces.items ≡ modes_from def first recs
  pub reads : x.reads ≡ length x.pieces.items
  pub again : x.again ≤ x.used
  pub used : x.used ≤ length segments
  pub whole : concat (new_bytes x.pieces.items) ++ x.rest.items ≡ raw ++ bytes_of (take x.used segments)
  pub apart : AreApart (new_bytes x.pieces.items) (x.rest.items ++ bytes_of (drop x.used segments))
  pub unshared : NoneShared raw segments 0 x.pieces.items
  pub lands : MatchOption (slice_get segments x.used) (IsTail def x.mode x.rest.items) (λ s. (x.rest.items ≡ []) × (s.mode ≡ Some x.mode))

-- what rereading says; its fault is that of all bytes
abbrev pub Rereads : {A : Type 0} → Mode → List ℕ → List OldBytes → Result (Reread A) ReadError → Type 0
Rereads first raw segments (Ok x) = IsReread first raw segments x
Rereads first raw segments (Err (Fault f)) = read_from (keyless def) (first, []) (tokens (all_bytes raw segments)) ≡ Err f
Rereads first raw segments (Err Memory) = Unit {0}
