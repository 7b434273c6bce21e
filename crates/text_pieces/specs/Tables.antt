-- Pieces of statements under their numbers.
use Rattle.std.specs.Prelude.{◌≡◌, ◌+◌, ◌<◌, ◌≤◌, ℕ, suc, nat_lt, List, [], ◌∷◌, ◌++◌, length, map, take, drop, slice_index_or, Option, Some, None, option_map, if◌then◌else◌, ◌==◌}
use Rattle.design_model.specs.declared.TheConstants.{MAX_TEXT}
use Rattle.design_model.specs.declared.identifier.StmtId.{StmtId}
use Rattle.design_model.specs.declared.mode.Mode.{Mode}
use Rattle.design_model.specs.declared.mode.Mode.TheVariants.{Top}
use Rattle.text_pieces.specs.Chunks.{Numbers, shown, all_ids, ids_at, AreOnce, IsAbsent}
use Rattle.text_pieces.specs.declared.table.Piece.{Piece}
use Rattle.text_pieces.specs.declared.table.PieceTable.{PieceTable}

-- what is kept of a statement: the mode in which it stands, its bytes with the blanks and comments before it, and its chunk
pub record Kept : Type 0 where
  pub mode : Mode
  pub bytes : List ℕ
  pub chunk : ℕ

abbrev pub kept : {A : Type 0} → Piece A → Kept
kept p = record { mode = p.mode; bytes = p.bytes; chunk = p.chunk }

-- the numbers of the statements that stand, chunk by chunk, and what is kept under each number, of these statements and of
-- others
pub record Table : Type 0 where
  pub chunks : List Numbers
  pub slots : List (Option Kept)

abbrev pub table_of : {A : Type 0} → PieceTable A → Table
table_of t = record { chunks = map shown t.chunks.items; slots = map (option_map kept) t.pieces.slots }

abbrev pub slot : List (Option Kept) → StmtId → Option Kept
slot slots id = slice_index_or slots id.0 None

abbrev pub kept_or : Option Kept → Kept
kept_or None = record { mode = Top; bytes = []; chunk = 0 }
kept_or (Some k) = k

abbrev pub kept_at : List (Option Kept) → StmtId → Kept
kept_at slots id = kept_or (slot slots id)

-- the numbers of the statements that stand, in their order
abbrev pub ids_of : Table → List StmtId
ids_of t = all_ids t.chunks

-- what is kept of them
abbrev pub standing : Table → List Kept
standing t = map (kept_at t.slots) (ids_of t)

-- how many bytes the pieces of these numbers have
abbrev pub weight : List (Option Kept) → List StmtId → ℕ
weight slots [] = 0
weight slots (id ∷ ids) = length (kept_at slots id).bytes + weight slots ids

-- a statement is kept under each of these numbers, as one of this chunk
abbrev pub AreHome : List (Option Kept) → ℕ → List StmtId → Type 0
AreHome slots chunk [] = Unit {0}
AreHome slots chunk (id ∷ ids) = (slot slots id ≡ Some (kept_at slots id)) × ((kept_at slots id).chunk ≡ chunk) × AreHome slots chunk ids

-- the chunks from one on: their statements are kept, and they know how many bytes these have
abbrev pub AreChunks : List (Option Kept) → ℕ → List Numbers → Type 0
AreChunks slots k [] = Unit {0}
AreChunks slots k (c ∷ cs) = AreHome slots k c.ids × (c.len ≡ weight slots c.ids) × AreChunks slots (suc k) cs

-- every statement that stands is kept, each number stands once, and all bytes are those of a text
pub record IsTable (t : Table) : Type 0 where
  pub chunks : AreChunks t.slots 0 t.chunks
  pub once : AreOnce (ids_of t)
  pub fits : weight t.slots (ids_of t) ≤ MAX_TEXT

-- the numbers before a place of a chunk, and those after the number there
abbrev pub ids_before : List Numbers → ℕ → ℕ → List StmtId
ids_before chunks k i = all_ids (take k chunks) ++ take i (ids_at chunks k)

abbrev pub ids_after : List Numbers → ℕ → ℕ → List StmtId
ids_after chunks k i = drop (i + 1) (ids_at chunks k) ++ all_ids (drop (k + 1) chunks)

-- a statement stands in a chunk at a place of it
pub record StandsAt (t : Table) (id : StmtId) (k i : ℕ) : Type 0 where
  pub within : k < length t.chunks
  pub inside : i < length (ids_at t.chunks k)
  pub is : ids_of t ≡ ids_before t.chunks k i ++ id ∷ ids_after t.chunks k i
  pub held : slot t.slots id ≡ Some (kept_at t.slots id)

-- a statement stands behind these others
pub record Stands (id : StmtId) (ids : List StmtId) : Type 0 where
  pub before : List StmtId
  pub after : List StmtId
  pub is : ids ≡ before ++ id ∷ after
  pub first : IsAbsent id before

-- where the piece of the first number that is this one begins, where the first piece begins at a place
abbrev pub start_in : List (Option Kept) → ℕ → StmtId → List StmtId → Option ℕ
start_in slots start id [] = None
start_in slots start id (x ∷ xs) = if x.0 == id.0 then Some start else start_in slots (start + length (kept_at slots x).bytes) id xs

-- the number of the piece that has a place, and where that piece begins
abbrev pub piece_at : List (Option Kept) → ℕ → ℕ → List StmtId → Option (StmtId × ℕ)
piece_at slots start pos [] = None
piece_at slots start pos (x ∷ xs) = let end = start + length (kept_at slots x).bytes in if nat_lt pos end then Some (x, start) else piece_at slots end pos xs
