-- What an edit of a text in pieces touches.
use Rattle.std.specs.Prelude.{◌≡◌, ◌<◌, ◌≤◌, ◌+◌, ◌-◌, ℕ, List, length, take}
use Rattle.rereading.specs.Segments.{OldBytes}
use Rattle.rereading.specs.Segments as behind_edit
use Rattle.text_pieces.specs.Behind.{ids_from}
use Rattle.text_pieces.specs.Chunks.{ids_at}
use Rattle.text_pieces.specs.Tables.{Table, ids_before, weight}
use Rattle.text_pieces.specs.declared.table.Place.{Place}

-- where an edit at a position begins to be read again: the pieces before this place have so many bytes, and end before the
-- position, and the piece there doesn't
pub record BeginsAt (t : Table) (pos : ℕ) (p : Place) : Type 0 where
  pub within : p.chunk < length t.chunks
  pub inside : p.index ≤ length (ids_at t.chunks p.chunk)
  pub bytes : p.start ≡ weight t.slots (ids_before t.chunks p.chunk p.index)
  pub low : 0 < length (ids_before t.chunks p.chunk p.index) → p.start < pos
  pub high : 0 < length (ids_from t.chunks p.chunk p.index) → pos ≤ p.start + weight t.slots (take 1 (ids_from t.chunks p.chunk p.index))

-- so many segments have these bytes: one at least, and as many as have bytes up to an end, and no more
pub record AreTouched (segments : List OldBytes) (end : ℕ) (bytes : List ℕ) (count : ℕ) : Type 0 where
  pub is : bytes ≡ behind_edit.bytes_of (take count segments)
  pub within : count ≤ length segments
  pub some : 0 < length segments → 0 < count
  pub enough : end ≤ length (behind_edit.bytes_of segments) → end ≤ length bytes
  pub tight : 1 < count → length (behind_edit.bytes_of (take (count - 1) segments)) < end
