-- What stands behind an edit: bytes of the old text, a segment after the other.
use Rattle.std.specs.Prelude.{ℕ, ◌<◌, List, [], ◌∷◌, length, map, Option, slice_get}
use Rattle.std.specs.List.{All, concat}
use Rattle.design_model.specs.declared.mode.Mode.{Mode}
use Rattle.form_meanings.specs.Words.{◌>>=◌}
use Rattle.lefdef_tokens.specs.Laws.{BeginsApart}
use Rattle.rereading.specs.declared.segments.Segment.{Segment}

-- bytes, and the mode in which they stand where they are a statement
pub record OldBytes : Type 0 where
  pub bytes : List ℕ
  pub mode : Option Mode

abbrev pub segment_view : Segment → OldBytes
segment_view s = record { bytes = s.bytes.now; mode = s.mode }

-- the bytes of some segments
abbrev pub bytes_of : List OldBytes → List ℕ
bytes_of segments = concat (map (λ s. s.bytes) segments)

-- the mode in which the statement stands that a segment is, by how many stand before it; none where it is no statement
abbrev pub mode_at : List OldBytes → ℕ → Option Mode
mode_at segments k = slice_get segments k >>= λ s. s.mode

-- each begins apart from what is before it
abbrev pub BeginApart : List OldBytes → Type 0
BeginApart = All (λ s. BeginsApart s.bytes)

-- all but the last have bytes
abbrev pub AreFull : List OldBytes → Type 0
AreFull [] = Unit {0}
AreFull (s ∷ []) = Unit {0}
AreFull (s ∷ t ∷ ss) = (0 < length s.bytes) × AreFull (t ∷ ss)
