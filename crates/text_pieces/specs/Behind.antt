-- What stands behind a place of a chunk.
use Rattle.std.specs.Prelude.{◌+◌, ℕ, List, [], ◌∷◌, ◌++◌, map, drop, Some}
use Rattle.design_model.specs.declared.identifier.StmtId.{StmtId}
use Rattle.design_model.specs.declared.mode.Mode.TheVariants.{After}
use Rattle.rereading.specs.Segments.{OldBytes}
use Rattle.text_pieces.specs.Chunks.{Numbers, all_ids, ids_at}
use Rattle.text_pieces.specs.Tables.{Kept, Table, kept_at}

-- the numbers from a place of a chunk on
abbrev pub ids_from : List Numbers → ℕ → ℕ → List StmtId
ids_from chunks k i = drop i (ids_at chunks k) ++ all_ids (drop (k + 1) chunks)

-- what is kept of them
abbrev pub kept_from : Table → ℕ → ℕ → List Kept
kept_from t k i = map (kept_at t.slots) (ids_from t.chunks k i)

-- old statements behind an edit, and what stands behind the last
abbrev pub old_bytes : Kept → OldBytes
old_bytes k = record { bytes = k.bytes; mode = Some k.mode }

abbrev pub segments : List Kept → List ℕ → List OldBytes
segments ks tail = map old_bytes ks ++ record { bytes = tail; mode = Some After } ∷ []
