-- How many bytes the pieces of a chunk have.
use Rattle.std.specs.Prelude.{◌≡◌, ◌+◌, ◌≤◌, ℕ, take}
use Rattle.design_model.specs.declared.TheConstants.{MAX_TEXT}
use Rattle.text_pieces.specs.Chunks.{all_ids, ids_at}
use Rattle.text_pieces.specs.Tables.{Table, weight}

-- the pieces of a chunk have so many bytes, which come on top of those before it
pub record HasBytes (t : Table) (k n : ℕ) : Type 0 where
  pub is : n ≡ weight t.slots (ids_at t.chunks k)
  pub more : weight t.slots (all_ids (take (k + 1) t.chunks)) ≡ weight t.slots (all_ids (take k t.chunks)) + n
  pub fits : weight t.slots (all_ids (take k t.chunks)) + n ≤ MAX_TEXT
