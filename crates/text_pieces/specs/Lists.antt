-- New lists of numbers for chunks.
use Rattle.std.specs.Prelude.{◌≡◌, ◌+◌, ◌++◌, ℕ, List, length, take, drop, Option}
use Rattle.design_model.specs.declared.identifier.StmtId.{StmtId}
use Rattle.text_pieces.specs.Behind.{ids_from}
use Rattle.text_pieces.specs.Chunks.{Numbers, Replacement, all_ids, exchanged, ArePlaces}
use Rattle.text_pieces.specs.Tables.{Kept, AreChunks}

-- with these lists in their places, the chunks have these numbers and know how many bytes their pieces have
pub record AreLists (slots : List (Option Kept)) (chunks : List Numbers) (ids : List StmtId) (changes : List Replacement) : Type 0 where
  pub places : ArePlaces (length chunks) changes
  pub are : all_ids (exchanged chunks changes).0 ≡ ids
  pub kept : AreChunks slots 0 (exchanged chunks changes).0

-- the numbers from a place on but for the first
abbrev pub ids_left : List Numbers → ℕ → ℕ → ℕ → List StmtId
ids_left chunks k i out = drop out (ids_from chunks k i)

-- a list of numbers is an old one with others in the place of so many from a place on
pub record IsAnew (old : List StmtId) (place gone : ℕ) (new : List StmtId) : Type 0 where
  pub others : List StmtId
  pub is : new ≡ take place old ++ (others ++ drop (place + gone) old)
