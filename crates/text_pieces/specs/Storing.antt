-- Pieces that are put under numbers that were free.
use Rattle.std.specs.Prelude.{◌≡◌, ℕ, List, [], ◌∷◌, ◌++◌, map, slice_index_or, Option, Some, None}
use Rattle.design_model.specs.declared.identifier.StmtId.{StmtId}
use Rattle.rereading.specs.declared.pieces.NewPiece.{NewPiece}
use Rattle.text_pieces.specs.Chunks.{AreOnce}
use Rattle.text_pieces.specs.Tables.{Kept, slot, kept_at, AreHome}

-- what is kept under a number stays
abbrev pub StaysKept : List (Option Kept) → List (Option Kept) → Type 0
StaysKept old new = (n : ℕ) (k : Kept) → slice_index_or old n None ≡ Some k → slice_index_or new n None ≡ Some k

-- a piece is kept under a number that was free
pub record Stores (old new : List (Option Kept)) (k : Kept) (id : StmtId) : Type 0 where
  pub free : slot old id ≡ None
  pub held : slot new id ≡ Some k
  pub stays : StaysKept old new

-- its number comes behind others
abbrev pub StoresBehind : List (Option Kept) → List (Option Kept) → Kept → List StmtId → List StmtId → StmtId → Type 0
StoresBehind old new k before after id = (after ≡ before ++ id ∷ []) × Stores old new k id

-- new pieces as they are kept, as those of a chunk
abbrev pub new_kept : {A : Type 0} → ℕ → NewPiece A → Kept
new_kept chunk p = record { mode = p.mode; bytes = p.bytes.items; chunk = chunk }

abbrev pub news_of : {A : Type 0} → ℕ → List (NewPiece A) → List Kept
news_of chunk ps = map (new_kept chunk) ps

-- none of these numbers was in use
abbrev pub AreFree : List (Option Kept) → List StmtId → Type 0
AreFree slots [] = Unit {0}
AreFree slots (id ∷ ids) = (slot slots id ≡ None) × AreFree slots ids

-- pieces are kept as those of a chunk under numbers that were free, which come behind others
pub record StoresAll (old new : List (Option Kept)) (ks : List Kept) (chunk : ℕ) (before after : List StmtId) : Type 0 where
  pub ids : List StmtId
  pub is : after ≡ before ++ ids
  pub free : AreFree old ids
  pub once : AreOnce ids
  pub home : AreHome new chunk ids
  pub kept : map (kept_at new) ids ≡ ks
