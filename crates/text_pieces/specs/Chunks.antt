-- The numbers of statements in chunks, and chunks that take the places of others, and back.
use Rattle.std.specs.Prelude.{◌≡◌, ◌≢◌, ◌+◌, ◌<◌, ℕ, List, [], ◌∷◌, ◌++◌, length, take, drop, slice_set, slice_index_or, Option, Some, None, MatchOption, if◌then◌else◌, ◌==◌}
use Rattle.design_model.specs.declared.identifier.StmtId.{StmtId}
use Rattle.text_pieces.specs.declared.chunks.Chunk.{Chunk}
use Rattle.text_pieces.specs.declared.chunks.Change.{Change}

-- the numbers of a chunk's statements in their order, and how many bytes their pieces have
pub record Numbers : Type 0 where
  pub ids : List StmtId
  pub len : ℕ

abbrev pub shown : {A : Type 0} → Chunk A → Numbers
shown c = record { ids = c.ids.items; len = c.len }

abbrev pub no_numbers : Numbers
no_numbers = record { ids = []; len = 0 }

-- the numbers of some chunks, one after the other
abbrev pub all_ids : List Numbers → List StmtId
all_ids [] = []
all_ids (c ∷ cs) = c.ids ++ all_ids cs

-- the numbers of one of these chunks
abbrev pub ids_at : List Numbers → ℕ → List StmtId
ids_at chunks k = (slice_index_or chunks k no_numbers).ids

-- a number isn't one of these
abbrev pub IsAbsent : StmtId → List StmtId → Type 0
IsAbsent id [] = Unit {0}
IsAbsent id (x ∷ xs) = (id.0 ≢ x.0) × IsAbsent id xs

-- each number stands once
abbrev pub AreOnce : List StmtId → Type 0
AreOnce [] = Unit {0}
AreOnce (x ∷ xs) = IsAbsent x xs × AreOnce xs

-- where a number stands among others
abbrev pub PlaceIn : StmtId → List StmtId → Option ℕ → Type 0
PlaceIn id ids found = MatchOption found (IsAbsent id ids) (λ i. (i < length ids) × (ids ≡ take i ids ++ id ∷ drop (i + 1) ids))

-- the numbers from a chunk on are those in it and those from the next one on
abbrev pub ChunksGoOn : Type 0
ChunksGoOn = (chunks : List Numbers) (k : ℕ) → k < length chunks → all_ids (drop k chunks) ≡ ids_at chunks k ++ all_ids (drop (k + 1) chunks)

abbrev pub first_id : List StmtId → Option StmtId
first_id [] = None
first_id (x ∷ xs) = Some x

abbrev pub last_id : List StmtId → Option StmtId
last_id [] = None
last_id (x ∷ []) = Some x
last_id (x ∷ y ∷ xs) = last_id (y ∷ xs)

-- the number after the first that is this one, and the number before it
abbrev pub id_after : StmtId → List StmtId → Option StmtId
id_after id [] = None
id_after id (x ∷ xs) = if x.0 == id.0 then first_id xs else id_after id xs

abbrev pub id_before : StmtId → List StmtId → Option StmtId
id_before id [] = None
id_before id (x ∷ []) = None
id_before id (x ∷ y ∷ xs) = if y.0 == id.0 then Some x else id_before id (y ∷ xs)

-- a chunk that is to stand at a place
abbrev pub Replacement : Type 0
Replacement = ℕ × Numbers

abbrev pub shown_change : {A : Type 0} → Change A → Replacement
shown_change c = (c.place, shown c.chunk)

-- each chunk takes its place, and what stood there comes back
abbrev pub exchanged : List Numbers → List Replacement → List Numbers × List Replacement
exchanged cs [] = (cs, [])
exchanged cs (r ∷ rs) = let later = exchanged (slice_set cs r.0 r.1) rs in (later.0, (r.0, slice_index_or cs r.0 no_numbers) ∷ later.1)

-- each place is one of so many, and stands once
abbrev pub IsElsewhere : ℕ → List Replacement → Type 0
IsElsewhere place [] = Unit {0}
IsElsewhere place (r ∷ rs) = (place ≢ r.0) × IsElsewhere place rs

abbrev pub ArePlaces : ℕ → List Replacement → Type 0
ArePlaces n [] = Unit {0}
ArePlaces n (r ∷ rs) = (r.0 < n) × IsElsewhere r.0 rs × ArePlaces n rs
