-- Orders of numbers with gaps: slots that repeat the number before them.
use Rattle.std.specs.Prelude.{◌≡◌, ◌≢◌, ◌≤◌, ◌<◌, ◌-◌, ℕ, List, ◌⊎◌, length, slice_index_or}
use Rattle.std.specs.List.{insert, remove}
use Rattle.design_model.specs.declared.identifier.ShapeId.{ShapeId}

-- a slot repeats the number before it
abbrev pub IsGap : List ShapeId → ℕ → Type 0
IsGap ids i = (0 < i) × (i < length ids) × ((d : ShapeId) → slice_index_or ids i d ≡ slice_index_or ids (i - 1) d)

-- the slots from a place on and before another have one number, and the slot there has another one
pub record IsRun (ids : List ShapeId) (place past : ℕ) : Type 0 where
  pub some : place < past
  pub within : past ≤ length ids
  pub same : (k : ℕ) (d : ShapeId) → place ≤ k → k < past → slice_index_or ids k d ≡ slice_index_or ids place d
  pub other : (d : ShapeId) → past < length ids → (slice_index_or ids past d).0 ≢ (slice_index_or ids place d).0

-- a number is put in at a place, where a slot becomes free at another: those between move by one
abbrev pub Moves : List ShapeId → ℕ → ℕ → ShapeId → List ShapeId → Type 0
Moves old freed place id new =
    ((freed < place) × (new ≡ insert (remove old freed) (place - 1) id)) ⊎ ((place ≤ freed) × (new ≡ insert (remove old freed) place id))

-- a number is put in at a place, by a slot more or in the room of a gap
abbrev pub IsPutIn : List ShapeId → ℕ → ShapeId → List ShapeId → Type 0
IsPutIn old place id new = (new ≡ insert old place id) ⊎ ((gap : ℕ) × IsGap old gap × Moves old gap place id new)
