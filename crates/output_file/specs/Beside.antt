-- Where a new file stands beside another.
use Rattle.std.specs.Prelude.{◌≡◌, ◌≢◌, ◌<◌, ◌⊎◌, ℕ, List, ◌++◌, ◌∷◌, length, slice_index, codes, decimal}
use Rattle.std.specs.Path.{slash}

-- the name of a new file
abbrev pub new_name : ℕ → List ℕ
new_name number = codes "defedit-" ++ decimal number ++ codes ".new"

-- a path without a folder
abbrev pub IsName : List ℕ → Type 0
IsName path = (i : ℕ) → i < length path → slice_index path i ≢ slash

-- the path of a name in the folder of another path
abbrev pub IsBeside : List ℕ → List ℕ → List ℕ → Type 0
IsBeside path name new = (IsName path × (new ≡ name)) ⊎ ((folder : List ℕ) × (own : List ℕ) × IsName own × (path ≡ folder ++ slash ∷ own) × (new ≡ folder ++ slash ∷ name))
