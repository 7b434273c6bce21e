-- What is read and written, where the bytes are known.
use Rattle.std.specs.Prelude.{◌≡◌, ℕ, List, Option, ◌++◌, ◌⊎◌, ◌≤◌, length}
use Rattle.std.specs.Io.KnownBytes.{Consumes, Appends, IsAtEnd}

-- all that was left was read
abbrev pub Reads : Option (List ℕ) → Option (List ℕ) → List ℕ → Type 0
Reads old new bytes = Consumes old new bytes × IsAtEnd new

-- a prefix of these bytes was written, and no more
abbrev pub WritesPart : Option (List ℕ) → Option (List ℕ) → List ℕ → Type 0
WritesPart old new bytes = (done rest : List ℕ) × (bytes ≡ done ++ rest) × Appends old new done

-- all that was left was read, or enough of it
abbrev pub ReadsUpTo : ℕ → Option (List ℕ) → Option (List ℕ) → List ℕ → Type 0
ReadsUpTo enough old new bytes = Consumes old new bytes × (IsAtEnd new ⊎ (enough ≤ length bytes))
