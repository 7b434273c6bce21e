-- Bytes that are written with escapes.
use Rattle.std.specs.Prelude.{◌≡◌, ◌<◌, ◌⊎◌, ℕ, List, [], ◌∷◌, length, Option, Some, None}
use denote.Ref.{Bor}
use Rattle.form_meanings.specs.Words.{◌>>=◌}
use Rattle.edit_rules.specs.Script.{unescaped}

-- these bytes are written for so many
abbrev pub SpellsSome : List ℕ → ℕ → Type 0
SpellsSome raw n = (unescaped raw >>= λ bs. Some (length bs)) ≡ Some n

-- the first byte that is written, and what stands behind it
abbrev pub IsNextByte : List ℕ → Option (ℕ × Bor (List ℕ)) → Type 0
IsNextByte raw None = (raw ≡ []) ⊎ (unescaped raw ≡ None)
IsNextByte raw (Some (b, later)) = (unescaped raw ≡ (unescaped later.now >>= λ bs. Some (b ∷ bs))) × (length later.now < length raw)

-- the number of bytes that good escapes are written for
abbrev pub Checks : {E : Type 0} → (E → List ℕ) → List ℕ → Option E → Type 0
Checks raw_of raw None = unescaped raw ≡ None
Checks raw_of raw (Some e) = raw_of e ≡ raw
