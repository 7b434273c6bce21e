-- Definitions with their names.
use Rattle.std.specs.Prelude.{ℕ, suc, List, [], ◌∷◌, map, Option, Some, None, if◌then◌else◌}
use Rattle.std.specs.Option.{option_map}
use denote.Ref.{Bor}
use Rattle.form_meanings.specs.Firsts.{find_named, has_name}
use Rattle.name_keys.specs.declared.name.Name.{Name}

abbrev pub name_of : {D : Type 0} → List ℕ × D → List ℕ
name_of e = e.0

abbrev pub entries_view : {D : Type 0} → List (Name × D) → List (List ℕ × D)
entries_view es = map (λ e. (e.0.bytes.now, e.1)) es

-- a definition with its name, as both are lent
abbrev pub entry_seen : {D : Type 0} → Bor (List ℕ) × Bor D → List ℕ × D
entry_seen e = (e.0.now, e.1.now)

-- what a name stands for
abbrev pub named : {D : Type 0} → List (List ℕ × D) → List ℕ → Option D
named es name = option_map (λ e. e.1) (find_named name_of es name)

-- the place of a name
abbrev pub place_of : {D : Type 0} → List (List ℕ × D) → List ℕ → Option ℕ
place_of [] name = None
place_of (e ∷ es) name = if has_name name_of name e then Some 0 else option_map suc (place_of es name)

-- a definition of this name, as it is lent
abbrev pub seen_by : {D C : Type 0} → (List ℕ × D → C) → List ℕ → Bor D → C
seen_by view name d = view (name, d.now)
