-- Things by their names, in the order in which each name came first.
use Rattle.std.specs.Prelude.{ℕ, List, [], ◌∷◌, ◌++◌, if◌then◌else◌, filter, map}
use Rattle.std.specs.Str.{bytes_eq}
use Rattle.form_meanings.specs.Firsts.{with_all}

-- the things of a name
pub record Group (T : Type 0) : Type 0 where
  pub name : List ℕ
  pub members : List T

-- a thing goes behind those of the first group of its name, or behind all groups as one of its own
abbrev pub with_member : {T : Type 0} → List ℕ → T → List (Group T) → List (Group T)
with_member name x [] = record { name = name; members = x ∷ [] } ∷ []
with_member name x (g ∷ gs) = if bytes_eq g.name name then record { name = g.name; members = g.members ++ x ∷ [] } ∷ gs else g ∷ with_member name x gs

-- the things of the first group of a name
abbrev pub members_named : {T : Type 0} → List ℕ → List (Group T) → List T
members_named name [] = []
members_named name (g ∷ gs) = if bytes_eq g.name name then g.members else members_named name gs

-- those of a list that have a name
abbrev pub of_name : {T : Type 0} → (T → List ℕ) → List ℕ → List T → List T
of_name name_of name xs = filter (λ x. bytes_eq (name_of x) name) xs

-- the groups of a list of things
abbrev pub grouped : {T : Type 0} → (T → List ℕ) → List T → List (Group T)
grouped name_of xs = map (λ n. record { name = n; members = of_name name_of n xs }) (with_all (λ n. n) [] (map name_of xs))

-- a group of things as what is seen of each, as where a table keeps references
abbrev pub seen : {T U : Type 0} → (T → U) → Group T → Group U
seen f g = record { name = g.name; members = map f g.members }
