-- What groups mean.
use Rattle.std.specs.Prelude.{◌≡◌, ℕ, List, [], ◌∷◌, ◌++◌, map}
use Rattle.name_groups.specs.Groups.{Group, grouped, members_named, of_name, seen, with_member}

-- Groups to which one more thing is added are the groups of all things.
abbrev pub GroupsGrow : (T : Type 0) → Type 0
GroupsGrow T = (name_of : T → List ℕ) (xs : List T) (x : T) → with_member (name_of x) x (grouped name_of xs) ≡ grouped name_of (xs ++ x ∷ [])

-- A group of things has all of its name, in their order.
abbrev pub MembersAreNamed : (T : Type 0) → Type 0
MembersAreNamed T = (name_of : T → List ℕ) (xs : List T) (name : List ℕ) → members_named name (grouped name_of xs) ≡ of_name name_of name xs

-- A thing that is added is seen behind those of its name.
abbrev pub AddedAreSeen : (T U : Type 0) → Type 0
AddedAreSeen T U = (f : T → U) (name : List ℕ) (x : T) (gs : List (Group T)) → map (seen f) (with_member name x gs) ≡ with_member name (f x) (map (seen f) gs)

-- What is seen of the things of a name has that name.
abbrev pub FoundAreSeen : (T U : Type 0) → Type 0
FoundAreSeen T U = (f : T → U) (name : List ℕ) (gs : List (Group T)) → map f (members_named name gs) ≡ members_named name (map (seen f) gs)
