-- The parts of a list behind their headers, and the first of each name.
use Rattle.std.specs.Prelude.{ℕ, Bool, List, [], ◌∷◌, ◌++◌, Option, Some, None, if◌then◌else◌}
use Rattle.std.specs.List.{list_any, filter_map, cons_option}
use Rattle.std.specs.Option.{option_map}
use Rattle.std.specs.Str.{bytes_eq}
use Rattle.form_meanings.specs.Words.{first}

-- what is found from the front on, up to the first in which nothing is
abbrev pub found_then : {B : Type 0} → Option B → List B → List B
found_then None later = []
found_then (Some b) later = b ∷ later

unfoldable pub front : {A B : Type 0} → (A → Option B) → List A → List B
front f [] = []
front f (a ∷ all) = found_then (f a) (front f all)

-- each header, and what comes right behind it
unfoldable pub headed : {A B C : Type 0} → (A → Option B) → (A → Option C) → List A → List (B × List C)
headed header inner [] = []
headed header inner (a ∷ all) = cons_option (option_map (λ b. (b, front inner all)) (header a)) (headed header inner all)

-- the first that is found
abbrev pub first_of : {A B : Type 0} → (A → Option B) → List A → Option B
first_of f all = first (filter_map f all)

-- a second one of a name is ignored
abbrev pub has_name : {A : Type 0} → (A → List ℕ) → List ℕ → A → Bool
has_name name_of name a = bytes_eq (name_of a) name

abbrev pub with_first : {A : Type 0} → (A → List ℕ) → List A → A → List A
with_first name_of before a = if list_any (has_name name_of (name_of a)) before then before else before ++ a ∷ []

unfoldable pub with_all : {A : Type 0} → (A → List ℕ) → List A → List A → List A
with_all name_of before [] = before
with_all name_of before (a ∷ all) = with_all name_of (with_first name_of before a) all

-- the one of a name
abbrev pub find_named : {A : Type 0} → (A → List ℕ) → List A → List ℕ → Option A
find_named name_of [] name = None
find_named name_of (a ∷ all) name = if has_name name_of name a then Some a else find_named name_of all name
