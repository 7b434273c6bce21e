-- What a table of names has under each name, and that it is the table of statements.
use Rattle.std.specs.Prelude.{◌≡◌, ℕ, ◌+◌, Bool, not, List, [], ◌∷◌, ◌++◌, count_by, filter, flat_map, map, Option, Some, None, if◌then◌else◌}
use Rattle.std.specs.List.{list_any}
use Rattle.std.specs.Str.{bytes_eq}
use Rattle.design_model.specs.declared.identifier.StmtId.{StmtId}
use Rattle.def_grammar.specs.Records.{Record}
use Rattle.name_groups.specs.Groups.{of_name}
use Rattle.design_tables.specs.Marks.{marks_of, same_role}
use Rattle.design_tables.specs.declared.role.Mark.{Mark}
use Rattle.design_tables.specs.declared.role.Role.{Role}
use Rattle.design_tables.specs.declared.role.Role.TheVariants.{Member}

-- the marks of a statement with its number, each with its name
abbrev pub marks_in : StmtId × Record → List (List ℕ × Mark)
marks_in x = map (λ (m : List ℕ × Role). (m.0, record { role = m.1; id = x.0 })) (marks_of x.1)

-- those of a name
abbrev pub marks_named : List ℕ → List (List ℕ × Mark) → List Mark
marks_named name ms = map (λ (m : List ℕ × Mark). m.1) (of_name (λ (m : List ℕ × Mark). m.0) name ms)

-- the marks of statements under a name
abbrev pub marks_under : List ℕ → List (StmtId × Record) → List Mark
marks_under name xs = marks_named name (flat_map marks_in xs)

-- what stands under a name: marks, and how many entries there are of the section of this word
pub record Listing : Type 0 where
  pub marks : List Mark
  pub entries : ℕ

abbrev pub unlisted : Listing
unlisted = record { marks = []; entries = 0 }

abbrev pub is_member : Mark → Bool
is_member m = same_role m.role Member

-- marks go behind the others, but for those of members, which are counted
abbrev pub with_marks : List Mark → Listing → Listing
with_marks ms l = record { marks = l.marks ++ filter (λ m. not (is_member m)) ms; entries = l.entries + count_by is_member ms }

-- what a table has for a name, if anything, and what stands under it
abbrev pub found : List ℕ → List (List ℕ × Listing) → Option Listing
found name [] = None
found name (e ∷ es) = if bytes_eq name e.0 then Some e.1 else found name es

abbrev pub or_unlisted : Option Listing → Listing
or_unlisted None = unlisted
or_unlisted (Some l) = l

abbrev pub listed : List ℕ → List (List ℕ × Listing) → Listing
listed name es = or_unlisted (found name es)

abbrev pub has_name : List ℕ → List (List ℕ × Listing) → Bool
has_name name es = list_any (λ (e : List ℕ × Listing). bytes_eq name e.0) es

-- the same stands under a name, in whatever order
pub record SameListing (a b : Listing) : Type 0 where
  pub marks : (test : Mark → Bool) → count_by test a.marks ≡ count_by test b.marks
  pub entries : a.entries ≡ b.entries

-- a table has the marks of these statements under each name
abbrev pub AreTablesOf : List (StmtId × Record) → List (List ℕ × Listing) → Type 0
AreTablesOf xs es = (name : List ℕ) → SameListing (listed name es) (with_marks (marks_under name xs) unlisted)
