-- Changes of tables that are prepared.
use Rattle.std.specs.Prelude.{◌≡◌, ◌≢◌, ◌≤◌, ◌+◌, ◌==◌, ℕ, Bool, true, false, List, [], ◌∷◌, ◌++◌, codes, count_by, map, nat_lt, Option, Some, None, sum_by, if◌then◌else◌}
use Rattle.std.specs.List.{list_any}
use Rattle.std.specs.Str.{bytes_eq}
use Rattle.design_model.specs.declared.identifier.StmtId.{StmtId}
use Rattle.statement_model.specs.Grammar.{Key}
use Rattle.statement_model.specs.Reading.{is_among, same_words}
use Rattle.def_grammar.specs.Records.{Record, key_of}
use Rattle.design_tables.specs.Changes.{has_number}
use Rattle.design_tables.specs.Listings.{AreTablesOf, Listing, found, has_name, listed}
use Rattle.design_tables.specs.Marks.{key_mark, same_role}
use Rattle.design_tables.specs.declared.role.Mark.{Mark}
use Rattle.design_tables.specs.declared.role.Role.{Role}
use Rattle.design_tables.specs.declared.role.Role.TheVariants.{Statement}

-- statements without some that go out of them: what is summed over all is summed over both, and none that is kept has the number of
-- one that goes out
pub record IsKept (xs out kept : List (StmtId × Record)) : Type 0 where
  pub sums : (w : StmtId × Record → ℕ) → sum_by w xs ≡ sum_by w out + sum_by w kept
  pub apart : list_any (λ (x : StmtId × Record). has_number out x.0) kept ≡ false

-- what a text has once, it has once
abbrev pub keys_of : List (StmtId × Record) → List Key
keys_of xs = map (λ (x : StmtId × Record). key_of x.1) xs

abbrev pub HaveKeysOnce : List (StmtId × Record) → Type 0
HaveKeysOnce xs = (key : Key) → key ≢ [] → count_by (same_words key) (keys_of xs) ≤ 1

-- and it has UNITS
pub record AreKeyed (xs : List (StmtId × Record)) : Type 0 where
  pub once : HaveKeysOnce xs
  pub units : is_among (keys_of xs) (codes "UNITS" ∷ []) ≡ true

-- how many statements have a role under a name, in a table
abbrev pub count_in : List ℕ → Role → List (List ℕ × Listing) → ℕ
count_in name role es = count_by (λ (m : Mark). same_role m.role role) (listed name es).marks

-- what a text has once of a record stands twice
abbrev pub is_twice : Option (List ℕ × Role) → List (List ℕ × Listing) → Bool
is_twice None es = false
is_twice (Some m) es = nat_lt 1 (count_in m.0 m.1 es)

abbrev pub is_repeated : List (List ℕ × Listing) → StmtId × Record → Bool
is_repeated es x = is_twice (key_mark x.1) es

-- a table that has the word UNITS has no statement under it
abbrev pub has_none : Option Listing → Bool
has_none None = false
has_none (Some l) = count_by (λ (m : Mark). same_role m.role Statement) l.marks == 0

abbrev pub lacks_units : List (List ℕ × Listing) → Bool
lacks_units es = has_none (found (codes "UNITS") es)

-- no name comes again
abbrev pub AreApart : List (List ℕ × Listing) → Type 0
AreApart [] = Unit {0}
AreApart (e ∷ es) = (has_name e.0 es ≡ false) × AreApart es

abbrev pub HasNames : List (List ℕ × Listing) → List (List ℕ × Listing) → Type 0
HasNames change es = (n : List ℕ) → has_name n change ≡ true → has_name n es ≡ true

-- what stands under each name of a change exchanged with what a table has there
abbrev pub set_named : List ℕ → Listing → List (List ℕ × Listing) → List (List ℕ × Listing)
set_named name l [] = []
set_named name l (e ∷ es) = if bytes_eq name e.0 then (e.0, l) ∷ es else e ∷ set_named name l es

abbrev pub exchanged : List (List ℕ × Listing) → List (List ℕ × Listing) → List (List ℕ × Listing) × List (List ℕ × Listing)
exchanged [] es = ([], es)
exchanged (c ∷ cs) es = let later = exchanged cs (set_named c.0 c.1 es) in ((c.0, listed c.0 es) ∷ later.0, later.1)

-- tables of one text, and a change that makes them those of another: what it has under a name is hidden behind it
pub record IsBetween (names change : List (List ℕ × Listing)) (base other : List (StmtId × Record)) : Type 0 where
  pub base_is : AreTablesOf base names
  pub other_is : AreTablesOf other (change ++ names)
  pub apart : AreApart change
  pub places : HasNames change names
