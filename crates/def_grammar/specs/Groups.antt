-- The section GROUPS (LEF/DEF 5.8 Language Reference, "Groups").
use Rattle.std.specs.Prelude.{◌⊎◌, ℕ, List, [], ◌∷◌, Option, Some, None, codes, refl, if◌then◌else◌}
use Rattle.std.proofs.Common.{inl, inr}
use Rattle.form_meanings.specs.Words.{is_name, is_plain, is_plus}
use Rattle.form_meanings.specs.Meaning.{Seen}
use Rattle.statement_model.specs.Form.{Form, word, ◌▸◌, ◌◂◌, ◌⨟◌, many, seen, on}
use Rattle.def_grammar.specs.Parts.{name, rest}
use Rattle.def_grammar.specs.Clauses.{KeptClause, kept_clause}

-- a clause of an entry, without its +
abbrev pub GroupClause : Type 0
GroupClause = List (List ℕ) ⊎ KeptClause

pattern abbrev pub group_region : List (List ℕ) → GroupClause
group_region rest = inl rest

pattern abbrev pub group_kept : KeptClause → GroupClause
group_kept clause = inr clause

-- the region that a clause names: REGION and one name
abbrev pub region_named : GroupClause → Option (List ℕ)
region_named (group_region (w ∷ [])) = if is_name w then Some w else None
region_named _ = None

-- REGION rest, or word rest, each after a +
unfoldable pub group_clause : Form GroupClause
group_clause = codes "+" ▸ on (codes "REGION") rest kept_clause

-- an entry: its name, the patterns of its components' names, and its clauses
pub record Group : Type 0 where
  pub name : List ℕ
  pub patterns : List (List ℕ)
  pub clauses : List GroupClause

abbrev pub as_group : Seen (List ℕ × (List (List ℕ) × List GroupClause)) Group
as_group = record { to = λ p. record { name = p.0; patterns = p.1.0; clauses = p.1.1 }; from = λ g. (g.name, (g.patterns, g.clauses)); to_from = λ g. refl; from_to = λ p. refl }

-- - name word* (+ clause)* ;
unfoldable pub group_form : Form Group
group_form = seen as_group (codes "-" ▸ name ⨟ many is_plain (word is_plain) ⨟ many is_plus group_clause ◂ codes ";")
