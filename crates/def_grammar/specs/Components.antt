-- The section COMPONENTS (LEF/DEF 5.8 Language Reference, "COMPONENTS").
use Rattle.std.specs.Prelude.{◌⊎◌, ℕ, Bool, true, false, List, [], ◌∷◌, Option, Some, None, codes, refl}
use Rattle.std.proofs.Common.{inl, inr}
use Rattle.design_model.specs.declared.geometry.Orient.{Orient}
use Rattle.design_model.specs.declared.geometry.Status.{Status}
use Rattle.design_model.specs.EnumWords.{status_word, statuses}
use Rattle.form_meanings.specs.Words.{is_plain, is_plus, is_stop}
use Rattle.form_meanings.specs.Meaning.{Seen, find}
use Rattle.statement_model.specs.Form.{Form, word, one_of, ◌▸◌, ◌◂◌, ◌⨟◌, closed, alt, many, seen, on}
use Rattle.def_grammar.specs.Parts.{Coordinates, name, rest, point, orient, is_some}

abbrev pub is_status : List ℕ → Bool
is_status w = is_some (find status_word statuses w)

-- a clause of an entry, without its +
abbrev pub Clause : Type 0
Clause = (Status × (Coordinates × Orient)) ⊎ (List (List ℕ) ⊎ (List ℕ ⊎ (List ℕ × List (List ℕ))))

pattern abbrev pub placed : Status → Coordinates → Orient → Clause
placed status at o = inl (status, (at, o))

pattern abbrev pub unplaced : List (List ℕ) → Clause
unplaced rest = inr (inl rest)

pattern abbrev pub region : List ℕ → Clause
region name = inr (inr (inl name))

pattern abbrev pub other : List ℕ → List (List ℕ) → Clause
other w rest = inr (inr (inr (w, rest)))

-- PLACED pt o, FIXED pt o, COVER pt o
unfoldable pub placement : Form (Status × (Coordinates × Orient))
placement = one_of status_word statuses ⨟ point ⨟ orient

-- PLACED pt o, FIXED pt o, COVER pt o, UNPLACED rest, REGION name, or word rest, each after a +
unfoldable pub clause : Form Clause
clause = codes "+" ▸ alt is_status (closed is_stop placement) (on (codes "UNPLACED") rest (on (codes "REGION") (closed is_stop name) (word is_plain ⨟ rest)))

-- an entry: its name, its macro, the rest of its fixed part, and its clauses in order
pub record Component : Type 0 where
  pub name : List ℕ
  pub cell : List ℕ
  pub rest : List (List ℕ)
  pub clauses : List Clause

abbrev pub as_component : Seen (List ℕ × (List ℕ × (List (List ℕ) × List Clause))) Component
as_component = record {
  to = λ p. record { name = p.0; cell = p.1.0; rest = p.1.1.0; clauses = p.1.1.1 };
  from = λ c. (c.name, (c.cell, (c.rest, c.clauses)));
  to_from = λ c. refl;
  from_to = λ p. refl;
}

-- - name name rest (+ clause)* ;
unfoldable pub component_form : Form Component
component_form = seen as_component (codes "-" ▸ name ⨟ name ⨟ rest ⨟ many is_plus clause ◂ codes ";")

-- a clause says how the component is placed
abbrev pub is_placing : Clause → Bool
is_placing (placed _ _ _) = true
is_placing (unplaced _) = true
is_placing _ = false

-- what one clause says: the region that it assigns to
abbrev pub region_of_clause : Clause → Option (List ℕ)
region_of_clause (region name) = Some name
region_of_clause _ = None
