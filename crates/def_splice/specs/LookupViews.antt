-- Statements that a test finds among those of a text.
use Rattle.std.specs.Prelude.{ℕ, ◌≤◌, Bool, false, List, [], ◌∷◌, length, take, drop, Option, Some, None, if◌then◌else◌}
use Rattle.design_model.specs.declared.mode.Section.{Section}
use Rattle.statement_model.specs.Cuts.{end_of_all}
use Rattle.statement_model.specs.Tokens.{Token}
use Rattle.def_grammar.specs.Records.{Entry, Record}
use Rattle.def_grammar.specs.Located.{component_at, located}
use Rattle.lef_grammar.specs.Library.{Library}
use Rattle.edit_rules.specs.Plans.{Plan, StatementChange}
use Rattle.edit_rules.specs.SectionEdits.{SectionChange, putting, section_plan}
use Rattle.edit_laws.specs.PlanLaws.{StandInOrder}

-- the first of which a test holds, with its tokens
abbrev pub first_where : (Record → Bool) → List (List Token × Record) → Option (List Token × Record)
first_where test [] = None
first_where test (x ∷ xs) = if test x.1 then Some x else first_where test xs

-- a test of an entry, where a statement is one
abbrev pub of_entry : (Entry → Bool) → Option Entry → Bool
of_entry test None = false
of_entry test (Some e) = test e

-- the plan of an edit of a section, of a text with this design
abbrev pub section_plan_of : Library → List ℕ → List Record → SectionChange → Plan
section_plan_of library text design change = section_plan library (located text design) design (λ name. component_at name (located text design)) change

-- changes lie within their statements, and their cuts stand in order within a text
abbrev pub StandWithin : List ℕ → List (List Token × StatementChange) → Type 0
StandWithin text changes = StandInOrder text (record { refusals = []; changes = changes })

-- the number in a header ends no later than a place
abbrev pub CountsBefore : ℕ → List Token → Type 0
CountsBefore place hs = (2 ≤ length hs) × (end_of_all (take 1 (drop 1 hs)) ≤ place)

-- so do those that put these bytes, which say some entry, into a section of a text with this design
abbrev pub MayPut : List ℕ → List Record → Section → List ℕ → Type 0
MayPut text design section put = (said : Entry) × StandWithin text (putting section put said (located text design) design)
