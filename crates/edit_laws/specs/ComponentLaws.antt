-- Laws of edits of a component.
use Rattle.std.specs.Prelude.{◌≡◌, ℕ, List, Some, Ok}
use Rattle.statement_model.specs.Tokens.{Token}
use Rattle.def_grammar.specs.Components.{Component}
use Rattle.def_grammar.specs.Records.{component, Record, entry, read_def}
use Rattle.lef_grammar.specs.Library.{Library}
use Rattle.edit_rules.specs.ComponentEdits.{ComponentChange}
use Rattle.edit_rules.specs.Edits.{of_component, plan_of, applied}
use Rattle.def_grammar.specs.Located.{component_at}
use Rattle.edit_laws.specs.PlanLaws.{Plans}
use Rattle.edit_laws.specs.StatementLaws.{StandsAmong}

-- The component that is found by its name stands among the statements, and has that name.
abbrev pub ComponentsAreFound : Type 0
ComponentsAreFound = (all : List (List Token × Record)) (name : List ℕ) (ps : List Token) (c : Component)
    → component_at name all ≡ Some (ps, c)
    → StandsAmong all ps (entry (component c)) × (c.name ≡ name)

-- The plan of an edit of a component is one for the edited design.
abbrev pub ComponentPlansAreMade : Type 0
ComponentPlansAreMade = (library : Library) (text : List ℕ) (design : List Record) (name : List ℕ) (change : ComponentChange)
    → read_def text ≡ Ok design
    → Plans text design (plan_of library text design (of_component name change)) (applied (of_component name change) design)
