-- Laws of edits that put an entry into a section or take it out.
use Rattle.std.specs.Prelude.{◌≡◌, ℕ, List, Ok}
use Rattle.def_grammar.specs.Records.{Record, read_def}
use Rattle.lef_grammar.specs.Library.{Library}
use Rattle.edit_rules.specs.SectionEdits.{SectionChange}
use Rattle.edit_rules.specs.Edits.{of_section, plan_of, applied}
use Rattle.edit_laws.specs.PlanLaws.{Plans}

-- The plan of such an edit is one for the edited design.
abbrev pub SectionPlansAreMade : Type 0
SectionPlansAreMade = (library : Library) (text : List ℕ) (design : List Record) (change : SectionChange)
    → read_def text ≡ Ok design
    → Plans text design (plan_of library text design (of_section change)) (applied (of_section change) design)
