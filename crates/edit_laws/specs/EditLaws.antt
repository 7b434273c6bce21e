-- Laws of edits.
use Rattle.std.specs.Prelude.{◌≡◌, ℕ, List, length, None, Ok}
use Rattle.statement_model.specs.Cuts.{Cut, with_cuts}
use Rattle.def_grammar.specs.Records.{Record, read_def}
use Rattle.lef_grammar.specs.Library.{Library}
use Rattle.edit_rules.specs.Edits.{Change, plan_of, cuts_of, applied}
use Rattle.edit_rules.specs.Plans.{lowest}
use Rattle.splicing_laws.specs.KeepingLaws.{AreInOrder}
use Rattle.edit_laws.specs.PlanLaws.{StandInOrder}

-- A text that reads, with the cuts of an accepted edit made, reads as the edited design.
abbrev pub EditsAreApplied : Type 0
EditsAreApplied = (library : Library) (text : List ℕ) (design : List Record) (change : Change) (cuts : List Cut)
    → read_def text ≡ Ok design
    → cuts_of library text design change ≡ Ok cuts
    → read_def (with_cuts cuts text) ≡ Ok (applied change design)

-- The cuts of an accepted edit of a text that reads stand in order within the text: the bytes around them stay, as
-- with_cuts has them.
abbrev pub EditsKeepTheRest : Type 0
EditsKeepTheRest = (library : Library) (text : List ℕ) (design : List Record) (change : Change) (cuts : List Cut)
    → read_def text ≡ Ok design
    → cuts_of library text design change ≡ Ok cuts
    → AreInOrder 0 cuts (length text)

-- Also those of an edit that is refused for its length alone do, and each change lies within its statement.
abbrev pub EditsStandInOrder : Type 0
EditsStandInOrder = (library : Library) (text : List ℕ) (design : List Record) (change : Change)
    → read_def text ≡ Ok design
    → lowest (plan_of library text design change).refusals ≡ None
    → StandInOrder text (plan_of library text design change)
