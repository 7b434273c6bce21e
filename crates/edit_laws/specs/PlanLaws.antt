-- Laws of plans, whatever edit has the plan.
use Rattle.std.specs.Prelude.{◌≡◌, ◌≤◌, ℕ, ◌+◌, List, [], ◌∷◌, length, None, Ok}
use Rattle.statement_model.specs.Cuts.{Cut, with_cuts}
use Rattle.def_grammar.specs.Records.{Record, read_def}
use Rattle.def_grammar.specs.Located.{located}
use Rattle.statement_model.specs.Tokens.{Token}
use Rattle.edit_rules.specs.Plans.{Plan, StatementChange, cuts_for, lowest, outcome_of}
use Rattle.splicing_laws.specs.KeepingLaws.{AreInOrder}
use Rattle.edit_laws.specs.StatementLaws.{Make, AreOnce}

-- unless a plan is refused for a reason of its own, its changes make this new design, in which no key stands twice
abbrev pub Plans : List ℕ → List Record → Plan → List Record → Type 0
Plans text design plan new = lowest plan.refusals ≡ None → Make (located text design) plan.changes new × AreOnce [] new

-- A text that reads, with the cuts of such a plan made, reads as the new design.
abbrev pub PlansAreApplied : Type 0
PlansAreApplied = (text : List ℕ) (design new : List Record) (plan : Plan) (cuts : List Cut)
    → read_def text ≡ Ok design
    → Plans text design plan new
    → outcome_of text plan ≡ Ok cuts
    → read_def (with_cuts cuts text) ≡ Ok new

-- the tokens that each change takes are some of its statement's
abbrev pub LieWithin : List (List Token × StatementChange) → Type 0
LieWithin [] = Unit {0}
LieWithin (x ∷ xs) = (x.1.before + x.1.taken ≤ length x.0) × LieWithin xs

-- the changes of a plan lie within their statements, and their cuts stand in order within the text
pub record StandInOrder (text : List ℕ) (plan : Plan) : Type 0 where
  pub within : LieWithin plan.changes
  pub ordered : AreInOrder 0 (cuts_for text plan.changes) (length text)

-- Those of a plan that isn't refused for a reason of its own do, so the bytes between its cuts stay.
abbrev pub PlansStandInOrder : Type 0
PlansStandInOrder = (text : List ℕ) (design new : List Record) (plan : Plan)
    → read_def text ≡ Ok design
    → Plans text design plan new
    → lowest plan.refusals ≡ None
    → StandInOrder text plan
