-- A text with the cuts of an accepted edit made reads as the edited design, and keeps its other bytes.
use Rattle.std.proofs.Common.{◌≡◌, ℕ, List, length, Ok, subst}
use Rattle.statement_model.specs.Cuts.{Cut}
use Rattle.def_grammar.specs.Records.{Record, read_def}
use Rattle.lef_grammar.specs.Library.{Library}
use Rattle.edit_rules.specs.Edits.{Change, of_component, of_net, of_section, plan_of, applied}
use Rattle.edit_laws.specs.ComponentLaws.{ComponentPlansAreMade}
use Rattle.edit_laws.specs.EditLaws.{EditsAreApplied, EditsKeepTheRest, EditsStandInOrder}
use Rattle.edit_laws.specs.NetLaws.{NetPlansAreMade}
use Rattle.edit_laws.specs.PlanLaws.{Plans, PlansAreApplied, PlansStandInOrder}
use Rattle.edit_laws.specs.SectionLaws.{SectionPlansAreMade}
use Rattle.edit_laws.proofs.PlanTexts.{accepted}
use Rattle.splicing_laws.specs.KeepingLaws.{AreInOrder}

module _ (components_so : ComponentPlansAreMade) (nets_so : NetPlansAreMade) (sections_so : SectionPlansAreMade) where
  -- the plan of any edit is one for the edited design
  plans_are_made : (library : Library) (text : List ℕ) (design : List Record) (change : Change) → read_def text ≡ Ok design → Plans text design (plan_of library text design change) (applied change design)
  plans_are_made library text design (of_component name change) reads = components_so library text design name change reads
  plans_are_made library text design (of_net name change) reads = nets_so library text design name change reads
  plans_are_made library text design (of_section change) reads = sections_so library text design change reads

  pub edits_are_applied : PlansAreApplied → EditsAreApplied
  edits_are_applied applied_so library text design change cuts reads made =
      applied_so text design (applied change design) (plan_of library text design change) cuts reads (plans_are_made library text design change reads) made

  pub edits_stand_in_order : PlansStandInOrder → EditsStandInOrder
  edits_stand_in_order order_so library text design change reads free =
      order_so text design (applied change design) (plan_of library text design change) reads (plans_are_made library text design change reads) free

-- the cuts of an accepted edit are those of its plan
pub edits_keep_the_rest : EditsStandInOrder → EditsKeepTheRest
edits_keep_the_rest order_so library text design change cuts reads made =
    let a = accepted text (plan_of library text design change) cuts made in
    subst (λ (cs : List Cut). AreInOrder 0 cs (length text)) a.cuts_are (order_so library text design change reads a.free).ordered
