use Rattle.std.proofs.Common.{◌≡◌, None, refl, sym, ◌∙◌, true}
use Rattle.edit_rules.specs.ComponentEdits.{is_known_macro, remaster_plan}
use Rattle.edit_rules.specs.Plans.{lowest}
use Rattle.lefdef_tokens.specs.Views.{pieces_of}
use Rattle.place_parts.specs.ComponentViews.{component_view}
use Rattle.def_splice.proofs.PlaceLemmas.{some_words}
use Rattle.def_splice.proofs.component.entry_remastered.Goals as goal

pub change_splice-requires : goal.change_splice-requires
change_splice-requires g c = rw c.requires.spelled (some_words (component_view c.args.component))

pub returns-clause-gives : goal.returns-clause-gives
returns-clause-gives g c =
    let plan = remaster_plan c.args.library.now c.args.cell.now (pieces_of c.args.entry) (component_view c.args.component) in
    let known : is_known_macro c.args.library.now c.args.cell.now ≡ true = sym c.has_macro.ensures ∙ c.if-not-has_macro.false in
    let free : lowest plan.refusals ≡ None = rw known refl in
    c.made_one.ensures.gives c.args.entry.text.now plan _ free refl c.change_splice.ensures.cut
