use Rattle.std.proofs.Common.{◌≡◌, None, List, ℕ, sym, subst, ◌∙◌, refl, rules}
use Rattle.std.proofs.lemmas.Result.{err_from_is_err_and}
use Rattle.design_model.specs.declared.mode.Section.TheVariants.{Blockages}
use Rattle.def_grammar.specs.Located.{located}
use Rattle.def_grammar.specs.Records.{read_def}
use Rattle.edit_rules.specs.Edits.{lent, of_section}
use Rattle.edit_rules.specs.Plans.{cuts_for, lowest, outcome_of}
use Rattle.edit_rules.specs.SectionEdits.{add_blockage, blockage_text, new_blockage, putting}
use Rattle.def_splice.specs.LookupViews.{StandWithin, section_plan_of}
use Rattle.def_splice.specs.SpliceViews.{AreCuts}
use Rattle.def_splice.proofs.PlaceLemmas.{design_of}
use Rattle.def_splice.proofs.PlanLemmas.{follows, makes, refused, wants}
use Rattle.def_splice.proofs.StandingLemmas.{of_plan}
use Rattle.def_splice.proofs.section.block_splices.Goals as goal

pub returns-in-Some-clause-makes : goal.returns-in-Some-clause-makes
returns-in-Some-clause-makes g c =
    let read = design_of (read_def (g.L.LookUps.text c.args.lookups.now)) c.requires.reads in
    let plan = section_plan_of c.args.library.now (g.L.LookUps.text c.args.lookups.now) read.0 (add_blockage (lent (λ l. l.now) c.args.layer) c.args.x1 c.args.y1 c.args.x2 c.args.y2) in
    (read.0, read.1, refused (g.L.LookUps.text c.args.lookups.now) plan c.in-Some.code (let why = c.block_refusal.ensures read.0 read.1 in let same : lowest plan.refusals ≡ c.block_refusal.result = search (rules, why) in same ∙ c.in-Some.is))

pub returns-in_err-put-clause-makes : goal.returns-in_err-put-clause-makes
returns-in_err-put-clause-makes g c =
    let read = design_of (read_def (g.L.LookUps.text c.args.lookups.now)) c.requires.reads in
    let plan = section_plan_of c.args.library.now (g.L.LookUps.text c.args.lookups.now) read.0 (add_blockage (lent (λ l. l.now) c.args.layer) c.args.x1 c.args.y1 c.args.x2 c.args.y2) in
    let free : lowest plan.refusals ≡ None = (let why = c.block_refusal.ensures read.0 read.1 in let same : lowest plan.refusals ≡ c.block_refusal.result = search (rules, why) in same ∙ c.in_default.is) in
    let p = err_from_is_err_and c.from_residual.result c.from_residual.ensures.1 in
    rw (p.1, p.2) (outcome_of (g.L.LookUps.text c.args.lookups.now) plan, (read.0, read.1, refl), wants (g.L.LookUps.text c.args.lookups.now) plan free)

pub entry_put-requires-clause-stand : goal.entry_put-requires-clause-stand
entry_put-requires-clause-stand g c = λ design reads.
    let text = g.L.LookUps.text c.args.lookups.now in
    let layer = lent (λ l. l.now) c.args.layer in
    let change = add_blockage layer c.args.x1 c.args.y1 c.args.x2 c.args.y2 in
    let plan = section_plan_of c.args.library.now text design change in
    let free : lowest plan.refusals ≡ None = (let why = c.block_refusal.ensures design reads in let same : lowest plan.refusals ≡ c.block_refusal.result = search (rules, why) in same ∙ c.in_default.is) in
    let put : c.deref.result.now ≡ blockage_text layer c.args.x1 c.args.y1 c.args.x2 c.args.y2 = search rules in
    let said = new_blockage layer c.args.x1 c.args.y1 c.args.x2 c.args.y2 in
    let stand = of_plan text plan (c.edits_stand_in_order.ensures c.args.library.now text design (of_section change) reads free) in
    (said, subst (λ (bytes : List ℕ). StandWithin text (putting Blockages bytes said (located text design) design)) (sym put) stand)

pub returns-clause-makes : goal.returns-clause-makes
returns-clause-makes g c =
    let read = design_of (read_def (g.L.LookUps.text c.args.lookups.now)) c.requires.reads in
    let text = g.L.LookUps.text c.args.lookups.now in
    let plan = section_plan_of c.args.library.now text read.0 (add_blockage (lent (λ l. l.now) c.args.layer) c.args.x1 c.args.y1 c.args.x2 c.args.y2) in
    let free : lowest plan.refusals ≡ None = (let why = c.block_refusal.ensures read.0 read.1 in let same : lowest plan.refusals ≡ c.block_refusal.result = search (rules, why) in same ∙ c.in_default.is) in
    let put : c.deref.result.now ≡ blockage_text (lent (λ l. l.now) c.args.layer) c.args.x1 c.args.y1 c.args.x2 c.args.y2 = search rules in
    let said = new_blockage (lent (λ l. l.now) c.args.layer) c.args.x1 c.args.y1 c.args.x2 c.args.y2 in
    let cuts = subst (λ (bytes : List ℕ). AreCuts {A = g.row.A.Denot} text (cuts_for text (putting Blockages bytes said (located text read.0) read.0)) c.entry_put.result) put (c.entry_put.ensures.cuts read.0 said read.1) in
    makes c.args.library.now text (of_section (add_blockage (lent (λ l. l.now) c.args.layer) c.args.x1 c.args.y1 c.args.x2 c.args.y2)) read.0 read.1 plan refl c.entry_put.result (follows text plan free c.entry_put.result (cuts_for text plan.changes) refl cuts)
