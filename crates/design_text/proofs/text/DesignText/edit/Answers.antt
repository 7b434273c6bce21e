use Rattle.std.proofs.Common.{◌≡◌, ◌∙◌, ◌≤◌, Ok, length, map, sym, ap, subst}
use Rattle.statement_model.specs.Cuts.{with_cuts}
use Rattle.edit_rules.specs.Edits.{change_of}
use Rattle.edit_rules.specs.Runs.{Makes}
use Rattle.splicing_laws.specs.KeepingLaws.{AreInOrder}
use Rattle.def_splice.specs.SpliceViews.{cut_view}
use Rattle.design_text.specs.DesignTexts.{text_of}
use Rattle.design_text.specs.Exchanges.{MadeEdit}
use Rattle.design_text.specs.FewReads.{most_reads}
use Rattle.design_text.specs.Editing.{KeepsTheRest, ReadsEdited}
use Rattle.design_text.proofs.ReadTexts.{made_applied, made_keeps, not_made}
use Rattle.design_text.proofs.text.DesignText.edit.Goals as goal

pub make_splices-requires : goal.make_splices-requires
make_splices-requires g c =
    let old = text_of c.args.self.now in
    let cuts = map cut_view c.in_ok-splices.splices in
    let made : Makes c.args.library.now old (change_of c.args.edit.now) (Ok cuts) = c.in_ok-splices.ensures.makes in
    subst (λ cs. AreInOrder 0 cs (length old)) (sym (ap (map cut_view) c.as_slice.ensures)) (c.edits_keep_the_rest.ensures c.args.library.now old made.0 (change_of c.args.edit.now) cuts made.1 made.2)

pub returns-in-Ok-clause-edits : goal.returns-in-Ok-clause-edits
returns-in-Ok-clause-edits g c =
    let old = text_of c.args.self.now in
    let cuts = map cut_view c.in_ok-splices.splices in
    let made : Makes c.args.library.now old (change_of c.args.edit.now) (Ok cuts) = c.in_ok-splices.ensures.makes in
    (cuts, made, c.in-Ok.ensures.makes ∙ ap (λ cs. with_cuts cs old) (ap (map cut_view) c.as_slice.ensures))

pub returns-in-Ok-clause-applied : goal.returns-in-Ok-clause-applied
returns-in-Ok-clause-applied g c =
    let old = text_of c.args.self.now in
    let change = change_of c.args.edit.now in
    let cuts = map cut_view c.in_ok-splices.splices in
    let made : Makes c.args.library.now old change (Ok cuts) = c.in_ok-splices.ensures.makes in
    let same : text_of c.make_splices.new.self ≡ with_cuts cuts old = c.in-Ok.ensures.makes ∙ ap (λ cs. with_cuts cs old) (ap (map cut_view) c.as_slice.ensures) in
    subst (λ t. ReadsEdited old change t) (sym same) (made_applied c.edits_are_applied.ensures c.args.library.now old change cuts made)

pub returns-in-Ok-clause-keeps : goal.returns-in-Ok-clause-keeps
returns-in-Ok-clause-keeps g c =
    let old = text_of c.args.self.now in
    let change = change_of c.args.edit.now in
    let cuts = map cut_view c.in_ok-splices.splices in
    let made : Makes c.args.library.now old change (Ok cuts) = c.in_ok-splices.ensures.makes in
    let same : text_of c.make_splices.new.self ≡ with_cuts cuts old = c.in-Ok.ensures.makes ∙ ap (λ cs. with_cuts cs old) (ap (map cut_view) c.as_slice.ensures) in
    subst (λ t. KeepsTheRest c.args.library.now old change t) (sym same) (made_keeps c.edits_keep_the_rest.ensures c.args.library.now old change cuts made)

pub returns-clause-edits : goal.returns-clause-edits
returns-clause-edits g c =
    let old = text_of c.args.self.now in
    let cuts = map cut_view c.in_ok-splices.splices in
    let made : Makes c.args.library.now old (change_of c.args.edit.now) (Ok cuts) = c.in_ok-splices.ensures.makes in
    (not_made MadeEdit old (text_of c.make_splices.new.self) (map cut_view c.as_slice.result.now) c.in-Err.field-0 c.in-Err.ensures.makes, (Ok cuts, made, tt))

pub returns-in-Ok-clause-few : goal.returns-in-Ok-clause-few
returns-in-Ok-clause-few g c =
    let old = text_of c.args.self.now in
    let cuts = map cut_view c.in_ok-splices.splices in
    let made : Makes c.args.library.now old (change_of c.args.edit.now) (Ok cuts) = c.in_ok-splices.ensures.makes in
    (cuts, made, subst (λ cs. c.in-Ok.made.reads ≤ most_reads old cs) (ap (map cut_view) c.as_slice.ensures) c.in-Ok.ensures.few)
