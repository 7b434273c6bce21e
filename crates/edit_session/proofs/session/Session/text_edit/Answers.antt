use Rattle.std.proofs.Common.{◌≡◌, ℕ, List, Ok, subst, sym}
use Rattle.std.specs.Prelude.{IsOk}
use Rattle.std.proofs.lemmas.Result.{err_from_is_err_and}
use Rattle.design_model.specs.declared.identifier.StmtId.{StmtId}
use Rattle.def_grammar.specs.Records.{Record, read_def}
use Rattle.design_text.specs.DesignTexts.{text_of}
use Rattle.design_text.specs.Exchanges.{MadeEdit, records_in}
use Rattle.followed_places.specs.Places.{said}
use Rattle.edit_session.specs.Known.{AreKnownOf, HasFollowed, HasNoted}
use Rattle.edit_session.specs.Tests.{TestsFew}
use Rattle.edit_session.proofs.EditLemmas.{replaces_nothing}
use Rattle.edit_session.proofs.FollowLemmas.{is_read, said_is}
use Rattle.edit_session.proofs.ReportLemmas.{of_this}
use Rattle.edit_session.proofs.session.Session.text_edit.Goals as goal

pub returns-clause-tests : goal.returns-clause-tests
returns-clause-tests g c =
    let library = c.self.inside.library.now in
    let before = c.self.inside.text in
    let after = c.let_go.new.self in
    let design = said (records_in before) in
    let reads : read_def (text_of before) ≡ Ok design = said_is (text_of before) (records_in before) _ c.statements_are_kept.ensures.said c.design_is_read.ensures.reads in
    let then : read_def (text_of after) ≡ Ok (said (records_in after)) = said_is (text_of after) (records_in after) _ c.statements_are_kept-2.ensures.said c.design_is_read-2.ensures.reads in
    let only = c.note-told.ensures.only in
    let few = c.follow-followed.ensures.tests before only.0 (record { told = c.in_ok-made.ensures.exchanged; reads = reads; told_before = c.note-told.ensures.told; had = c.note-told.ensures.noted; knew = c.self.invariant.1 design reads }) only.2 in
    rw (← c.self.view_is) (
      only.0,
      (
        design,
        said (records_in after),
        reads,
        then,
        subst (λ (rs : List (StmtId × Record)). TestsFew library design (said rs) only.0 c.follow-followed.result.tests) (sym c.let_go.ensures.records) few,
      ),
    )

pub invariant_of-self : goal.invariant_of-self
invariant_of-self g c =
    let library = c.self.inside.library.now in
    let same = c.in_err-made.ensures.replaces.0 in
    let i = c.self.invariant in (
      subst (λ (text : List ℕ). IsOk (read_def text)) (sym same) i.0,
      subst (λ (text : List ℕ). AreKnownOf library text c.self.inside.known) (sym same) i.1,
      subst (λ (rs : List (StmtId × Record)). HasNoted library rs c.note-told.new.self) (sym c.in_err-made.ensures.same) c.note-told.ensures.noted,
    )

pub follow-followed-requires : goal.follow-followed-requires
follow-followed-requires g c =
    let before = c.self.inside.text in
    let design = said (records_in before) in
    let reads : read_def (text_of before) ≡ Ok design = said_is (text_of before) (records_in before) _ c.statements_are_kept.ensures.said c.design_is_read.ensures.reads in
    (before, record { told = c.in_ok-made.ensures.exchanged; reads = reads; told_before = c.note-told.ensures.told; had = c.note-told.ensures.noted; knew = c.self.invariant.1 design reads })

pub invariant_of-self-2 : goal.invariant_of-self-2
invariant_of-self-2 g c =
    let library = c.self.inside.library.now in
    let after = c.let_go.new.self in
    let reads = said_is (text_of after) (records_in after) _ c.statements_are_kept-2.ensures.said c.design_is_read-2.ensures.reads in (
      is_read (text_of after) _ reads,
      λ design also.
          c.put.ensures library design (c.none.ensures library design)
          (of_this (λ (d : List Record). HasFollowed library d c.follow-followed.result) (text_of after) (said (records_in after)) design reads also
          (subst (λ (rs : List (StmtId × Record)). HasFollowed library (said rs) c.follow-followed.result) (sym c.let_go.ensures.records) c.follow-followed.ensures.lines)),
      subst (λ (rs : List (StmtId × Record)). HasNoted library rs c.follow-followed.new.self) (sym c.let_go.ensures.records) c.follow-followed.ensures.noted,
    )

pub returns-in_err-made-clause-answer : goal.returns-in_err-made-clause-answer
returns-in_err-made-clause-answer g c =
    let library = c.self.inside.library.now in
    let answers = replaces_nothing MadeEdit library (text_of c.self.inside.text) c.args.a c.args.b c.args.new.now c.in_err-made.field-0.0 (text_of c.replace-edited.new.self) c.in_err-made.ensures.replaces in
    let p = err_from_is_err_and c.from_residual.result c.from_residual.ensures.1 in
    rw (← c.self.view_is, p.1, p.2) answers
