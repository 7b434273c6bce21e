use Rattle.std.proofs.Common.{◌≡◌, ◌∙◌, ℕ, List, Ok, Option, ap, subst, sym}
use Rattle.std.specs.Prelude.{IsOk}
use Rattle.design_model.specs.declared.identifier.StmtId.{StmtId}
use Rattle.def_grammar.specs.Records.{Record, read_def}
use Rattle.design_text.specs.DesignTexts.{text_of}
use Rattle.design_text.specs.Exchanges.{MadeEdit, records_in}
use Rattle.edit_rules.specs.Edits.{change_of}
use Rattle.followed_places.specs.Places.{said}
use Rattle.edit_session.specs.Known.{AreKnownOf, HasFollowed, HasNoted}
use Rattle.edit_session.specs.Tests.{Subject, TestsFew}
use Rattle.edit_session.proofs.EditLemmas.{edits_nothing}
use Rattle.edit_session.proofs.FollowLemmas.{is_read, said_is}
use Rattle.edit_session.proofs.ReportLemmas.{of_this}
use Rattle.edit_session.proofs.session.Session.edit.Goals as goal

pub returns-clause-answer : goal.returns-clause-answer
returns-clause-answer g c =
    let edits = c.in_ok-made.ensures.edits in
    rw (← c.self.view_is) (edits.0, edits.1, c.let_go.ensures.text ∙ edits.2)

pub returns-clause-applied : goal.returns-clause-applied
returns-clause-applied g c =
    let applied = c.in_ok-made.ensures.applied in
    rw (← c.self.view_is) (applied.0, applied.1, ap read_def c.let_go.ensures.text ∙ applied.2)

pub returns-clause-keeps : goal.returns-clause-keeps
returns-clause-keeps g c =
    let keeps = c.in_ok-made.ensures.keeps in
    rw (← c.self.view_is) (keeps.0, keeps.1, c.let_go.ensures.text ∙ keeps.2, keeps.3)

pub returns-clause-few : goal.returns-clause-few
returns-clause-few g c = rw (← c.self.view_is, c.reads-reads.ensures) c.in_ok-made.ensures.few

pub returns-clause-tests : goal.returns-clause-tests
returns-clause-tests g c =
    let library = c.self.inside.library.now in
    let before = c.self.inside.text in
    let after = c.let_go.new.self in
    let design = said (records_in before) in
    let reads : read_def (text_of before) ≡ Ok design = said_is (text_of before) (records_in before) _ c.statements_are_kept.ensures.said c.design_is_read.ensures.reads in
    let then : read_def (text_of after) ≡ Ok (said (records_in after)) = said_is (text_of after) (records_in after) _ c.statements_are_kept-2.ensures.said c.design_is_read-2.ensures.reads in
    let only = c.note-told.ensures.only in
    let few = c.follow-followed.ensures.tests before only.0 (record { told = c.in_ok-made.ensures.exchanged; reads = reads; told_before = c.note-told.ensures.told; had = c.note-told.ensures.noted; knew = c.self.invariant.1 design reads }) only.2 in
    rw (← c.self.view_is) (
      design,
      said (records_in after),
      reads,
      then,
      subst (λ (s : Option Subject). TestsFew library design (said (records_in after)) s c.follow-followed.result.tests) only.1
          (subst (λ (rs : List (StmtId × Record)). TestsFew library design (said rs) only.0 c.follow-followed.result.tests) (sym c.let_go.ensures.records) few),
    )

pub invariant_of-self : goal.invariant_of-self
invariant_of-self g c =
    let library = c.self.inside.library.now in
    let same = edits_nothing MadeEdit library _ (change_of c.args.edit.now) c.in_err-made.field-0.0 _ c.in_err-made.ensures.edits in
    let i = c.self.invariant in (
      subst (λ (text : List ℕ). IsOk (read_def text)) (sym same) i.0,
      subst (λ (text : List ℕ). AreKnownOf library text c.self.inside.known) (sym same) i.1,
      subst (λ (rs : List (StmtId × Record)). HasNoted library rs c.note-told.new.self) (sym c.in_err-made.ensures.same) c.note-told.ensures.noted,
    )

pub follow-followed-requires : goal.follow-followed-requires
follow-followed-requires g c =
    let before = c.self.inside.text in
    let design = said (records_in before) in
    let reads : read_def (text_of before) ≡ Ok design = said_is (text_of before) (records_in before) _ c.statements_are_kept.ensures.said c.design_is_read.ensures.reads in
    (before, record { told = c.in_ok-made.ensures.exchanged; reads = reads; told_before = c.note-told.ensures.told; had = c.note-told.ensures.noted; knew = c.self.invariant.1 design reads })

pub invariant_of-self-2 : goal.invariant_of-self-2
invariant_of-self-2 g c =
    let library = c.self.inside.library.now in
    let after = c.let_go.new.self in
    let reads = said_is (text_of after) (records_in after) _ c.statements_are_kept-2.ensures.said c.design_is_read-2.ensures.reads in (
      is_read (text_of after) _ reads,
      λ design also.
          c.put.ensures library design (c.none.ensures library design)
          (of_this (λ (d : List Record). HasFollowed library d c.follow-followed.result) (text_of after) (said (records_in after)) design reads also
          (subst (λ (rs : List (StmtId × Record)). HasFollowed library (said rs) c.follow-followed.result) (sym c.let_go.ensures.records) c.follow-followed.ensures.lines)),
      subst (λ (rs : List (StmtId × Record)). HasNoted library rs c.follow-followed.new.self) (sym c.let_go.ensures.records) c.follow-followed.ensures.noted,
    )
