use Rattle.std.proofs.Common.{◌∙◌, ap, Some}
use Rattle.def_grammar.specs.Records.{Record}
use Rattle.def_reader.specs.EntryViews.{entry_view}
use Rattle.design_text.specs.DesignTexts.{text_of}
use Rattle.edit_session.proofs.ViewLemmas.{alone, its_design, says}
use Rattle.edit_session.proofs.view.view_of.Goals as goal

pub returns-in_err-entry-clause-view : goal.returns-in_err-entry-clause-view
returns-in_err-entry-clause-view g c =
    let d = its_design _ c.text_reads.ensures.reads in
    rw c.from_residual.ensures (d.0, d.1, c.in_err-entry.ensures d.0 d.1)

pub parts_of-parts-requires : goal.parts_of-parts-requires
parts_of-parts-requires g c =
    let d = its_design _ c.text_reads.ensures.reads in
    let b = c.in_ok-entry.ensures d.0 d.1 in
    rw b.2 (alone c.entries_stand_alone.ensures (text_of c.args.text.now) c.args.section c.args.name.now d.0 b.0 d.1 b.1)

pub returns-clause-view : goal.returns-clause-view
returns-clause-view g c =
    let d = its_design _ c.text_reads.ensures.reads in
    let b = c.in_ok-entry.ensures d.0 d.1 in
    let own = rw b.2 at c.parts_of-parts.ensures.says in
    let same = says c.entries_stand_alone.ensures (text_of c.args.text.now) c.args.section c.args.name.now d.0 b.0 d.1 b.1 (entry_view c.parts_of-parts.result) own in
    (d.0, d.1, (b.0.0, b.1 ∙ ap (λ (r : Record). let z : _ × Record = (b.0.0, r) in Some z) same, b.2, b.3))
