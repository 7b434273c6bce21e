use Rattle.std.proofs.Common.{arith, ap, ◌∙◌}
use Rattle.std.proofs.lemmas.Result.{err_from_is_err_and}
use Rattle.lef_reader.proofs.FaultLemmas.{lef_too_long}
use Rattle.lef_grammar.specs.Library.{with_text}
use Rattle.lef_reader.specs.StatementViews.{block_view, lef_view}
use Rattle.cell_library.specs.Records.{records_view}
use Rattle.cell_library.proofs.AddLemmas.{adding_start, adding_on, adding_fault, adding_ends}
use Rattle.cell_library.proofs.library.Library.add_text.Goals as goal

pub returns-then-text-gt-MAX_TEXT : goal.returns-then-text-gt-MAX_TEXT
returns-then-text-gt-MAX_TEXT g c = lef_too_long c.args.text.now c.if-text-gt-MAX_TEXT.true

pub loop-group-init : goal.loop-group-init
loop-group-init g c = record {
  within = omega arith;
  adding = rw (c.new-group.ensures.items) (adding_start c.args.text.now c.args.self.now c.if-text-gt-MAX_TEXT.false);
}

pub returns-in_err-read : goal.returns-in_err-read
returns-in_err-read g c =
    let l = c.loop-group in
    let p = err_from_is_err_and c.from_residual.result c.from_residual.ensures.1 in
    rw (p.1, p.2) (adding_fault c.args.text.now c.args.self.now l.self (records_view l.group.items) (block_view l.block) l.pos l.invariant.adding c.in_err-read.field-0.0 c.in_err-read.ensures.reads)

pub loop-group-preserved : goal.loop-group-preserved
loop-group-preserved g c =
    let l = c.loop-group in
    let read = c.in-Some.read in
    let r = rw c.in-Some.is at c.in_ok-read.ensures.reads in
    record {
      within = r.1;
      adding = adding_on c.args.text.now c.args.self.now l.self (records_view l.group.items) (block_view l.block) l.pos l.invariant.adding c.note.new.self (records_view c.note.new.group.items) (block_view read.place) read.end (lef_view read.statement) r.2 c.in_ok-note.ensures;
    }

pub returns : goal.returns
returns g c =
    let l = c.loop-group in
    let none = rw c.in_default.is at c.in_ok-read.ensures.reads in
    let left = rw c.in_default.is at c.in_ok-read.ensures.cuts in
    adding_ends c.args.text.now c.args.self.now l.self (records_view l.group.items) (block_view l.block) l.pos l.invariant.adding c.add_group.new.self left none
    (c.in_ok-add_group.ensures ∙ ap (λ xs. with_text l.self (records_view xs)) c.as_slice.ensures.value)
