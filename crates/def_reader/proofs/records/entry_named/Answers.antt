use Rattle.std.proofs.Common.{◌∙◌, sym, ap, refl}
use Rattle.lefdef_tokens.specs.Views.{pieces_of}
use Rattle.statement_model.specs.Tokens.{left_from}
use Rattle.statement_reader.specs.Located.{located_at}
use Rattle.def_grammar.specs.Records.{def}
use Rattle.def_grammar.specs.Located.{entry_at}
use Rattle.def_reader.specs.StatementViews.{record_view}
use Rattle.def_reader.proofs.RecordSteps.{located_is, entry_here, entry_later}
use Rattle.def_reader.proofs.PlaceSteps.{after_entry}
use Rattle.def_reader.proofs.records.entry_named.Goals as goal

pub returns-then-is_entry-clause-gives : goal.returns-then-is_entry-clause-gives
returns-then-is_entry-clause-gives c = λ design reads.
    let l = c.loop-read in
    let read = c.in-Some.read in
    let same = located_is c.records_are_read.ensures.located c.args.text.now design reads in
    sym (
    ap (entry_at c.args.section c.args.name.now) same
    ∙ l.invariant.named
    ∙ entry_here c.args.section c.args.name.now _ (located_at def c.next.new.self.place l.statements.text.now c.next.new.self.pos) (pieces_of read.tokens) (record_view read.statement) c.in-Some.ensures.gives (sym c.is_entry.ensures ∙ c.if-is_entry.true)
    )

pub returns-then-is_entry-clause-place : goal.returns-then-is_entry-clause-place
returns-then-is_entry-clause-place c =
    let l = c.loop-read in
    let read = c.in-Some.read in
    after_entry l.statements.place read.place (left_from l.statements.text.now l.statements.pos) (left_from l.statements.text.now read.end) (record_view read.statement) c.args.section c.args.name.now c.in-Some.ensures.reads.2
    (sym c.is_entry.ensures ∙ c.if-is_entry.true)

pub loop-read-preserved : goal.loop-read-preserved
loop-read-preserved c =
    let l = c.loop-read in
    let i = l.invariant in
    let e = c.in-Some.ensures in
    let read = c.in-Some.read in
    record {
      text = e.same ∙ i.text;
      named = i.named ∙ entry_later c.args.section c.args.name.now _ (located_at def c.next.new.self.place l.statements.text.now c.next.new.self.pos) (pieces_of read.tokens) (record_view read.statement) e.gives (sym c.is_entry.ensures ∙ c.if-is_entry.false) ∙ rw e.same refl;
    }

pub returns-clause-gives : goal.returns-clause-gives
returns-clause-gives c = λ design reads.
    let l = c.loop-read in
    let same = located_is c.records_are_read.ensures.located c.args.text.now design reads in
    sym (ap (entry_at c.args.section c.args.name.now) same ∙ l.invariant.named ∙ ap (entry_at c.args.section c.args.name.now) c.in_default.ensures.gives)
