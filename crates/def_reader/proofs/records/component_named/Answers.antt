use Rattle.std.proofs.Common.{sym, ap, ◌∙◌}
use Rattle.design_model.specs.declared.mode.Mode.TheVariants.{Top}
use Rattle.lefdef_tokens.specs.Views.{pieces_of}
use Rattle.statement_reader.specs.Located.{located_at}
use Rattle.def_grammar.specs.Records.{def}
use Rattle.def_grammar.specs.Located.{component_at}
use Rattle.place_parts.specs.ComponentViews.{component_view}
use Rattle.def_reader.specs.StatementViews.{record_view}
use Rattle.def_reader.proofs.RecordSteps.{located_is, located_spelled, named_here}
use Rattle.def_reader.proofs.records.component_named.Goals as goal

pub returns-in-Some-named-clause-gives : goal.returns-in-Some-named-clause-gives
returns-in-Some-named-clause-gives c = λ design reads.
    let l = c.loop-read in
    let read = c.in-Some.read in
    let parts = c.in-Some-named.parts in
    let same = located_is c.records_are_read.ensures.located c.args.text.now design reads in
    named_here c.args.name.now l.statements.place l.statements.text.now l.statements.pos (pieces_of read.tokens) (record_view read.statement) c.next.new.self.place c.next.new.self.pos (located_at def Top c.args.text.now 0) l.invariant.named c.in-Some.ensures.gives (pieces_of read.tokens, component_view parts) (c.in-Some-named.ensures.gives (pieces_of read.tokens))
    ∙ ap (component_at c.args.name.now) (sym same)

pub returns-in-Some-named-clause-spelled : goal.returns-in-Some-named-clause-spelled
returns-in-Some-named-clause-spelled c =
    let l = c.loop-read in
    let read = c.in-Some.read in
    located_spelled l.statements.place l.statements.text.now l.statements.pos (pieces_of read.tokens) (record_view read.statement) _ (component_view c.in-Some-named.parts) c.in-Some.ensures.gives c.in-Some-named.ensures.entry

pub returns-clause-gives : goal.returns-clause-gives
returns-clause-gives c = λ design reads.
    let l = c.loop-read in
    let same = located_is c.records_are_read.ensures.located c.args.text.now design reads in
    sym (ap (component_at c.args.name.now) same ∙ l.invariant.named ∙ ap (component_at c.args.name.now) c.in_default.ensures.gives)
