use Rattle.std.specs.Prelude.{IsSome}
use Rattle.design_text.specs.DesignTexts.{text_of}
use Rattle.edit_session.specs.Known.{AreKnown}
use Rattle.edit_session.proofs.ReportLemmas.{drawn_of, of_this}
use Rattle.edit_session.proofs.report.know_all_but_nets.Goals as goal

pub know_places-requires-clause-known : goal.know_places-requires-clause-known
know_places-requires-clause-known g c = rw (c.deref.ensures.value) (c.requires _ c.in_ok-records.ensures)

pub returns-in_err-know_places-clause-known : goal.returns-in_err-know_places-clause-known
returns-in_err-know_places-clause-known g c = λ design reads.
    of_this (λ d. AreKnown c.args.library.now d c.know_places.new.known) _ _ design c.in_ok-records.ensures reads (rw (c.deref.ensures.value) at c.know_places.ensures.known)

pub know_statements-requires-clause-known : goal.know_statements-requires-clause-known
know_statements-requires-clause-known g c = rw (c.deref-2.ensures.value) (rw (c.deref.ensures.value) at c.know_places.ensures.known)

pub know_statements-requires-clause-lengths : goal.know_statements-requires-clause-lengths
know_statements-requires-clause-lengths g c = rw (c.deref-2.ensures.value) (c.lengths_fit.ensures c.args.library.now (text_of c.args.text.now) _ c.in_ok-records.ensures _)

pub know_statements-requires-clause-across : goal.know_statements-requires-clause-across
know_statements-requires-clause-across g c = rw (c.deref-2.ensures.value) (c.lines_fit.ensures (text_of c.args.text.now) _ c.in_ok-records.ensures).0

pub know_statements-requires-clause-upward : goal.know_statements-requires-clause-upward
know_statements-requires-clause-upward g c = rw (c.deref-2.ensures.value) (c.lines_fit.ensures (text_of c.args.text.now) _ c.in_ok-records.ensures).1

pub returns-clause-known : goal.returns-clause-known
returns-clause-known g c = λ design reads.
    of_this (λ d. AreKnown c.args.library.now d c.know_statements.new.known) _ _ design c.in_ok-records.ensures reads (rw (c.deref-2.ensures.value) at c.know_statements.ensures.known)

pub returns-clause-nets : goal.returns-clause-nets
returns-clause-nets g c = drawn_of (IsSome c.know_statements.new.known.nets) c.args.library.now _ _ c.know_statements.result c.in_ok-records.ensures (rw (c.deref-2.ensures.value) at c.know_statements.ensures.nets)
