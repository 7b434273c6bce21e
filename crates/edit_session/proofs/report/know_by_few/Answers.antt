use Rattle.edit_session.specs.Known.{AreKnown}
use Rattle.edit_session.proofs.ReportLemmas.{of_this}
use Rattle.edit_session.proofs.report.know_by_few.Goals as goal

pub know_statements_of-requires : goal.know_statements_of-requires
know_statements_of-requires g c = c.requires.known _ c.design_is_read.ensures.reads

pub returns-in_err-know_statements_of-clause-known : goal.returns-in_err-know_statements_of-clause-known
returns-in_err-know_statements_of-clause-known g c = λ design reads.
    of_this (λ d. AreKnown c.args.library.now d c.know_statements_of.new.known) _ _ design c.design_is_read.ensures.reads reads c.know_statements_of.ensures.known

pub returns-in_err-know_places_of-clause-known : goal.returns-in_err-know_places_of-clause-known
returns-in_err-know_places_of-clause-known g c = λ design reads.
    of_this (λ d. AreKnown c.args.library.now d c.know_places_of.new.known) _ _ design c.design_is_read.ensures.reads reads c.know_places_of.ensures.known

pub returns-clause-known : goal.returns-clause-known
returns-clause-known g c = λ design reads.
    of_this (λ d. AreKnown c.args.library.now d c.know_places_of.new.known) _ _ design c.design_is_read.ensures.reads reads c.know_places_of.ensures.known
