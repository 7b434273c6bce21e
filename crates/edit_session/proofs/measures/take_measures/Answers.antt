use Rattle.std.proofs.Common.{◌≡◌, Ok, Option, subst, sym}
use Rattle.std.specs.Prelude.{IfSome}
use Rattle.def_grammar.specs.Records.{read_def}
use Rattle.reports.specs.Answers.{Answers, ReportsOn}
use Rattle.design_text.specs.DesignTexts.{text_of}
use Rattle.design_text.specs.Exchanges.{records_in}
use Rattle.followed_places.specs.Places.{said}
use Rattle.edit_session.proofs.FollowLemmas.{said_is}
use Rattle.edit_session.proofs.measures.take_measures.Goals as goal

pub kept_or_made-requires-clause-made : goal.kept_or_made-requires-clause-made
kept_or_made-requires-clause-made g c =
    let text = c.args.text.now in
    let design = said (records_in text) in
    let reads : read_def (text_of text) ≡ Ok design = said_is (text_of text) (records_in text) _ c.statements_are_kept.ensures.said c.design_is_read.ensures.reads in
    subst (λ (o : Option Answers). IfSome o (ReportsOn c.args.library.now design)) (sym c.take-made.ensures.value) (c.requires.known design reads).measures

pub returns-clause-known : goal.returns-clause-known
returns-clause-known g c = λ design reads.
    let known = c.requires.known design reads in
    record { statements = known.statements; places = known.places; nets = known.nets; measures = rw (c.take-made.ensures.after) tt }
