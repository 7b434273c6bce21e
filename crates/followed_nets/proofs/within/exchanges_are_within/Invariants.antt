use Rattle.std.proofs.Common.{List, drop}
use Rattle.design_model.specs.declared.identifier.StmtId.{StmtId}
use Rattle.def_grammar.specs.Records.{Record}
use Rattle.design_text.specs.Exchanges.{AreExchanges, records_in}
use Rattle.followed_nets.specs.SubjectViews.{subject_view}
use Rattle.followed_nets.proofs.WithinLemmas.{StaysWithin}
use Rattle.followed_nets.proofs.within.exchanges_are_within.Given as goal

abbrev pub invariant-loop-place : goal.invariant-loop-place
invariant-loop-place g l =
    let slots = l.text.pieces.table.slots in
    ((between : List (StmtId × Record)) × AreExchanges slots between (drop l.place l.made.exchanges) (records_in l.text))
    × StaysWithin l.nets (subject_view l.subject) slots l.made.exchanges (drop l.place l.made.exchanges) (records_in l.text)
