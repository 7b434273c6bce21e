use Rattle.std.proofs.Common.{List, drop}
use Rattle.design_model.specs.declared.identifier.StmtId.{StmtId}
use Rattle.def_grammar.specs.Records.{Record}
use Rattle.design_text.specs.Exchanges.{AreExchanges, records_in}
use Rattle.followed_nets.proofs.NumberLemmas.{NumbersThen}
use Rattle.followed_nets.proofs.numbers.numbers_after.Given as goal

abbrev pub invariant-loop-place : goal.invariant-loop-place
invariant-loop-place g l =
    let slots = l.text.pieces.table.slots in
    ((between : List (StmtId × Record)) × AreExchanges slots between (drop l.place l.made.exchanges) (records_in l.text))
    × NumbersThen slots l.made.exchanges (drop l.place l.made.exchanges) (records_in l.text) l.numbers l.after.items
