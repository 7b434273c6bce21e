use Rattle.std.proofs.Common.{◌≡◌, ◌++◌, List, drop, map}
use Rattle.design_model.specs.declared.identifier.StmtId.{StmtId}
use Rattle.def_grammar.specs.Records.{Record}
use Rattle.net_touches.specs.Barriers.{barrier_view}
use Rattle.design_text.specs.Exchanges.{AreExchanges, records_in}
use Rattle.followed_nets.specs.Blocked.{bars_come, bars_gone}
use Rattle.followed_nets.proofs.blocked.changed_bars.Given as goal

abbrev pub invariant-loop-place : goal.invariant-loop-place
invariant-loop-place g l = record {
  left : (between : List (StmtId × Record)) × AreExchanges l.text.pieces.table.slots between (drop l.place l.made.exchanges) (records_in l.text);
  gone : map barrier_view l.gone.items ++ bars_gone l.library l.text.pieces.table.slots (drop l.place l.made.exchanges) ≡ bars_gone l.library l.text.pieces.table.slots l.made.exchanges;
  come : map barrier_view l.come.items ++ bars_come l.library l.text.pieces.table.slots (drop l.place l.made.exchanges) ≡ bars_come l.library l.text.pieces.table.slots l.made.exchanges;
}
