use Rattle.std.proofs.Common.{map}
use Rattle.design_tables.specs.ListingViews.{named_view}
use Rattle.design_tables.specs.Prepared.{exchanged}
use Rattle.design_tables.proofs.ExchangeLemmas.{none_left, turn}
use Rattle.design_tables.proofs.ListingLemmas.{looked_none, looked_up}
use Rattle.design_tables.proofs.names.NameTable.exchange.Goals.{in-Some, in-None}
use Rattle.design_tables.proofs.names.NameTable.exchange.Goals as goal

pub loop-i-preserved : goal.loop-i-preserved
loop-i-preserved g c =
    let l = c.loop-i in
    let cs = l.change-inside.names.entries in
    let es = l.self-inside.names.entries in
    let start = exchanged (map named_view c.change.inside.names.entries) (map named_view c.self.inside.names.entries) in
    let name = c.bytes.result.now in
    elim c.match-get_mut.branch [
      | in-Some w ↦
          rw (w.self-inside-is, w.change-inside-is) (turn start l.i cs es _ l.invariant _ _ c.pair_mut-other.ensures.value name c.bytes.ensures w.in-Some.own.now w.swap.new.x w.swap.new.y (c.get_mut.follows.lender w.swap.new.x).entries
          (looked_up _ _ w.in-Some.own w.in-Some.is c.get_mut.ensures.value) w.swap.ensures.x_after w.swap.ensures.y_after (c.get_mut.follows.holds w.swap.new.x).0)
      | in-None w ↦ none_left start l.i cs es _ l.invariant _ _ c.pair_mut-other.ensures.value name c.bytes.ensures (looked_none _ _ w.in-None.is c.get_mut.ensures.value)
    ]
