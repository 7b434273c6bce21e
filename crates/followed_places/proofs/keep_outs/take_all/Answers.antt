use Rattle.std.proofs.Common.{rules, ◌∷◌}
use Rattle.line_laws.specs.Lines.{SameThings}
use Rattle.statement_boxes.specs.Boxes.{box_view}
use Rattle.followed_places.proofs.ComponentLemmas.{taken_at}
use Rattle.followed_places.proofs.keep_outs.take_all.Goals as goal

pub loop-gone-preserved : goal.loop-gone-preserved
loop-gone-preserved g c =
    let now : SameThings c.loop-gone.keep_outs (box_view c.gone-item.result ∷ c.remove.new.self) = search rules in
    taken_at box_view _ _ c.gone-item.result _ _ _ _ c.loop-gone-test.true c.gone-item.is c.loop-gone.invariant now
