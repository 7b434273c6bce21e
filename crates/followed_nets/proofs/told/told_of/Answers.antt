use Rattle.std.proofs.Common.{List, map, subst}
use Rattle.def_grammar.specs.Records.{Record}
use Rattle.def_reader.specs.StatementViews.{record_view}
use Rattle.net_touches.specs.Barriers.{barrier_view}
use Rattle.net_checks.specs.Drawings.{IsBarredDrawing}
use Rattle.followed_nets.specs.ToldViews.{told_view}
use Rattle.followed_nets.proofs.ToldLemmas.{told_if}
use Rattle.followed_nets.proofs.told.told_of.Goals as goal

pub returns-clause-told : goal.returns-clause-told
returns-clause-told g c = λ design tell.
    let library = c.args.library.now in
    let some = map record_view c.args.statements.now in
    let bars = map barrier_view c.args.bars.now in
    let drawing = c.in_ok-drawing.drawing in
    let told = c.one_net_is_told.ensures library some design c.args.net.now tell in
    let drawn = subst (λ (records : List Record). IsBarredDrawing library records bars drawing) c.in_ok-names.ensures c.in_ok-drawing.ensures in
    told_if library bars some design c.args.net.now told told_view c.told_by.result drawing drawn c.told_by.ensures.name (c.told_by.ensures.lines library some bars drawn) c.told_by.ensures.shapes
