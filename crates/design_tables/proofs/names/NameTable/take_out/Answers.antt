use Rattle.std.proofs.Common.{◌++◌, map, take}
use Rattle.design_tables.specs.Changes.{is_gone}
use Rattle.design_tables.specs.MarkViews.{name_mark_view}
use Rattle.design_tables.specs.PutMarks.{numbered}
use Rattle.design_tables.proofs.EditLemmas.{next_out}
use Rattle.design_tables.proofs.names.NameTable.take_out.Goals as goal

pub loop-mark-preserved : goal.loop-mark-preserved
loop-mark-preserved g c = λ outs e.
    let l = c.loop-mark in
    let id = c.args.statement.now.id in
    let all = c.as_slice-mark-items.result.now in
    next_out (is_gone c.args.gone.now.keys) c.args.from.now c.take_mark.new.self id all l.mark-index _ outs c.loop-mark-test.true
    (c.in_ok-take_mark.ensures (outs ++ numbered id (map name_mark_view (take l.mark-index all))) id (l.invariant outs e))
