use Rattle.std.proofs.Common.{◌++◌, ℕ, List, [], map, take}
use Rattle.design_tables.specs.Changes.{IsEdited, is_gone}
use Rattle.design_tables.specs.MarkViews.{name_mark_view}
use Rattle.design_tables.specs.declared.role.Mark.{Mark}
use Rattle.design_tables.specs.PutMarks.{numbered}
use Rattle.design_tables.proofs.names.NameTable.take_out.Given as goal

abbrev pub invariant-loop-mark : goal.invariant-loop-mark
invariant-loop-mark g l = (outs : List (List ℕ × Mark)) → IsEdited (is_gone l.gone.keys) l.from outs [] l.initial.self
    → IsEdited (is_gone l.gone.keys) l.from (outs ++ numbered l.statement.id (map name_mark_view (take l.mark-index l.mark-items))) [] l.self
