use Rattle.std.proofs.Common.{◌≡◌, map, take}
use Rattle.design_model.specs.declared.identifier.StmtId.{StmtId}
use Rattle.design_tables.specs.Changes.{has_number, is_gone}
use Rattle.design_tables.specs.TableViews.{numbered_view}
use Rattle.design_tables.proofs.edited.ids_of.Given as goal

abbrev pub invariant-loop-statement : goal.invariant-loop-statement
invariant-loop-statement g l = (id : StmtId) → is_gone l.ids.keys id ≡ has_number (map numbered_view (take l.statement-index l.statements)) id
