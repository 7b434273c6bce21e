use Rattle.std.proofs.Common.{ℕ, List, [], map, take}
use Rattle.std.specs.Prelude.{flat_map}
use Rattle.design_tables.specs.Changes.{IsEdited, is_gone}
use Rattle.design_tables.specs.Listings.{marks_in}
use Rattle.design_tables.specs.TableViews.{numbered_view}
use Rattle.design_tables.specs.declared.role.Mark.{Mark}
use Rattle.design_tables.proofs.names.NameTable.put_all.Given as goal

abbrev pub invariant-loop-statement : goal.invariant-loop-statement
invariant-loop-statement g l = (outs : List (List ℕ × Mark)) → IsEdited (is_gone l.gone.keys) l.from outs [] l.initial.self
    → IsEdited (is_gone l.gone.keys) l.from outs (flat_map marks_in (map numbered_view (take l.statement-index l.put))) l.self
