use Rattle.std.proofs.Common.{[], map, take}
use Rattle.std.specs.Prelude.{flat_map}
use Rattle.design_tables.specs.Changes.{IsEdited, is_gone}
use Rattle.design_tables.specs.Listings.{marks_in}
use Rattle.design_tables.specs.TableViews.{numbered_view}
use Rattle.design_tables.proofs.names.NameTable.take_all.Given as goal

abbrev pub invariant-loop-statement : goal.invariant-loop-statement
invariant-loop-statement g l = IsEdited (is_gone l.gone.keys) l.from [] [] l.initial.self
    → IsEdited (is_gone l.gone.keys) l.from (flat_map marks_in (map numbered_view (take l.statement-index l.out))) [] l.self
