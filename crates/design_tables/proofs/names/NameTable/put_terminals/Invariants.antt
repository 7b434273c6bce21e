use Rattle.std.proofs.Common.{List, ℕ}
use Rattle.std.specs.List.{flat_map}
use Rattle.wire_parts.specs.TerminalViews.{terminals_of}
use Rattle.design_tables.specs.Listings.{Listing}
use Rattle.design_tables.specs.Marks.{terminal_marks}
use Rattle.design_tables.specs.PutMarks.{ArePut}
use Rattle.design_tables.proofs.names.NameTable.put_terminals.Given as goal

abbrev pub invariant-loop-terminal : goal.invariant-loop-terminal
invariant-loop-terminal g l = (after : List (List ℕ × Listing)) →
    ArePut l.id (flat_map terminal_marks (terminals_of l.left)) l.self after → ArePut l.id (flat_map terminal_marks (terminals_of l.initial.left)) l.initial.self after

abbrev pub decreases-loop-terminal : goal.decreases-loop-terminal
decreases-loop-terminal g l = l.left.most
