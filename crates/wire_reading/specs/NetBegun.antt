-- The rule of a net and its wires, as its clauses are read.
use Rattle.std.specs.Prelude.{◌≡◌, List, ◌∷◌, ◌++◌, flat_map, Option, Some, None, MatchOption}
use Rattle.def_grammar.specs.Nets.{NetClause}
use Rattle.def_grammar.specs.NetWires.{wires_of}
use Rattle.def_grammar.specs.Wiring.{Wire}
use Rattle.statement_reader.specs.declared.parts.Parts.{Parts}
use Rattle.wire_parts.specs.NetViews.{net_clauses_of}
use Rattle.wire_parts.specs.NetWireViews.{paths_left}
use Rattle.wire_parts.specs.WiringViews.{wire_view}
use Rattle.wire_parts.specs.declared.nets.NetClause as code_clause
use Rattle.wire_parts.specs.declared.wiring.Wire as code_wire
use Rattle.wire_reading.specs.declared.beginning.Begun.{Begun}

-- the first of two that is there
abbrev pub first_then : {A : Type 0} → Option A → Option A → Option A
first_then None later = later
first_then (Some a) later = Some a

-- the wires after the first, if there is one
abbrev pub wires_from : Option code_wire.Wire → List Wire → List Wire
wires_from None others = others
wires_from (Some first) others = wire_view first ∷ others

-- all wires that were noted
abbrev pub begun_wires : Begun → List Wire
begun_wires b = wires_from b.first (paths_left b.paths)

-- those of a clause, and of the clauses after it
abbrev pub wires_with : NetClause → Parts code_clause.NetClause → List Wire
wires_with clause left = wires_of clause ++ flat_map wires_of (net_clauses_of left)

-- where no wire was noted, those of a clause and of the clauses after it are; without a wire of its own they are those of the clauses
pub record NotesWires (old : Begun) (clause : NetClause) (left : Parts code_clause.NetClause) (new : Begun) : Type 0 where
  pub wires : MatchOption old.first (begun_wires new ≡ wires_with clause left) (λ w. begun_wires new ≡ begun_wires old)
  pub unfound : MatchOption new.first (paths_left new.paths ≡ flat_map wires_of (net_clauses_of left)) (λ w. Unit {0})
