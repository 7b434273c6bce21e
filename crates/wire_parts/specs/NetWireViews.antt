-- The wires of a net that are left to be given, and the text that they stand in.
use Rattle.std.specs.Prelude.{◌≡◌, ℕ, List, [], ◌∷◌, ◌++◌, flat_map, Option, Some, None, IfSome, MatchOption}
use Rattle.def_grammar.specs.NetWires.{wires_of}
use Rattle.def_grammar.specs.Wiring.{Wire}
use Rattle.statement_reader.specs.declared.parts.Parts.{Parts}
use Rattle.statement_reader.specs.PartViews.{PartsAt}
use Rattle.wire_parts.specs.WiresLeft.{StandsIn}
use Rattle.wire_parts.specs.NetViews.{net_clauses_of}
use Rattle.wire_parts.specs.WiringViews.{wire_view, wires_of as later_wires}
use Rattle.wire_parts.specs.declared.net_wires.NetPaths.{NetPaths}
use Rattle.wire_parts.specs.declared.nets.NetClause.{NetClause}
use Rattle.wire_parts.specs.declared.wiring.Wire as code_wire
use Rattle.wire_parts.specs.declared.wiring.Wiring as code_wiring

-- the wires of a wiring clause
abbrev pub of_wiring : Option code_wiring.Wiring → List Wire
of_wiring None = []
of_wiring (Some wiring) = wire_view wiring.first ∷ later_wires wiring.others

-- those that are left of the present clause
abbrev pub of_clause : Option (Parts code_wire.Wire) → List Wire
of_clause None = []
of_clause (Some wires) = later_wires wires

-- those of the clauses that are left
abbrev pub of_clauses : Parts NetClause → List Wire
of_clauses clauses = flat_map wires_of (net_clauses_of clauses)

abbrev pub paths_left : NetPaths → List Wire
paths_left p = of_clause p.wires ++ of_clauses p.clauses

-- of the clauses that were left, the first with wires was found, and the others are left; or none has a wire
abbrev pub IsNextWiring : Parts NetClause → Option code_wiring.Wiring → Parts NetClause → Type 0
IsNextWiring before found later =
    MatchOption found ((of_clauses before ≡ []) × (of_clauses later ≡ [])) (λ w. of_clauses before ≡ wire_view w.first ∷ (later_wires w.others ++ of_clauses later))

abbrev pub ClauseLeftIn : List ℕ → Option (Parts code_wire.Wire) → Type 0
ClauseLeftIn text wires = IfSome wires (λ w. StandsIn PartsAt text w)

abbrev pub PathsIn : List ℕ → NetPaths → Type 0
PathsIn text p = ClauseLeftIn text p.wires × (p.clauses.cursor.tokens.text.now ≡ text)
