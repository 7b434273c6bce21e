-- The wires of a special net that are left to be given, and the text that they stand in.
use Rattle.std.specs.Prelude.{◌≡◌, ℕ, List, [], ◌∷◌, ◌++◌, flat_map, Option, Some, None, IfSome, MatchOption}
use Rattle.def_grammar.specs.SpecialWires.{special_wires_of}
use Rattle.def_grammar.specs.Wiring.{SpecialWire}
use Rattle.statement_reader.specs.declared.parts.Parts.{Parts}
use Rattle.statement_reader.specs.PartViews.{PartsAt}
use Rattle.wire_parts.specs.WiresLeft.{StandsIn}
use Rattle.wire_parts.specs.SpecialNetViews.{special_clauses_of}
use Rattle.wire_parts.specs.WiringViews.{special_wire_view, special_wires_of as later_special_wires}
use Rattle.wire_parts.specs.declared.special_nets.SpecialClause.{SpecialClause}
use Rattle.wire_parts.specs.declared.special_wires.SpecialPaths.{SpecialPaths}
use Rattle.wire_parts.specs.declared.wiring.SpecialWire as code_wire
use Rattle.wire_parts.specs.declared.wiring.SpecialWires as code_wires

-- those that are left of the present clause
abbrev pub of_special_clause : Option (Parts code_wire.SpecialWire) → List SpecialWire
of_special_clause None = []
of_special_clause (Some wires) = later_special_wires wires

-- those of the clauses that are left
abbrev pub of_special_clauses : Parts SpecialClause → List SpecialWire
of_special_clauses clauses = flat_map special_wires_of (special_clauses_of clauses)

abbrev pub special_paths_left : SpecialPaths → List SpecialWire
special_paths_left p = of_special_clause p.wires ++ of_special_clauses p.clauses

-- of the clauses that were left, the first with wires was found, and the others are left; or none has a wire
abbrev pub IsNextWires : Parts SpecialClause → Option code_wires.SpecialWires → Parts SpecialClause → Type 0
IsNextWires before found later =
    MatchOption found ((of_special_clauses before ≡ []) × (of_special_clauses later ≡ []))
    (λ w. of_special_clauses before ≡ special_wire_view w.first ∷ (later_special_wires w.others ++ of_special_clauses later))

abbrev pub SpecialClauseLeftIn : List ℕ → Option (Parts code_wire.SpecialWire) → Type 0
SpecialClauseLeftIn text wires = IfSome wires (λ w. StandsIn PartsAt text w)

abbrev pub SpecialPathsIn : List ℕ → SpecialPaths → Type 0
SpecialPathsIn text p = SpecialClauseLeftIn text p.wires × (p.clauses.cursor.tokens.text.now ≡ text)
