-- Lines on unchecked parts of a library, by its definitions.
use Rattle.std.specs.Prelude.{ℕ, List, codes}
use Rattle.lef_grammar.specs.Library.{Macro, Via, unchecked_of}
use Rattle.entry_rules.specs.Unchecked.{unchecked_line}

-- the line on a macro, and on a via
abbrev pub unchecked_of_macro : Macro → List (List ℕ)
unchecked_of_macro m = unchecked_line (codes "MACRO") m.name (unchecked_of m)

abbrev pub unchecked_of_via : Via → List (List ℕ)
unchecked_of_via v = unchecked_line (codes "VIA") v.name v.unchecked
