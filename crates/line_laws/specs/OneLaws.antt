-- Laws of the lines that one thing of a list takes with it: its own, and those with the others.
use Rattle.std.specs.Prelude.{◌≡◌, ℕ, List, ◌∷◌, ◌++◌, flat_map}
use Rattle.design_model.specs.Geometry.{Rectangle}
use Rattle.def_grammar.specs.Records.{Record}
use Rattle.lef_grammar.specs.Library.{Library}
use Rattle.design_rules.specs.Boxes.{Boxed, boxes}
use Rattle.design_model.specs.Families.{lines_with, pair_lines, cross_lines}
use Rattle.design_rules.specs.OverlapLines.{overlap_lines, overlap_of}
use Rattle.design_rules.specs.PlaceLines.{blocked_of, lines_in, place_lines}
use Rattle.design_rules.specs.Surroundings.{Surroundings, keep_outs, surroundings}
use Rattle.line_laws.specs.Lines.{SameLines, SameThings}
use Rattle.line_laws.specs.PairLaws.{IsSymmetric}

-- The lines of all pairs are those of one thing with the others, and those of the others.
abbrev pub OneTakesItsLines : Type 0 → Type 0
OneTakesItsLines A = (compare : A → A → List (List ℕ)) (all rest : List A) (x : A) → IsSymmetric compare → SameThings all (x ∷ rest)
    → SameLines (pair_lines compare all) (lines_with compare x rest ++ pair_lines compare rest)

-- the lines on components: on their overlaps, on each in its surroundings, and on what keeps them out
abbrev pub component_lines : Surroundings → List Rectangle → List Boxed → List (List ℕ)
component_lines s outs cs = pair_lines overlap_of cs ++ (flat_map (lines_in s) cs ++ cross_lines blocked_of cs outs)

-- those of one component, which lies among others
abbrev pub own_lines : Surroundings → List Rectangle → Boxed → List Boxed → List (List ℕ)
own_lines s outs c rest = lines_with overlap_of c rest ++ (lines_in s c ++ flat_map (blocked_of c) outs)

-- The lines on components are those of one of them, and those on the others.
abbrev pub OneComponentTakesItsLines : Type 0
OneComponentTakesItsLines = (s : Surroundings) (outs : List Rectangle) (all rest : List Boxed) (c : Boxed) → SameThings all (c ∷ rest)
    → SameLines (component_lines s outs all) (own_lines s outs c rest ++ component_lines s outs rest)

-- The lines of a design on overlaps and on places are those on its components.
abbrev pub DesignHasComponentLines : Type 0
DesignHasComponentLines = (library : Library) (design : List Record)
    → overlap_lines library design ++ place_lines library design ≡ component_lines (surroundings library design) (keep_outs design) (boxes library design)

-- Lines that are made part by part of the components of a design in any order, and put after others, are those of the design
-- after these.
abbrev pub ComponentsInAnyOrder : Type 0
ComponentsInAnyOrder = (library : Library) (design : List Record) (cs : List Boxed) (before blocked : List (List ℕ)) → SameThings (boxes library design) cs
    → SameLines blocked (cross_lines blocked_of cs (keep_outs design))
    → SameLines (((before ++ pair_lines overlap_of cs) ++ flat_map (lines_in (surroundings library design)) cs) ++ blocked)
    (before ++ (overlap_lines library design ++ place_lines library design))
