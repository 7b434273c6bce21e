-- Lines on components that lie on one another (own).
use Rattle.std.specs.Prelude.{ℕ, List, [], ◌∷◌, if◌then◌else◌}
use Rattle.design_model.specs.declared.diagnostic.DiagKind.TheVariants.{Overlap}
use Rattle.design_model.specs.Geometry.{overlap}
use Rattle.design_model.specs.Lines.{line_text}
use Rattle.design_model.specs.Order.{greater, lesser}
use Rattle.def_grammar.specs.Records.{Record}
use Rattle.lef_grammar.specs.Library.{Library}
use Rattle.design_rules.specs.Boxes.{Boxed, boxes}
use Rattle.design_model.specs.Families.{pair_lines}

-- `overlap a b`, a before b
abbrev pub overlap_line : List ℕ → List ℕ → List ℕ
overlap_line a b = line_text Overlap (lesser a b ∷ greater a b ∷ []) []

-- the lines of two components: one where their boxes share area
abbrev pub overlap_of : Boxed → Boxed → List (List ℕ)
overlap_of a b = if overlap a.box b.box then overlap_line a.name b.name ∷ [] else []

-- a line for each pair of components that take part and overlap
abbrev pub overlap_lines : Library → List Record → List (List ℕ)
overlap_lines library design = pair_lines overlap_of (boxes library design)
