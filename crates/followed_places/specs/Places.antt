-- The components of a text that take part, under the numbers of their statements.
use Rattle.std.specs.Prelude.{◌≡◌, ◌<◌, ◌≤◌, ℕ, List, [], ◌∷◌, flat_map, map, Option}
use Rattle.std.specs.List.{filter_map}
use Rattle.std.specs.Option.{option_map}
use Rattle.design_model.specs.declared.identifier.StmtId.{StmtId}
use Rattle.design_model.specs.Geometry.{Rectangle}
use Rattle.design_model.specs.Order.{sorted_by_bytes}
use Rattle.def_grammar.specs.Records.{Record}
use Rattle.lef_grammar.specs.Library.{Library}
use Rattle.design_rules.specs.Boxes.{Boxed, box_of, scale}
use Rattle.design_rules.specs.Surroundings.{Surroundings, keep_outs, surroundings}
use Rattle.line_laws.specs.Lines.{SameThings}
use Rattle.place_checks.specs.SameSurroundings.{HaveSameLines}
use Rattle.staying_laws.specs.Staying.{lines_on_places}
use Rattle.kept_lines.specs.Kept.{Kept}

-- the boxes of components, and the rectangles that keep them out, under the numbers of their statements, what stands round them, and the
-- database units per micron
pub record Places : Type 0 where
  pub boxes : List (StmtId × Rectangle)
  pub keep_outs : List (StmtId × Rectangle)
  pub surroundings : Surroundings
  pub scale : ℕ

-- what numbered statements say
abbrev pub said : List (StmtId × Record) → List Record
said records = map (λ x. x.1) records

-- the components among them that take part
abbrev pub component_under : Library → ℕ → StmtId × Record → Option (StmtId × Boxed)
component_under library u x = option_map (λ b. (x.0, b)) (box_of library u x.1)

abbrev pub components_under : Library → ℕ → List (StmtId × Record) → List (StmtId × Boxed)
components_under library u records = filter_map (component_under library u) records

abbrev pub place_under : StmtId × Boxed → StmtId × Rectangle
place_under c = (c.0, c.1.box)

-- the rectangles where numbered statements keep components out, each under the number of its statement
abbrev pub keep_outs_under : List (StmtId × Record) → List (StmtId × Rectangle)
keep_outs_under records = flat_map (λ x. map (λ r. (x.0, r)) (keep_outs (x.1 ∷ []))) records

-- places are those of a text's numbered statements; each component has the same lines in these surroundings as in the text's
pub record HasPlaces (library : Library) (records : List (StmtId × Record)) (p : Places) : Type 0 where
  pub boxes_are : SameThings p.boxes (map place_under (components_under library (scale (said records)) records))
  pub keep_outs_are : SameThings p.keep_outs (keep_outs_under records)
  pub surroundings_are : HaveSameLines p.surroundings (surroundings library (said records))
  pub scale_is : p.scale ≡ scale (said records)

-- kept lines are those on the components of a design, in the order of their bytes
abbrev pub AreOnPlaces : Library → List Record → Kept → Type 0
AreOnPlaces library design kept = kept.lines ≡ sorted_by_bytes (lines_on_places library design)

-- places are noted of numbered statements, and kept lines are those on their components; their scale is one that a text may have
pub record AreFollowed (library : Library) (records : List (StmtId × Record)) (p : Places) (kept : Kept) : Type 0 where
  pub places : HasPlaces library records p
  pub lines : AreOnPlaces library (said records) kept
  pub some : 0 < scale (said records)
  pub few : scale (said records) ≤ 100000
