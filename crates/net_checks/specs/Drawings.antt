-- What the lines on the nets of a design speak of.
use Rattle.std.specs.Prelude.{◌≡◌, ℕ, List, ◌++◌, flat_map, map}
use Rattle.design_model.specs.Families.{cross_lines, pair_lines}
use Rattle.def_grammar.specs.Records.{Record}
use Rattle.lef_grammar.specs.Library.{Library}
use Rattle.design_rules.specs.Boxes.{scale}
use Rattle.cell_library.specs.LayerViews.{layer_name}
use Rattle.connection_rules.specs.NetLines.{Barrier, barriers, class_lines, routeblock_of, shapes_of_net, short_of}
use Rattle.connection_rules.specs.NetParts.{Net, all_nets}
use Rattle.design_nets.specs.NetGroups.{net_lengths}

-- nets and the lengths of their wires, rectangles where routing is blocked, and the names of layers by their places
pub record Drawing : Type 0 where
  pub nets : List Net
  pub lengths : List ℕ
  pub barriers : List Barrier
  pub layers : List (List ℕ)

-- nets of a design, and some rectangles
pub record IsBarredDrawing (library : Library) (design : List Record) (bars : List Barrier) (d : Drawing) : Type 0 where
  pub nets : d.nets ≡ all_nets library design (scale design)
  pub lengths : d.lengths ≡ net_lengths library design (scale design)
  pub barriers : d.barriers ≡ bars
  pub layers : d.layers ≡ map layer_name library.layers

-- those of a design
abbrev pub IsDrawingOf : Library → List Record → Drawing → Type 0
IsDrawingOf library design d = IsBarredDrawing library design (barriers library design (scale design)) d

-- all lines on nets, where these rectangles block routing: `net_lines`, where they are the design's own
abbrev pub lines_of_nets : (ℕ → List ℕ) → List Net → List Barrier → List (List ℕ)
lines_of_nets name_of nets bars =
    let shapes = flat_map shapes_of_net nets in pair_lines (short_of name_of) shapes ++ (cross_lines (routeblock_of name_of) shapes bars ++ flat_map class_lines nets)
