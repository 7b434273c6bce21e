-- The nets of a text whose shapes are kept, and the lines on them.
use Rattle.std.specs.Prelude.{◌≡◌, ℕ, IfSome, List, Option}
use Rattle.std.specs.List.{AllByRecursion}
use Rattle.design_model.specs.declared.identifier.StmtId.{StmtId}
use Rattle.design_model.specs.Order.{sorted_by_bytes}
use Rattle.def_grammar.specs.Records.{Record}
use Rattle.lef_grammar.specs.Library.{Library}
use Rattle.design_rules.specs.Boxes.{scale}
use Rattle.connection_rules.specs.NetLines.{Barrier, NetShape, barriers, layer_name}
use Rattle.connection_rules.specs.NetParts.{Net, all_nets}
use Rattle.following_laws.specs.DesignLaws.{lines_on_nets}
use Rattle.line_laws.specs.Lines.{SameThings}
use Rattle.named_shapes.specs.Named.{shapes_by_name}
use Rattle.followed_nets.specs.Heads.{Head, IsHead}
use Rattle.followed_nets.specs.Noted.{AreCommon, said}
use Rattle.followed_nets.specs.Stars.{AreStars}

-- the shapes of nets by the nets' names, the numbers of the statements that are read whichever net is told, the rectangles where routing is
-- blocked, the nets that list a pin of all components, unless these aren't kept, and heads of nets
pub record Nets : Type 0 where
  pub shapes : List NetShape
  pub common : List StmtId
  pub bars : List Barrier
  pub stars : Option (List Net)
  pub heads : List Head

-- they are those of a text's numbered statements, but for the rectangles, which are these, in whatever order
pub record HasNetsBarred (library : Library) (records : List (StmtId × Record)) (bars : List Barrier) (n : Nets) : Type 0 where
  pub shapes_are : SameThings n.shapes (shapes_by_name (all_nets library (said records) (scale (said records))))
  pub common_are : AreCommon records n.common
  pub bars_are : SameThings n.bars bars
  pub stars_are : IfSome n.stars (AreStars library (said records))
  pub heads_are : AllByRecursion (IsHead (said records)) n.heads

-- and the rectangles are theirs, too
abbrev pub HasNets : Library → List (StmtId × Record) → Nets → Type 0
HasNets library records n = HasNetsBarred library records (barriers library (said records) (scale (said records))) n

-- shapes that are kept are those of nets, and lines that are kept are those on these nets, in the order of their bytes
pub record AreOnNets (library : Library) (bars : List Barrier) (nets : List Net) (shapes : List NetShape) (lines : List (List ℕ)) : Type 0 where
  pub shapes_are : SameThings shapes (shapes_by_name nets)
  pub lines_are : lines ≡ sorted_by_bytes (lines_on_nets (layer_name library.layers) nets bars)
