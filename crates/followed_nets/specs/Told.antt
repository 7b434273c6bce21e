-- What is told of one net of a design.
use Rattle.std.specs.Prelude.{◌≡◌, ℕ, List, [], ◌∷◌, map}
use Rattle.def_grammar.specs.Records.{Record}
use Rattle.lef_grammar.specs.Library.{Library}
use Rattle.lef_grammar.specs.Measures.{Shape}
use Rattle.connection_rules.specs.NetLines.{Barrier, layer_name}
use Rattle.connection_rules.specs.NetParts.{Net, net_named}
use Rattle.design_rules.specs.Boxes.{scale}
use Rattle.following_laws.specs.DesignLaws.{lines_on_nets}
use Rattle.line_laws.specs.Lines.{SameLines}
use Rattle.named_shapes.specs.Named.{named, shapes_by_name}
use Rattle.net_laws.specs.OneNet.{TellNet}

-- its name, the lines on it by itself, and its shapes
pub record Told : Type 0 where
  pub name : List ℕ
  pub lines : List (List ℕ)
  pub shapes : List Shape

-- those of a net, where these rectangles block routing
pub record IsTold (library : Library) (bars : List Barrier) (net : Net) (t : Told) : Type 0 where
  pub name_is : t.name ≡ net.name
  pub lines_are : SameLines t.lines (lines_on_nets (layer_name library.layers) (net ∷ []) bars)
  pub shapes_are : map (named net.name) t.shapes ≡ shapes_by_name (net ∷ [])

-- those of a net of a design, which some of its statements tell, where these rectangles block routing
pub record IsToldIn (library : Library) (bars : List Barrier) (design : List Record) (net : List ℕ) (t : Told) : Type 0 where
  pub some : List Record
  pub tell : TellNet some design net
  pub told : IsTold library bars (net_named library design (scale design) net) t
