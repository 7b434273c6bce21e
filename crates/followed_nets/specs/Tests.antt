-- How many pairs of shapes are compared at most for the lines on nets that an edit changes.
use Rattle.std.specs.Prelude.{ℕ, ◌+◌, ◌*◌, ◌≤◌, List, ◌++◌, map, sum_by}
use Rattle.def_grammar.specs.Records.{Record}
use Rattle.lef_grammar.specs.Library.{Library}
use Rattle.lef_grammar.specs.Measures.{Shape}
use Rattle.connection_rules.specs.NetLines.{Barrier, NetShape, barriers, net_shapes, shapes_of_net}
use Rattle.connection_rules.specs.NetParts.{net_named}
use Rattle.design_rules.specs.Boxes.{scale}
use Rattle.net_laws.specs.Blocked.{BarsChange}
use Rattle.net_checks.specs.NearWithin.{near_themselves}
use Rattle.shape_index.specs.Near.{near_shapes}
use Rattle.followed_nets.specs.Blocked.{AreNotBoth}
use Rattle.followed_nets.specs.Told.{Told}

-- the shapes of nets by themselves
abbrev pub plain : List NetShape → List Shape
plain shapes = map (λ (n : NetShape). n.shape) shapes

-- how many of some shapes are near each of others
abbrev pub near_each : List Shape → List NetShape → ℕ
near_each own shapes = sum_by (λ (s : Shape). near_shapes s (plain shapes)) own

-- so of what is told
abbrev pub near_told : List Told → List NetShape → ℕ
near_told ts shapes = sum_by (λ (t : Told). near_each t.shapes shapes) ts

-- so of what is told, each net by itself
abbrev pub near_own : List Told → ℕ
near_own ts = sum_by (λ (t : Told). near_themselves t.shapes) ts

-- so of the nets of some names in a design, with the shapes of all nets
abbrev pub near_pairs : Library → List Record → List (List ℕ) → ℕ
near_pairs library design names =
    sum_by (λ (name : List ℕ). sum_by (λ (s : Shape). near_shapes s (map (λ n. n.shape) (net_shapes library design (scale design)))) (map (λ n. n.shape) (shapes_of_net (net_named library design (scale design) name)))) names

-- a rectangle as a shape of its layer
abbrev pub bar_shape : Barrier → Shape
bar_shape b = record { layer = b.layer; box = b.box }

-- how many of some shapes are near each of some rectangles
abbrev pub near_barred : List Barrier → List NetShape → ℕ
near_barred bars shapes = near_each (map bar_shape bars) shapes

-- so of the shapes of all nets of a design
abbrev pub near_bars : Library → List Record → List Barrier → ℕ
near_bars library design bars = sum_by (λ (b : Barrier). near_shapes (bar_shape b) (map (λ n. n.shape) (net_shapes library design (scale design)))) bars

-- Rectangles went or came, none of which did both, and were compared with those of these shapes that are near them, after other tests.
pub record FewBarred (library : Library) (old new : List Record) (shapes : List NetShape) (before tests : ℕ) : Type 0 where
  pub gone : List Barrier
  pub come : List Barrier
  pub changed : BarsChange (barriers library old (scale old)) (barriers library new (scale new)) gone come
  pub apart : AreNotBoth gone come
  pub few : tests ≤ before + near_barred (gone ++ come) shapes

-- Shapes of nets of these names are compared with shapes near them, as they were and as they are then, and each time twice: with those of the
-- same net, to find how its parts hang together, and with those of other nets. So are rectangles that went or came, none of which did both, with
-- the shapes of all nets, as they are then.
pub record FewTests (library : Library) (old new : List Record) (names : List (List ℕ)) (tests : ℕ) : Type 0 where
  pub gone : List Barrier
  pub come : List Barrier
  pub changed : BarsChange (barriers library old (scale old)) (barriers library new (scale new)) gone come
  pub apart : AreNotBoth gone come
  pub few : tests ≤ 2 * (near_pairs library old names + near_pairs library new names) + near_bars library new (gone ++ come)
