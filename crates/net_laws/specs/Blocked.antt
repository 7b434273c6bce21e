-- Where routing is blocked, and the lines of shapes of nets there, where statements of a design are exchanged.
use Rattle.std.specs.Prelude.{ℕ, List, ◌++◌, flat_map}
use Rattle.design_model.specs.Families.{cross_lines}
use Rattle.def_grammar.specs.Records.{Record}
use Rattle.lef_grammar.specs.Library.{Library}
use Rattle.connection_rules.specs.NetLines.{Barrier, barriers_of, routeblock_of, shapes_of_net}
use Rattle.connection_rules.specs.NetParts.{Net}
use Rattle.line_laws.specs.Lines.{SameThings}
use Rattle.following_laws.specs.DesignLaws.{lines_on_nets}
use Rattle.following_laws.specs.Following.{Exchange, LinesFollow}

-- the rectangles where some statements block routing
abbrev pub bars_in : Library → List Record → List Barrier
bars_in library some = flat_map (barriers_of library.layers) some

-- Where statements are exchanged, so are their rectangles.
abbrev pub BarsAreExchanged : Type 0
BarsAreExchanged = (library : Library) (front out put behind : List Record)
    → Exchange (bars_in library (front ++ (out ++ behind))) (bars_in library (front ++ (put ++ behind))) (bars_in library out) (bars_in library put) (bars_in library (front ++ behind))

-- in changes that were made one after the other some went and others came, where one that came may have gone later
pub record BarsChange (old new gone come : List Barrier) : Type 0 where
  pub same : SameThings (old ++ come) (new ++ gone)

-- With the same nets, the lines of their shapes with rectangles that go out go, and those with rectangles that come in come.
abbrev pub BarredLinesFollow : Type 0
BarredLinesFollow = (name_of : ℕ → List ℕ) (nets : List Net) (old new out put stay : List Barrier) → Exchange old new out put stay
    → LinesFollow (lines_on_nets name_of nets old) (lines_on_nets name_of nets new)
    (cross_lines (routeblock_of name_of) (flat_map shapes_of_net nets) out)
    (cross_lines (routeblock_of name_of) (flat_map shapes_of_net nets) put)
