-- Laws of the lines of a design that follow a change of it.
use Rattle.std.specs.Prelude.{◌≡◌, ℕ, List, ◌++◌, flat_map}
use Rattle.design_model.specs.Families.{cross_lines, pair_lines}
use Rattle.design_model.specs.Geometry.{Rectangle}
use Rattle.def_grammar.specs.Records.{Record}
use Rattle.lef_grammar.specs.Library.{Library}
use Rattle.connection_rules.specs.NetLines.{Barrier, class_lines, net_lines, routeblock_of, shapes_of_net, short_of}
use Rattle.connection_rules.specs.NetParts.{Net}
use Rattle.design_rules.specs.Boxes.{Boxed, scale}
use Rattle.design_rules.specs.CountLines.{count_lines}
use Rattle.design_rules.specs.OverlapLines.{overlap_lines, overlap_of}
use Rattle.design_rules.specs.PlaceLines.{blocked_of, lines_in, place_lines}
use Rattle.design_rules.specs.Surroundings.{Surroundings}
use Rattle.line_laws.specs.OneLaws.{component_lines}
use Rattle.line_laws.specs.PairLaws.{IsSymmetric}
use Rattle.report_rules.specs.Diagnostics.{all_lines, statement_lines}
use Rattle.agreement_laws.specs.Agreement.{all_shown}
use Rattle.following_laws.specs.Following.{Exchange, LinesFollow}

-- Where statements go out of a design and others come in at their place, and its entries show the same, the lines on single statements
-- follow by those that go and those that come, which the design before tells.
abbrev pub StatementsFollow : Type 0
StatementsFollow = (library : Library) (front out put behind : List Record) → let old = front ++ (out ++ behind) in let new = front ++ (put ++ behind) in
    all_shown old ≡ all_shown new
    → LinesFollow (flat_map (statement_lines library old) old) (flat_map (statement_lines library new) new)
    (flat_map (statement_lines library old) out)
    (flat_map (statement_lines library old) put)

-- the lines on some components of a design, with one another and with the rest, and on each of them in its surroundings; and the lines
-- on the rest that some of the rectangles which keep components out make
abbrev pub lines_of_components : Surroundings → List Boxed → List Boxed → List Rectangle → List Rectangle → List (List ℕ)
lines_of_components s some rest keep_outs changed =
    (pair_lines overlap_of some ++ cross_lines overlap_of some rest) ++ (flat_map (lines_in s) some ++ (cross_lines blocked_of some keep_outs ++ cross_lines blocked_of rest changed))

-- In the same surroundings the lines on components follow an exchange of components and of rectangles that keep them out.
abbrev pub ComponentLinesFollow : Type 0
ComponentLinesFollow = (s : Surroundings) (old new out put stay : List Boxed) (old' new' out' put' stay' : List Rectangle)
    → Exchange old new out put stay → Exchange old' new' out' put' stay'
    → LinesFollow (component_lines s old' old) (component_lines s new' new) (lines_of_components s out stay old' out') (lines_of_components s put stay new' put')

-- the lines on nets, by the names of layers
abbrev pub lines_on_nets : (ℕ → List ℕ) → List Net → List Barrier → List (List ℕ)
lines_on_nets name_of nets barriers =
    let shapes = flat_map shapes_of_net nets in pair_lines (short_of name_of) shapes ++ (cross_lines (routeblock_of name_of) shapes barriers ++ flat_map class_lines nets)

-- the lines on some nets of a design, with one another and with the rest, and on each of them; and the lines on the rest that some of
-- the barriers make
abbrev pub lines_of_nets : (ℕ → List ℕ) → List Net → List Net → List Barrier → List Barrier → List (List ℕ)
lines_of_nets name_of some rest barriers changed =
    let shapes = flat_map shapes_of_net some in let others = flat_map shapes_of_net rest in
    (pair_lines (short_of name_of) shapes ++ cross_lines (short_of name_of) shapes others)
    ++ ((cross_lines (routeblock_of name_of) shapes barriers ++ cross_lines (routeblock_of name_of) others changed) ++ flat_map class_lines some)

-- The lines on nets follow an exchange of nets and of barriers, as those of two shapes don't hang on which is first.
abbrev pub NetLinesFollow : Type 0
NetLinesFollow = (name_of : ℕ → List ℕ) (old new out put stay : List Net) (old' new' out' put' stay' : List Barrier)
    → IsSymmetric (short_of name_of) → Exchange old new out put stay → Exchange old' new' out' put' stay'
    → LinesFollow (lines_on_nets name_of old old') (lines_on_nets name_of new new') (lines_of_nets name_of out stay old' out') (lines_of_nets name_of put stay new' put')

-- lines that follow, family by family: those on headers, those on single statements, those on components, and those on nets
pub record FamiliesFollow (library : Library) (old new : List Record) : Type 0 where
  pub counts_out : List (List ℕ)
  pub counts_put : List (List ℕ)
  pub counts : LinesFollow (count_lines old) (count_lines new) counts_out counts_put
  pub statements_out : List (List ℕ)
  pub statements_put : List (List ℕ)
  pub statements : LinesFollow (flat_map (statement_lines library old) old) (flat_map (statement_lines library new) new) statements_out statements_put
  pub places_out : List (List ℕ)
  pub places_put : List (List ℕ)
  pub places : LinesFollow (overlap_lines library old ++ place_lines library old) (overlap_lines library new ++ place_lines library new) places_out places_put
  pub nets_out : List (List ℕ)
  pub nets_put : List (List ℕ)
  pub nets : LinesFollow (net_lines library old (scale old)) (net_lines library new (scale new)) nets_out nets_put

-- All lines of a report follow where those of its families do; those on the library stay.
abbrev pub DiagnosticsFollow : Type 0
DiagnosticsFollow = (library : Library) (old new : List Record) (f : FamiliesFollow library old new)
    → LinesFollow (all_lines library old) (all_lines library new)
    (f.counts_out ++ (f.statements_out ++ (f.places_out ++ f.nets_out)))
    (f.counts_put ++ (f.statements_put ++ (f.places_put ++ f.nets_put)))
