-- Where routing is blocked, after an edit.
use Rattle.std.specs.Prelude.{◌≡◌, ◌<◌, ℕ, Bool, ◌&&◌, List, ◌++◌, Option, count_by, flat_map, map, nat_eq}
use Rattle.std.specs.Bool.{beq}
use Rattle.std.specs.List.{AllByRecursion}
use Rattle.std.specs.Ordering.{int_eq}
use Rattle.design_model.specs.Families.{cross_lines}
use Rattle.design_model.specs.Geometry.{Rectangle}
use Rattle.design_model.specs.declared.identifier.StmtId.{StmtId}
use Rattle.def_grammar.specs.Records.{Record}
use Rattle.lef_grammar.specs.Library.{Library}
use Rattle.connection_rules.specs.NetLines.{Barrier, routeblock_of, shapes_of_net}
use Rattle.connection_rules.specs.NetParts.{net_named}
use Rattle.design_rules.specs.Boxes.{scale}
use Rattle.line_laws.specs.Lines.{SameLines}
use Rattle.net_laws.specs.Blocked.{bars_in}
use Rattle.net_laws.specs.OneNet.{TellNet}
use Rattle.text_pieces.specs.KeptRecords.{record_of}
use Rattle.text_pieces.specs.Tables.{Kept, kept_at}
use Rattle.design_text.specs.Exchanges.{Exchanged}

-- the rectangles of the statements that are kept under some numbers
abbrev pub bars_under : Library → List (Option Kept) → List StmtId → List Barrier
bars_under library slots ids = bars_in library (map (λ id. record_of (kept_at slots id)) ids)

-- of those that went by exchanges, and of those that came, one exchange after the other
abbrev pub bars_gone : Library → List (Option Kept) → List Exchanged → List Barrier
bars_gone library slots xs = flat_map (λ (x : Exchanged). bars_under library slots x.went) xs

abbrev pub bars_come : Library → List (Option Kept) → List Exchanged → List Barrier
bars_come library slots xs = flat_map (λ (x : Exchanged). bars_under library slots x.came) xs

-- two rectangles are one
abbrev pub is_rectangle : Rectangle → Rectangle → Bool
is_rectangle a b = int_eq a.x1 b.x1 && (int_eq a.y1 b.y1 && (int_eq a.x2 b.x2 && int_eq a.y2 b.y2))

-- and on one layer, and both spare nets of power or neither
abbrev pub is_bar : Barrier → Barrier → Bool
is_bar a b = nat_eq a.layer b.layer && (beq a.spares_power b.spares_power && is_rectangle a.box b.box)

-- how often a rectangle stands among some
abbrev pub times_barred : Barrier → List Barrier → ℕ
times_barred b bars = count_by (is_bar b) bars

-- no rectangle both went and came
abbrev pub AreNotBoth : List Barrier → List Barrier → Type 0
AreNotBoth gone come = (b : Barrier) → 0 < times_barred b gone → times_barred b come ≡ 0

-- the lines of the shapes of a net of a design with some rectangles
abbrev pub barred_lines : (ℕ → List ℕ) → Library → List Record → List Barrier → List ℕ → List (List ℕ)
barred_lines name_of library design bars net = cross_lines (routeblock_of name_of) (shapes_of_net (net_named library design (scale design) net)) bars

-- each of some nets is told by some statements
abbrev pub AllTell : List Record → List (List ℕ) → Type 0
AllTell design names = AllByRecursion (λ (n : List ℕ). (some : List Record) × TellNet some design n) names

-- more lines stand behind others, in whatever order
pub record Adds (before more after : List (List ℕ)) : Type 0 where
  pub same : SameLines after (before ++ more)
