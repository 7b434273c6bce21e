-- What components stand in: rows of sites, the die, fences, and rectangles where placement is blocked (LEF/DEF 5.8 Language
-- Reference, "Rows", "Die Area", "Regions", "Groups" and "Blockages"). Which of them count is (own).
use Rattle.std.specs.Prelude.{ℕ, Bool, true, false, not, ◌&&◌, List, [], ◌∷◌, map, flat_map, Option, Some, None, pos, nat_abs, codes, if◌then◌else◌}
use Rattle.std.specs.List.{filter_map, list_any}
use Rattle.std.specs.Option.{option_map}
use Rattle.std.specs.Str.{bytes_eq}
use Rattle.design_model.specs.declared.geometry.Orient.{Orient}
use Rattle.design_model.specs.declared.geometry.Point.{Point}
use Rattle.design_model.specs.Geometry.{Rectangle}
use Rattle.design_model.specs.Units.{nearest}
use Rattle.form_meanings.specs.Words.{◌>>=◌, first}
use Rattle.def_grammar.specs.Numbers.{int_of}
use Rattle.def_grammar.specs.Parts.{Coordinates}
use Rattle.def_grammar.specs.Points.{place_of, rectangles_of}
use Rattle.def_grammar.specs.Rows.{Row, SiteArray}
use Rattle.def_grammar.specs.DieArea.{DieArea, die_area_points}
use Rattle.def_grammar.specs.Regions.{Region, RegionClause, RegionKind, fence, region_type, region_points}
use Rattle.def_grammar.specs.Groups.{region_named}
use Rattle.def_grammar.specs.Blockages.{Blockage, blocks}
use Rattle.def_grammar.specs.Top.{row, die_area}
use Rattle.def_grammar.specs.Records as records
use Rattle.def_grammar.specs.Records.{Record, top, entry}
use Rattle.lef_grammar.specs.Definitions.{Distances, Site}
use Rattle.form_meanings.specs.Firsts.{first_of}
use Rattle.lef_grammar.specs.Library.{Library, site_named}
use Rattle.entry_rules.specs.Blocked.{blocked_rectangles, is_of_placement, is_spared}
use Rattle.place_rules.specs.Sites.{SiteRow, turned_size}
use Rattle.design_rules.specs.Boxes.{scale}

-- a row: the name of its site, how it is turned, and its sites as they then stand
pub record PlacedRow : Type 0 where
  pub site : List ℕ
  pub orient : Orient
  pub sites : SiteRow

-- a width and a height in database units, 0 by 0 where there is no SIZE
abbrev pub size_in : ℕ → Option Distances → Point
size_in u None = record { x = pos 0; y = pos 0 }
size_in u (Some size) = record { x = nearest size.0 u; y = nearest size.1 u }

-- a site without SIZE, or that isn't defined, is 0 by 0
abbrev pub site_size : Library → ℕ → List ℕ → Point
site_size library u name = size_in u (site_named library name >>= λ (s : Site). s.size)

-- a row without DO has one site; one without STEP has sites that touch
abbrev pub columns_of : Option SiteArray → ℕ
columns_of None = 1
columns_of (Some a) = nat_abs (int_of a.columns)

abbrev pub lines_of : Option SiteArray → ℕ
lines_of None = 1
lines_of (Some a) = nat_abs (int_of a.rows)

abbrev pub step_of : Point → Option Coordinates → Point
step_of size None = size
step_of size (Some step) = place_of step

abbrev pub placed_row : Library → ℕ → Row → PlacedRow
placed_row library u r =
    let size = turned_size r.orient (site_size library u r.site) in
    record {
      site = r.site;
      orient = r.orient;
      sites = record { origin = place_of r.origin; columns = columns_of r.sites; rows = lines_of r.sites; step = step_of size (r.sites >>= λ (a : SiteArray). a.step); size = size };
    }

abbrev pub row_of : Record → Option Row
row_of (top (row r)) = Some r
row_of _ = None

abbrev pub placed_rows : Library → List Record → List PlacedRow
placed_rows library design = map (placed_row library (scale design)) (filter_map row_of design)

abbrev pub is_box : List Coordinates → Bool
is_box [] = true
is_box _ = false

-- the die, where its area is a rectangle, of two points
abbrev pub two_points : DieArea → Option Rectangle
two_points a = first (if is_box a.others then rectangles_of (die_area_points a) else [])

abbrev pub die_of : Record → Option Rectangle
die_of (top (die_area a)) = two_points a
die_of _ = None

abbrev pub die : List Record → Option Rectangle
die design = first (filter_map die_of design)

-- a region of TYPE FENCE: its name and its rectangles. One without TYPE, or of TYPE GUIDE, gives no line.
pub record Fence : Type 0 where
  pub name : List ℕ
  pub rectangles : List Rectangle

abbrev pub type_of : RegionClause → Option RegionKind
type_of (region_type kind) = Some kind
type_of _ = None

abbrev pub fence_of_kind : Region → Option RegionKind → Option Fence
fence_of_kind r (Some fence) = Some (record { name = r.name; rectangles = rectangles_of (region_points r) })
fence_of_kind r _ = None

abbrev pub fence_of : Record → Option Fence
fence_of (entry (records.region r)) = fence_of_kind r (first_of type_of r.clauses)
fence_of _ = None

abbrev pub fences : List Record → List Fence
fences design = filter_map fence_of design

-- the components that a group assigns to a region, by the patterns of their names
pub record Assignment : Type 0 where
  pub region : List ℕ
  pub patterns : List (List ℕ)

abbrev pub assignment_of : Record → Option Assignment
assignment_of (entry (records.group g)) = option_map (λ name. record { region = name; patterns = g.patterns }) (first_of region_named g.clauses)
assignment_of _ = None

abbrev pub assignments : List Record → List Assignment
assignments design = filter_map assignment_of design

-- the rectangles where an entry blocks placement
abbrev pub kept_out : Blockage → List Rectangle
kept_out b = if is_of_placement b.kind && not (is_spared b) then blocked_rectangles b else []

abbrev pub keep_out_of : Record → List Rectangle
keep_out_of (entry (records.blockage (blocks b))) = kept_out b
keep_out_of _ = []

abbrev pub keep_outs : List Record → List Rectangle
keep_outs design = flat_map keep_out_of design

-- all that stands round components but for them and for what keeps them out
pub record Surroundings : Type 0 where
  pub rows : List PlacedRow
  pub die : Option Rectangle
  pub fences : List Fence
  pub assignments : List Assignment

abbrev pub surroundings : Library → List Record → Surroundings
surroundings library design = record { rows = placed_rows library design; die = die design; fences = fences design; assignments = assignments design }
