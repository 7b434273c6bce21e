-- The section REGIONS (LEF/DEF 5.8 Language Reference, "Regions").
use Rattle.std.specs.Prelude.{◌⊎◌, ℕ, List, [], ◌∷◌, codes, refl}
use Rattle.std.proofs.Common.{inl, inr}
use Rattle.form_meanings.specs.Words.{is_plus, is_stop}
use Rattle.form_meanings.specs.Meaning.{Seen}
use Rattle.statement_model.specs.Form.{Form, one_of, ◌▸◌, ◌◂◌, ◌⨟◌, closed, many, seen, on}
use Rattle.def_grammar.specs.Parts.{Coordinates, name}
use Rattle.def_grammar.specs.Points.{is_open, in_row, later_point, Corners, as_corners, corners}
use Rattle.def_grammar.specs.Clauses.{KeptClause, kept_clause}

-- what a region is to its components
pub data RegionKind : Type 0 where
  fence : RegionKind
  guide : RegionKind

unfoldable pub region_kind_word : RegionKind → List ℕ
region_kind_word fence = codes "FENCE"
region_kind_word guide = codes "GUIDE"

abbrev pub region_kinds : List RegionKind
region_kinds = fence ∷ guide ∷ []

-- a clause of an entry, without its +
abbrev pub RegionClause : Type 0
RegionClause = RegionKind ⊎ KeptClause

pattern abbrev pub region_type : RegionKind → RegionClause
region_type kind = inl kind

pattern abbrev pub region_kept : KeptClause → RegionClause
region_kept clause = inr clause

-- TYPE FENCE|GUIDE, or word rest, each after a + and before a + or ;
unfoldable pub region_clause : Form RegionClause
region_clause = codes "+" ▸ closed is_stop (on (codes "TYPE") (one_of region_kind_word region_kinds) kept_clause)

-- an entry: its name, its rectangles, whose corners are one row of points, and its clauses
pub record Region : Type 0 where
  pub name : List ℕ
  pub first : Corners
  pub others : List Corners
  pub clauses : List RegionClause

abbrev pub as_region : Seen (List ℕ × (Corners × (List Corners × List RegionClause))) Region
as_region = record {
  to = λ p. record { name = p.0; first = p.1.0; others = p.1.1.0; clauses = p.1.1.1 };
  from = λ r. (r.name, (r.first, (r.others, r.clauses)));
  to_from = λ r. refl;
  from_to = λ p. refl;
}

-- the corners of rectangles as they are written, two for each
abbrev pub written_corners : List Corners → List Coordinates
written_corners [] = []
written_corners (c ∷ all) = c.first ∷ c.second ∷ written_corners all

-- the corners of a region, two for each of its rectangles, without *
abbrev pub region_points : Region → List Coordinates
region_points r = in_row (written_corners (r.first ∷ r.others))

-- pt pt, after another point
unfoldable pub later_corners : Form Corners
later_corners = seen as_corners (later_point ⨟ later_point)

-- - name (pt pt)+ (+ clause)* ;
unfoldable pub region_form : Form Region
region_form = seen as_region (codes "-" ▸ name ⨟ corners ⨟ many is_open later_corners ⨟ many is_plus region_clause ◂ codes ";")
