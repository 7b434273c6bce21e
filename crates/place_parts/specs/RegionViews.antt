-- Entries of REGIONS of the program as those of the definitions, and which tokens they are.
use Rattle.std.specs.Prelude.{ℕ, List}
use Rattle.form_meanings.specs.Words.{is_plus}
use Rattle.form_meanings.specs.Meaning.{items, spell_all}
use Rattle.statement_model.specs.Form.{read, spell}
use Rattle.statement_model.specs.Tokens.{Token}
use Rattle.def_grammar.specs.Points.{Corners, is_open}
use Rattle.def_grammar.specs.Regions.{Region, RegionClause, RegionKind, fence, guide, later_corners, region_clause, region_kept, region_type}
use Rattle.lefdef_tokens.specs.Places.{StandsAt, behind, past}
use Rattle.lefdef_tokens.specs.Views.{rest_of}
use Rattle.statement_reader.specs.PartViews.{PartsAt}
use Rattle.statement_reader.specs.declared.parts.Parts.{Parts}
use Rattle.def_parts.specs.ClauseViews.{KeptAt, kept_view}
use Rattle.def_parts.specs.PointViews.{CornersAt, corners_view}
use Rattle.place_parts.specs.declared.regions.LaterCorners.{LaterCorners}
use Rattle.place_parts.specs.declared.regions.RegionClause as code
use Rattle.place_parts.specs.declared.regions.RegionClause.TheVariants as clauses
use Rattle.place_parts.specs.declared.regions.RegionKind as code_kind
use Rattle.place_parts.specs.declared.regions.RegionKind.TheVariants.{Fence, Guide}
use Rattle.place_parts.specs.declared.regions.RegionParts.{RegionParts}

abbrev pub region_kind_view : code_kind.RegionKind → RegionKind
region_kind_view Fence = fence
region_kind_view Guide = guide

abbrev pub region_clause_view : code.RegionClause → RegionClause
region_clause_view (clauses.Kind kind) = region_type (region_kind_view kind)
region_clause_view (clauses.Kept kept) = region_kept (kept_view kept)

abbrev pub later_corners_view : LaterCorners → Corners
later_corners_view c = corners_view c.corners

-- the rectangles that are left
abbrev pub later_corners_of : Parts LaterCorners → List Corners
later_corners_of parts = items parts.most is_open (read later_corners) (rest_of parts.cursor)

-- the clauses that are left
abbrev pub region_clauses_of : Parts code.RegionClause → List RegionClause
region_clauses_of parts = items parts.most is_plus (read region_clause) (rest_of parts.cursor)

abbrev pub region_view : RegionParts → Region
region_view r = record { name = r.name.bytes.now; first = corners_view r.first; others = later_corners_of r.others; clauses = region_clauses_of r.clauses }

-- the words of these rectangles
abbrev pub rectangle_words : List Corners → List (List ℕ)
rectangle_words all = spell_all (spell later_corners) all

-- a clause without its + begins with the first of these tokens
abbrev pub RegionBodyAt : List Token → code.RegionClause → Type 0
RegionBodyAt ps (clauses.Kind kind) = Unit {0}
RegionBodyAt ps (clauses.Kept kept) = KeptAt ps kept

-- of these tokens, the first is a clause's +
abbrev pub RegionClauseAt : List Token → code.RegionClause → Type 0
RegionClauseAt ps c = RegionBodyAt (past 1 ps) c

-- a rectangle begins with the first of these tokens
abbrev pub LaterCornersAt : List Token → LaterCorners → Type 0
LaterCornersAt ps c = CornersAt ps c.corners

-- of these tokens, the first is an entry's -, the second its name, and the next eight its first rectangle; its clauses
-- begin behind its other rectangles
abbrev pub RegionPartsAt : List Token → RegionParts → Type 0
RegionPartsAt ps r = StandsAt (past 1 ps) r.name × CornersAt (past 2 ps) r.first × PartsAt (past 10 ps) r.others × PartsAt (behind (rectangle_words (later_corners_of r.others)) (past 10 ps)) r.clauses
