-- Rows of the program as those of the definitions, and which tokens they are.
use Rattle.std.specs.Prelude.{ℕ, List, Option, IfSome, codes}
use Rattle.std.specs.Option.{option_map}
use Rattle.form_meanings.specs.Words.{is_plus}
use Rattle.form_meanings.specs.Meaning.{items}
use Rattle.statement_model.specs.Form.{opt_on, read, spell}
use Rattle.statement_model.specs.Tokens.{Token}
use Rattle.def_grammar.specs.Parts.{Coordinates}
use Rattle.def_grammar.specs.Clauses.{KeptClause}
use Rattle.def_grammar.specs.Rows.{Row, SiteArray, row_clause, site_array}
use Rattle.lefdef_tokens.specs.Places.{StandsAt, behind, past}
use Rattle.lefdef_tokens.specs.Views.{rest_of}
use Rattle.statement_reader.specs.PartViews.{PartsAt}
use Rattle.statement_reader.specs.declared.parts.Parts.{Parts}
use Rattle.def_parts.specs.ClauseViews.{KeptAt, kept_view}
use Rattle.def_parts.specs.PointViews.{NumbersAt, point_view}
use Rattle.def_parts.specs.declared.point.Coordinates as code_point
use Rattle.place_parts.specs.declared.rows.RowClause.{RowClause}
use Rattle.place_parts.specs.declared.rows.RowParts.{RowParts}
use Rattle.place_parts.specs.declared.rows.SiteArray as code

abbrev pub step_view : Option code_point.Coordinates → Option Coordinates
step_view step = option_map point_view step

abbrev pub site_array_view : code.SiteArray → SiteArray
site_array_view a = record { columns = a.columns.bytes.now; rows = a.rows.bytes.now; step = step_view a.step }

abbrev pub sites_view : Option code.SiteArray → Option SiteArray
sites_view sites = option_map site_array_view sites

abbrev pub row_clause_view : RowClause → KeptClause
row_clause_view c = kept_view c.kept

-- the clauses that are left
abbrev pub row_clauses_of : Parts RowClause → List KeptClause
row_clauses_of parts = items parts.most is_plus (read row_clause) (rest_of parts.cursor)

abbrev pub row_view : RowParts → Row
row_view r = record {
  name = r.name.bytes.now;
  site = r.site.bytes.now;
  origin = point_view r.origin;
  orient = r.orient;
  sites = sites_view r.sites;
  clauses = row_clauses_of r.clauses;
}

-- the numbers behind STEP
abbrev pub StepAt : List Token → Option code_point.Coordinates → Type 0
StepAt ps step = IfSome step (λ p. NumbersAt (past 1 ps) p)

-- columns BY rows, and the step
abbrev pub SiteArrayAt : List Token → code.SiteArray → Type 0
SiteArrayAt ps a = StandsAt ps a.columns × StandsAt (past 2 ps) a.rows × StepAt (past 3 ps) a.step

-- what stands behind DO
abbrev pub SitesAt : List Token → Option code.SiteArray → Type 0
SitesAt ps sites = IfSome sites (λ a. SiteArrayAt (past 1 ps) a)

-- of these tokens, the first is a clause's +
abbrev pub RowClauseAt : List Token → RowClause → Type 0
RowClauseAt ps c = KeptAt (past 1 ps) c.kept

-- the words of a row's sites, from DO
abbrev pub site_words : Option SiteArray → List (List ℕ)
site_words sites = spell (opt_on (codes "DO") site_array) sites

-- of these tokens, the first is a row's name, the second its site, the next two its origin, and the fifth its orientation;
-- its clauses begin behind its sites
abbrev pub RowPartsAt : List Token → RowParts → Type 0
RowPartsAt ps r = StandsAt ps r.name × StandsAt (past 1 ps) r.site × NumbersAt (past 2 ps) r.origin × SitesAt (past 5 ps) r.sites × PartsAt (behind (site_words (sites_view r.sites)) (past 5 ps)) r.clauses
