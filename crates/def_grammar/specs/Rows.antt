-- ROW (LEF/DEF 5.8 Language Reference, "Rows").
use Rattle.std.specs.Prelude.{ℕ, List, Option, codes, refl}
use Rattle.design_model.specs.declared.geometry.Orient.{Orient}
use Rattle.form_meanings.specs.Words.{is_plus}
use Rattle.form_meanings.specs.Meaning.{Seen}
use Rattle.statement_model.specs.Form.{Form, number, ◌▸◌, ◌◂◌, ◌⨟◌, many, seen, opt_on}
use Rattle.def_grammar.specs.Numbers.{is_count}
use Rattle.def_grammar.specs.Parts.{Coordinates, name, orient}
use Rattle.def_grammar.specs.Points.{two_numbers}
use Rattle.def_grammar.specs.Clauses.{KeptClause, kept_clause}

-- how often the site stands in x and in y, 0 or more, and how far apart
pub record SiteArray : Type 0 where
  pub columns : List ℕ
  pub rows : List ℕ
  pub step : Option Coordinates

abbrev pub as_site_array : Seen (List ℕ × (List ℕ × Option Coordinates)) SiteArray
as_site_array = record { to = λ p. record { columns = p.0; rows = p.1.0; step = p.1.1 }; from = λ a. (a.columns, (a.rows, a.step)); to_from = λ a. refl; from_to = λ p. refl }

-- int BY int [STEP int int], after DO
unfoldable pub site_array : Form SiteArray
site_array = seen as_site_array (number is_count ⨟ codes "BY" ▸ number is_count ⨟ opt_on (codes "STEP") two_numbers)

-- a row: its name and site, where its first site stands and how, its sites, and clauses without meaning
pub record Row : Type 0 where
  pub name : List ℕ
  pub site : List ℕ
  pub origin : Coordinates
  pub orient : Orient
  pub sites : Option SiteArray
  pub clauses : List KeptClause

abbrev pub as_row : Seen (List ℕ × (List ℕ × (Coordinates × (Orient × (Option SiteArray × List KeptClause))))) Row
as_row = record {
  to = λ p. record { name = p.0; site = p.1.0; origin = p.1.1.0; orient = p.1.1.1.0; sites = p.1.1.1.1.0; clauses = p.1.1.1.1.1 };
  from = λ r. (r.name, (r.site, (r.origin, (r.orient, (r.sites, r.clauses)))));
  to_from = λ r. refl;
  from_to = λ p. refl;
}

-- + word rest
unfoldable pub row_clause : Form KeptClause
row_clause = codes "+" ▸ kept_clause

-- name name int int o [DO int BY int [STEP int int]] (+ word rest)* ;, after ROW
unfoldable pub row_statement : Form Row
row_statement = seen as_row (name ⨟ name ⨟ two_numbers ⨟ orient ⨟ opt_on (codes "DO") site_array ⨟ many is_plus row_clause) ◂ codes ";"
