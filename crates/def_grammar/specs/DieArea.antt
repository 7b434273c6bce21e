-- DIEAREA (LEF/DEF 5.8 Language Reference, "Die Area").
use Rattle.std.specs.Prelude.{List, ◌∷◌, codes, refl}
use Rattle.form_meanings.specs.Meaning.{Seen}
use Rattle.statement_model.specs.Form.{Form, ◌◂◌, ◌⨟◌, many, seen}
use Rattle.def_grammar.specs.Parts.{Coordinates, point}
use Rattle.def_grammar.specs.Points.{is_open, in_row, later_point}

-- the area: two corners of a box, or three points and more of a polygon
pub record DieArea : Type 0 where
  pub first : Coordinates
  pub second : Coordinates
  pub others : List Coordinates

abbrev pub as_die_area : Seen (Coordinates × (Coordinates × List Coordinates)) DieArea
as_die_area = record { to = λ p. record { first = p.0; second = p.1.0; others = p.1.1 }; from = λ a. (a.first, (a.second, a.others)); to_from = λ a. refl; from_to = λ p. refl }

abbrev pub die_area_points : DieArea → List Coordinates
die_area_points a = in_row (a.first ∷ a.second ∷ a.others)

-- pt pt pt* ;, after DIEAREA
unfoldable pub die_area_statement : Form DieArea
die_area_statement = seen as_die_area (point ⨟ later_point ⨟ many is_open later_point) ◂ codes ";"
