-- Clauses of components of the program as those of the definitions, and which tokens they are.
use Rattle.std.specs.Prelude.{List}
use Rattle.design_model.specs.declared.geometry.Orient.{Orient}
use Rattle.form_meanings.specs.Words.{is_plus}
use Rattle.form_meanings.specs.Meaning.{items}
use Rattle.statement_model.specs.Form.{read}
use Rattle.def_grammar.specs.Parts.{Coordinates}
use Rattle.def_grammar.specs.Components.{Clause, placed, unplaced, region, other, clause}
use Rattle.statement_model.specs.Tokens.{Token}
use Rattle.lefdef_tokens.specs.Places.{RunAt, StandsAt, past}
use Rattle.lefdef_tokens.specs.Views.{rest_of, words_of}
use Rattle.statement_reader.specs.declared.parts.Parts.{Parts}
use Rattle.def_parts.specs.PointViews.{PointAt, point_view}
use Rattle.def_parts.specs.declared.point.Coordinates as code_point
use Rattle.place_parts.specs.declared.components.Clause as code
use Rattle.place_parts.specs.declared.components.Clause.TheVariants as clauses

abbrev pub spot_view : code_point.Coordinates × Orient → Coordinates × Orient
spot_view p = (point_view p.0, p.1)

abbrev pub clause_view : code.Clause → Clause
clause_view (clauses.Placed p) = placed p.status (point_view p.at) p.orient
clause_view (clauses.Unplaced rest) = unplaced (words_of rest)
clause_view (clauses.Region name) = region name.bytes.now
clause_view (clauses.Other w rest) = other w.bytes.now (words_of rest)

-- the clauses that are left
abbrev pub clauses_of : Parts code.Clause → List Clause
clauses_of parts = items parts.most is_plus (read clause) (rest_of parts.cursor)

-- of these tokens, the first is a clause's +
abbrev pub ClauseAt : List Token → code.Clause → Type 0
ClauseAt ps (clauses.Placed p) = PointAt (past 2 ps) p.at
ClauseAt ps (clauses.Unplaced rest) = RunAt (past 2 ps) rest
ClauseAt ps (clauses.Region name) = StandsAt (past 2 ps) name
ClauseAt ps (clauses.Other w rest) = StandsAt (past 1 ps) w × RunAt (past 2 ps) rest
