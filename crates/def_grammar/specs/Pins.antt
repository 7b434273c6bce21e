-- The section PINS (LEF/DEF 5.8 Language Reference, "Pins").
use Rattle.std.specs.Prelude.{◌⊎◌, ℕ, List, Option, codes, refl, Some, None}
use Rattle.std.proofs.Common.{inl, inr}
use Rattle.design_model.specs.declared.geometry.Orient.{Orient}
use Rattle.design_model.specs.declared.geometry.Status.{Status}
use Rattle.form_meanings.specs.Words.{is_plus, is_stop}
use Rattle.form_meanings.specs.Meaning.{Seen}
use Rattle.statement_model.specs.Form.{Form, empty, ◌▸◌, ◌◂◌, ◌⨟◌, closed, alt, many, seen, on}
use Rattle.def_grammar.specs.Parts.{Coordinates, name, int, rest, point}
use Rattle.def_grammar.specs.Components.{is_status, placement}
use Rattle.def_grammar.specs.Points.{Corners, corners}
use Rattle.def_grammar.specs.Clauses.{mask, KeptClause, kept_clause}

-- what a shape of a pin says of its distance to others
abbrev pub Clearance : Type 0
Clearance = List ℕ ⊎ (List ℕ ⊎ Unit {0})

pattern abbrev pub spacing : List ℕ → Clearance
spacing n = inl n

pattern abbrev pub design_rule_width : List ℕ → Clearance
design_rule_width n = inr (inl n)

pattern abbrev pub no_clearance : Clearance
no_clearance = inr (inr tt)

-- [SPACING int | DESIGNRULEWIDTH int]
unfoldable pub clearance : Form Clearance
clearance = on (codes "SPACING") int (on (codes "DESIGNRULEWIDTH") int empty)

-- a rectangle of a pin on a layer
pub record PinRectangle : Type 0 where
  pub layer : List ℕ
  pub mask : Option (List ℕ)
  pub clearance : Clearance
  pub corners : Corners

abbrev pub as_pin_rectangle : Seen (List ℕ × (Option (List ℕ) × (Clearance × Corners))) PinRectangle
as_pin_rectangle = record {
  to = λ p. record { layer = p.0; mask = p.1.0; clearance = p.1.1.0; corners = p.1.1.1 };
  from = λ s. (s.layer, (s.mask, (s.clearance, s.corners)));
  to_from = λ s. refl;
  from_to = λ p. refl;
}

-- name [MASK word] [SPACING int | DESIGNRULEWIDTH int] pt pt, after LAYER
unfoldable pub pin_rectangle : Form PinRectangle
pin_rectangle = seen as_pin_rectangle (name ⨟ mask ⨟ clearance ⨟ corners)

-- a via of a pin
pub record PinVia : Type 0 where
  pub name : List ℕ
  pub mask : Option (List ℕ)
  pub at : Coordinates

abbrev pub as_pin_via : Seen (List ℕ × (Option (List ℕ) × Coordinates)) PinVia
as_pin_via = record { to = λ p. record { name = p.0; mask = p.1.0; at = p.1.1 }; from = λ v. (v.name, (v.mask, v.at)); to_from = λ v. refl; from_to = λ p. refl }

-- name [MASK word] pt, after VIA
unfoldable pub pin_via : Form PinVia
pin_via = seen as_pin_via (name ⨟ mask ⨟ point)

-- a clause of an entry, without its +: a placement, a net, the begin of a port, a shape, or one without meaning
abbrev pub PinClause : Type 0
PinClause = (Status × (Coordinates × Orient)) ⊎ (List ℕ ⊎ (Unit {0} ⊎ (PinRectangle ⊎ (PinVia ⊎ ((List ℕ × List (List ℕ)) ⊎ KeptClause)))))

pattern abbrev pub pin_placed : Status → Coordinates → Orient → PinClause
pin_placed status at o = inl (status, (at, o))

pattern abbrev pub pin_net : List ℕ → PinClause
pin_net name = inr (inl name)

pattern abbrev pub pin_port : PinClause
pin_port = inr (inr (inl tt))

pattern abbrev pub pin_has_rectangle : PinRectangle → PinClause
pin_has_rectangle rectangle = inr (inr (inr (inl rectangle)))

pattern abbrev pub pin_has_via : PinVia → PinClause
pin_has_via via = inr (inr (inr (inr (inl via))))

-- a polygon, by its layer, whose other tokens mean nothing
pattern abbrev pub pin_has_polygon : List ℕ → List (List ℕ) → PinClause
pin_has_polygon layer rest = inr (inr (inr (inr (inr (inl (layer, rest))))))

pattern abbrev pub pin_kept : KeptClause → PinClause
pin_kept clause = inr (inr (inr (inr (inr (inr clause)))))

-- LAYER .., VIA .., POLYGON name rest, or word rest
unfoldable pub pin_shape : Form (PinRectangle ⊎ (PinVia ⊎ ((List ℕ × List (List ℕ)) ⊎ KeptClause)))
pin_shape = on (codes "LAYER") pin_rectangle (on (codes "VIA") pin_via (on (codes "POLYGON") (name ⨟ rest) kept_clause))

-- PLACED pt o, FIXED pt o, COVER pt o, NET name, PORT, a shape, or word rest
abbrev pub pin_clause_body : Form PinClause
pin_clause_body = alt is_status placement (on (codes "NET") name (on (codes "PORT") empty pin_shape))

-- one of them, after a + and before a + or ;
unfoldable pub pin_clause : Form PinClause
pin_clause = codes "+" ▸ closed is_stop pin_clause_body

-- an entry: its name, and its clauses in order
pub record Pin : Type 0 where
  pub name : List ℕ
  pub clauses : List PinClause

abbrev pub as_pin : Seen (List ℕ × List PinClause) Pin
as_pin = record { to = λ p. record { name = p.0; clauses = p.1 }; from = λ a. (a.name, a.clauses); to_from = λ a. refl; from_to = λ p. refl }

-- - name (+ clause)* ;
unfoldable pub pin_form : Form Pin
pin_form = seen as_pin (codes "-" ▸ name ⨟ many is_plus pin_clause ◂ codes ";")

-- the net that one clause names
abbrev pub net_of_clause : PinClause → Option (List ℕ)
net_of_clause (pin_net name) = Some name
net_of_clause _ = None
