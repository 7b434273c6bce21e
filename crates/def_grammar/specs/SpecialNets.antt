-- The section SPECIALNETS (LEF/DEF 5.8 Language Reference, "Special Nets").
use Rattle.std.specs.Prelude.{◌⊎◌, ℕ, List, ◌∷◌, codes, refl}
use Rattle.std.proofs.Common.{inl, inr}
use Rattle.form_meanings.specs.Words.{is_plain, is_plus, is_stop, is_semicolon}
use Rattle.form_meanings.specs.Meaning.{Seen}
use Rattle.statement_model.specs.Form.{Form, word, upto, ◌▸◌, ◌◂◌, ◌⨟◌, closed, many, or_else, seen, on}
use Rattle.def_grammar.specs.Parts.{Coordinates, name, point}
use Rattle.def_grammar.specs.Points.{is_open, in_row, later_point, Corners, corners, Polygon, polygon}
use Rattle.def_grammar.specs.Clauses.{KeptClause, kept_clause}
use Rattle.def_grammar.specs.Terminals.{Terminal, terminal}
use Rattle.def_grammar.specs.Wiring.{WireVia, wire_via, SpecialWiring, special_wiring}

-- a via at one point and more
pub record PlacedVia : Type 0 where
  pub via : WireVia
  pub first : Coordinates
  pub others : List Coordinates

abbrev pub as_placed_via : Seen (WireVia × (Coordinates × List Coordinates)) PlacedVia
as_placed_via = record { to = λ p. record { via = p.0; first = p.1.0; others = p.1.1 }; from = λ v. (v.via, (v.first, v.others)); to_from = λ v. refl; from_to = λ p. refl }

-- where its vias stand, without *
abbrev pub via_points : PlacedVia → List Coordinates
via_points v = in_row (v.first ∷ v.others)

-- name [o] pt+, after VIA
unfoldable pub placed_via : Form PlacedVia
placed_via = seen as_placed_via (wire_via ⨟ point ⨟ many is_open later_point)

-- a rectangle on a layer, a via, a polygon on a layer, or a path
abbrev pub SpecialShape : Type 0
SpecialShape = (List ℕ × Corners) ⊎ (PlacedVia ⊎ ((List ℕ × Polygon) ⊎ SpecialWiring))

-- a clause that has its form: the use of the net, a shape or a mask by itself, or wiring
abbrev pub SpecialListed : Type 0
SpecialListed = List ℕ ⊎ (List ℕ ⊎ (List ℕ ⊎ SpecialShape))

-- a clause of an entry, without its +. SUBNET takes all tokens up to the ;.
abbrev pub SpecialClause : Type 0
SpecialClause = List (List ℕ) ⊎ (SpecialListed ⊎ KeptClause)

pattern abbrev pub special_subnet : List (List ℕ) → SpecialClause
special_subnet tokens = inl tokens

pattern abbrev pub special_use : List ℕ → SpecialClause
special_use word = inr (inl (inl word))

pattern abbrev pub special_shape_word : List ℕ → SpecialClause
special_shape_word word = inr (inl (inr (inl word)))

pattern abbrev pub special_mask : List ℕ → SpecialClause
special_mask word = inr (inl (inr (inr (inl word))))

pattern abbrev pub special_rectangle : List ℕ → Corners → SpecialClause
special_rectangle layer corners = inr (inl (inr (inr (inr (inl (layer, corners))))))

pattern abbrev pub special_vias : PlacedVia → SpecialClause
special_vias via = inr (inl (inr (inr (inr (inr (inl via))))))

pattern abbrev pub special_polygon : List ℕ → Polygon → SpecialClause
special_polygon layer polygon = inr (inl (inr (inr (inr (inr (inr (inl (layer, polygon))))))))

pattern abbrev pub special_has_wiring : SpecialWiring → SpecialClause
special_has_wiring wiring = inr (inl (inr (inr (inr (inr (inr (inr wiring)))))))

pattern abbrev pub special_kept : KeptClause → SpecialClause
special_kept clause = inr (inr clause)

-- RECT name pt pt, VIA name [o] pt+, POLYGON name pt pt pt pt*, or a path
unfoldable pub special_shape : Form SpecialShape
special_shape = on (codes "RECT") (name ⨟ corners) (on (codes "VIA") placed_via (on (codes "POLYGON") (name ⨟ polygon) special_wiring))

-- USE word, SHAPE word, MASK word, or wiring, before a + or ;
unfoldable pub special_listed : Form SpecialListed
special_listed =
    closed is_stop (on (codes "USE") (word is_plain) (on (codes "SHAPE") (word is_plain) (on (codes "MASK") (word is_plain) special_shape)))

-- SUBNET any*, a clause that has its form, or word rest, each after a +. A clause that begins as one with a form and
-- hasn't it is kept up to the next +, also where the form would go past it: code reads it as listed first, and where that
-- fails, once more as tokens.
unfoldable pub special_clause : Form SpecialClause
special_clause = codes "+" ▸ on (codes "SUBNET") (upto is_semicolon) (or_else special_listed kept_clause)

-- a special net: its name, its terminals, and its clauses
pub record SpecialNet : Type 0 where
  pub name : List ℕ
  pub terminals : List Terminal
  pub clauses : List SpecialClause

abbrev pub as_special_net : Seen (List ℕ × (List Terminal × List SpecialClause)) SpecialNet
as_special_net = record { to = λ p. record { name = p.0; terminals = p.1.0; clauses = p.1.1 }; from = λ n. (n.name, (n.terminals, n.clauses)); to_from = λ n. refl; from_to = λ p. refl }

-- - name term* (+ clause)* ;
unfoldable pub special_net_form : Form SpecialNet
special_net_form = seen as_special_net (codes "-" ▸ name ⨟ many is_open terminal ⨟ many is_plus special_clause ◂ codes ";")
