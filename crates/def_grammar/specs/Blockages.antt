-- The section BLOCKAGES (LEF/DEF 5.8 Language Reference, "Blockages").
use Rattle.std.specs.Prelude.{◌⊎◌, ℕ, Bool, not, ◌&&◌, ◌||◌, List, codes, refl}
use Rattle.std.proofs.Common.{inl, inr}
use Rattle.form_meanings.specs.Words.{is_word, is_plain, is_plus, is_stop, is_semicolon}
use Rattle.form_meanings.specs.Meaning.{Seen}
use Rattle.statement_model.specs.Form.{Form, empty, word, upto, ◌▸◌, ◌◂◌, ◌⨟◌, closed, many, or_else, seen, on}
use Rattle.def_grammar.specs.Parts.{name}
use Rattle.def_grammar.specs.Points.{Corners, corners, Polygon, polygon}
use Rattle.def_grammar.specs.Clauses.{KeptClause, as_kept_clause}

-- what is blocked: routing on a layer, or placement
abbrev pub BlockageKind : Type 0
BlockageKind = List ℕ ⊎ Unit {0}

pattern abbrev pub blocks_layer : List ℕ → BlockageKind
blocks_layer name = inl name

pattern abbrev pub blocks_placement : BlockageKind
blocks_placement = inr tt

-- LAYER name, or PLACEMENT
unfoldable pub blockage_kind : Form BlockageKind
blockage_kind = on (codes "LAYER") name (codes "PLACEMENT" ▸ empty)

-- the words that shapes begin with
abbrev pub is_shape : List ℕ → Bool
is_shape w = is_word (codes "RECT") w || is_word (codes "POLYGON") w

abbrev pub is_shape_or_stop : List ℕ → Bool
is_shape_or_stop w = is_stop w || is_shape w

-- + word rest, up to the first shape
unfoldable pub blockage_clause : Form KeptClause
blockage_clause = codes "+" ▸ seen as_kept_clause (word (λ w. is_plain w && not (is_shape w)) ⨟ upto is_shape_or_stop)

abbrev pub BlockageShape : Type 0
BlockageShape = Corners ⊎ Polygon

pattern abbrev pub blocked_rectangle : Corners → BlockageShape
blocked_rectangle corners = inl corners

pattern abbrev pub blocked_polygon : Polygon → BlockageShape
blocked_polygon polygon = inr polygon

-- RECT pt pt, or POLYGON pt pt pt pt*
unfoldable pub blockage_shape : Form BlockageShape
blockage_shape = on (codes "RECT") corners (codes "POLYGON" ▸ polygon)

-- an entry with its form: what it blocks, its clauses, and its shapes, one or more
pub record Blockage : Type 0 where
  pub kind : BlockageKind
  pub clauses : List KeptClause
  pub first : BlockageShape
  pub others : List BlockageShape

abbrev pub as_blockage : Seen (BlockageKind × (List KeptClause × (BlockageShape × List BlockageShape))) Blockage
as_blockage = record {
  to = λ p. record { kind = p.0; clauses = p.1.0; first = p.1.1.0; others = p.1.1.1 };
  from = λ b. (b.kind, (b.clauses, (b.first, b.others)));
  to_from = λ b. refl;
  from_to = λ p. refl;
}

-- LAYER name or PLACEMENT, (+ word rest)*, shape+
unfoldable pub blockage : Form Blockage
blockage = seen as_blockage (blockage_kind ⨟ many is_plus blockage_clause ⨟ blockage_shape ⨟ many is_shape blockage_shape)

-- an entry: a blockage, or the tokens of one without its form, which means nothing
abbrev pub BlockageEntry : Type 0
BlockageEntry = Blockage ⊎ List (List ℕ)

pattern abbrev pub blocks : Blockage → BlockageEntry
blocks b = inl b

pattern abbrev pub blockage_kept : List (List ℕ) → BlockageEntry
blockage_kept tokens = inr tokens

-- - blockage ;, or - any* ;. Only the whole entry tells which: code reads it as a blockage first, and where that has no
-- form, or ends before the ;, once more as tokens.
unfoldable pub blockage_form : Form BlockageEntry
blockage_form = codes "-" ▸ or_else (closed is_semicolon blockage) (upto is_semicolon) ◂ codes ";"
