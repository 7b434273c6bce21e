-- The block PORT of a pin (LEF/DEF 5.8 Language Reference, "Macro Pin Statement"). It ends by an END alone.
use Rattle.std.specs.Prelude.{◌⊎◌, ℕ, Bool, true, false, ◌||◌, List, Option, Some, None, codes}
use Rattle.std.proofs.Common.{inl, inr}
use Rattle.form_meanings.specs.Words.{is_word}
use Rattle.statement_model.specs.Form.{Form, empty, word, no_form, ◌▸◌, ◌⨟◌, alt, on, or_else}
use Rattle.lef_grammar.specs.Extents.{Corners, corners, is_kept_word, kept_statement, name, to_end}

-- RECT of corners, or of an array: with ITERATE, and with its MASK or without
abbrev pub PortRect : Type 0
PortRect = List (List ℕ) ⊎ ((List ℕ × List (List ℕ)) ⊎ Corners)

-- what a statement in it says
abbrev pub PortRecord : Type 0
PortRecord = Unit {0} ⊎ ((List ℕ × List (List ℕ)) ⊎ (PortRect ⊎ ((List ℕ × List (List ℕ)) ⊎ (List ℕ × List (List ℕ)))))

pattern abbrev pub end_port : PortRecord
end_port = inl tt

pattern abbrev pub port_layer : List ℕ → List (List ℕ) → PortRecord
port_layer name ws = inr (inl (name, ws))

pattern abbrev pub port_array : List (List ℕ) → PortRecord
port_array ws = inr (inr (inl (inl ws)))

pattern abbrev pub masked_port_array : List ℕ → List (List ℕ) → PortRecord
masked_port_array mask ws = inr (inr (inl (inr (inl (mask, ws)))))

pattern abbrev pub port_rect : Corners → PortRecord
port_rect c = inr (inr (inl (inr (inr c))))

pattern abbrev pub rect_in_port : PortRect → PortRecord
rect_in_port r = inr (inr (inl r))

-- POLYGON, PATH or VIA, by its word
pattern abbrev pub port_shape : List ℕ → List (List ℕ) → PortRecord
port_shape w ws = inr (inr (inr (inl (w, ws))))

-- a statement without meaning
pattern abbrev pub kept_in_port : List ℕ → List (List ℕ) → PortRecord
kept_in_port w ws = inr (inr (inr (inr (w, ws))))

abbrev pub is_port_shape : List ℕ → Bool
is_port_shape w = is_word (codes "POLYGON") w || is_word (codes "PATH") w || is_word (codes "VIA") w

-- ITERATE any* ; MASK word ITERATE any* ; or [MASK word] p p ;
unfoldable pub port_rect_statement : Form PortRect
port_rect_statement = on (codes "ITERATE") to_end (or_else (codes "MASK" ▸ word is_kept_word ⨟ codes "ITERATE" ▸ to_end) corners)

-- one of these, where a LAYER came before
unfoldable pub port_rect_where : Bool → Form PortRect
port_rect_where true = port_rect_statement
port_rect_where false = no_form

-- END, LAYER name any* ; RECT after a LAYER; POLYGON, PATH or VIA any* ; or a statement without meaning
unfoldable pub port_statement : Bool → Form PortRecord
port_statement has_layer =
    on (codes "END") empty
    (on (codes "LAYER") (name ⨟ to_end) (on (codes "RECT") (port_rect_where has_layer) (alt is_port_shape (word is_port_shape ⨟ to_end) kept_statement)))

abbrev pub ends_port : PortRecord → Bool
ends_port end_port = true
ends_port _ = false

-- a LAYER came before what is after this statement
abbrev pub layer_after : Bool → PortRecord → Bool
layer_after has_layer (port_layer _ _) = true
layer_after has_layer _ = has_layer

-- a part whose shape isn't checked
abbrev pub is_unchecked : PortRecord → Bool
is_unchecked (port_array ws) = true
is_unchecked (masked_port_array mask ws) = true
is_unchecked (port_shape w ws) = true
is_unchecked _ = false

-- the name of a LAYER
abbrev pub port_layer_of : PortRecord → Option (List ℕ)
port_layer_of (port_layer name ws) = Some name
port_layer_of _ = None

-- the corners of a RECT
abbrev pub port_rect_of : PortRecord → Option Corners
port_rect_of (port_rect c) = Some c
port_rect_of _ = None
