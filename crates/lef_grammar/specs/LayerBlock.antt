-- The block LAYER (LEF/DEF 5.8 Language Reference, "Layer").
use Rattle.std.specs.Prelude.{◌⊎◌, ℕ, Bool, true, false, List, [], Option, Some, None, codes}
use Rattle.std.proofs.Common.{inl, inr}
use Rattle.statement_model.specs.Form.{Form, empty, word, ◌▸◌, ◌◂◌, ◌⨟◌, on}
use Rattle.lef_grammar.specs.Extents.{dec, extent, is_kept_word, kept_statement, to_end}

-- what a statement in it says
abbrev pub LayerRecord : Type 0
LayerRecord = Unit {0} ⊎ (List ℕ ⊎ ((List ℕ × List (List ℕ)) ⊎ ((List ℕ × List (List ℕ)) ⊎ (List ℕ × List (List ℕ)))))

pattern abbrev pub end_layer : LayerRecord
end_layer = inl tt

pattern abbrev pub layer_type : List ℕ → LayerRecord
layer_type w = inr (inl w)

-- in microns as written, with what stands behind the number
pattern abbrev pub layer_width : List ℕ → List (List ℕ) → LayerRecord
layer_width width ws = inr (inr (inl (width, ws)))

pattern abbrev pub layer_spacing : List ℕ → List (List ℕ) → LayerRecord
layer_spacing gap ws = inr (inr (inr (inl (gap, ws))))

-- a statement without meaning
pattern abbrev pub kept_in_layer : List ℕ → List (List ℕ) → LayerRecord
kept_in_layer w ws = inr (inr (inr (inr (w, ws))))

-- TYPE word ;
unfoldable pub type_statement : Form (List ℕ)
type_statement = word is_kept_word ◂ codes ";"

-- WIDTH dec any* ;
unfoldable pub width_statement : Form (List ℕ × List (List ℕ))
width_statement = extent ⨟ to_end

-- SPACING dec any* ;
unfoldable pub spacing_statement : Form (List ℕ × List (List ℕ))
spacing_statement = dec ⨟ to_end

-- END and the block's name, or one of these
unfoldable pub layer_statement : List ℕ → Form LayerRecord
layer_statement name =
    on (codes "END") (name ▸ empty)
    (on (codes "TYPE") type_statement (on (codes "WIDTH") width_statement (on (codes "SPACING") spacing_statement kept_statement)))

abbrev pub ends_layer : LayerRecord → Bool
ends_layer end_layer = true
ends_layer _ = false

-- the word of a TYPE
abbrev pub type_of : LayerRecord → Option (List ℕ)
type_of (layer_type w) = Some w
type_of _ = None

-- the number of a WIDTH
abbrev pub width_of : LayerRecord → Option (List ℕ)
width_of (layer_width width ws) = Some width
width_of _ = None

-- the number of a SPACING that has nothing else
abbrev pub spacing_of : LayerRecord → Option (List ℕ)
spacing_of (layer_spacing gap []) = Some gap
spacing_of _ = None
