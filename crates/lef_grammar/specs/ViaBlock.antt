-- The block VIA (LEF/DEF 5.8 Language Reference, "Via").
use Rattle.std.specs.Prelude.{◌⊎◌, ℕ, Bool, true, false, ◌||◌, List, Option, Some, None, codes, if◌then◌else◌}
use Rattle.std.proofs.Common.{inl, inr}
use Rattle.form_meanings.specs.Words.{is_word}
use Rattle.statement_model.specs.Boundaries.{Ending, alone}
use Rattle.statement_model.specs.Form.{Form, empty, word, no_form, ◌▸◌, ◌◂◌, ◌⨟◌, alt, on}
use Rattle.lef_grammar.specs.Extents.{Corners, array_count, block_ending, corners, dec, extent, kept_statement, name, to_end}

-- what of a block was read: its name alone, or with words of its header; other statements without a LAYER; or with one
pub data ViaStage : Type 0 where
  in_header : ViaStage
  without_layer : ViaStage
  with_layer : ViaStage

-- LAYER, RECT and POLYGON
abbrev pub ViaShape : Type 0
ViaShape = (List ℕ × List (List ℕ)) ⊎ (Corners ⊎ List (List ℕ))

-- VIARULE, CUTSIZE, CUTSPACING and ROWCOL
abbrev pub ViaCuts : Type 0
ViaCuts = List ℕ ⊎ ((List ℕ × List ℕ) ⊎ ((List ℕ × List ℕ) ⊎ (List ℕ × List ℕ)))

-- LAYERS, ENCLOSURE, ORIGIN and OFFSET
abbrev pub ViaMetals : Type 0
ViaMetals =
    (List ℕ × (List ℕ × List ℕ))
    ⊎ ((List ℕ × (List ℕ × (List ℕ × List ℕ))) ⊎ ((List ℕ × List ℕ) ⊎ (List ℕ × (List ℕ × (List ℕ × List ℕ)))))

-- what a statement in it says
abbrev pub ViaRecord : Type 0
ViaRecord = Unit {0} ⊎ (List ℕ ⊎ (ViaShape ⊎ (ViaCuts ⊎ (ViaMetals ⊎ (List ℕ × List (List ℕ))))))

pattern abbrev pub end_via : ViaRecord
end_via = inl tt

-- a word of the header: DEFAULT, GENERATED or TOPOFSTACKONLY
pattern abbrev pub via_word : List ℕ → ViaRecord
via_word w = inr (inl w)

pattern abbrev pub shape_in_via : ViaShape → ViaRecord
shape_in_via s = inr (inr (inl s))

pattern abbrev pub cuts_in_via : ViaCuts → ViaRecord
cuts_in_via c = inr (inr (inr (inl c)))

pattern abbrev pub metals_in_via : ViaMetals → ViaRecord
metals_in_via m = inr (inr (inr (inr (inl m))))

pattern abbrev pub via_layer : List ℕ → List (List ℕ) → ViaRecord
via_layer name ws = inr (inr (inl (inl (name, ws))))

pattern abbrev pub via_rect : Corners → ViaRecord
via_rect c = inr (inr (inl (inr (inl c))))

pattern abbrev pub via_polygon : List (List ℕ) → ViaRecord
via_polygon ws = inr (inr (inl (inr (inr ws))))

-- the rule that generates a via
pattern abbrev pub via_rule : List ℕ → ViaRecord
via_rule name = inr (inr (inr (inl (inl name))))

pattern abbrev pub cut_size : List ℕ → List ℕ → ViaRecord
cut_size x y = inr (inr (inr (inl (inr (inl (x, y))))))

pattern abbrev pub cut_spacing : List ℕ → List ℕ → ViaRecord
cut_spacing x y = inr (inr (inr (inl (inr (inr (inl (x, y)))))))

pattern abbrev pub row_col : List ℕ → List ℕ → ViaRecord
row_col rows columns = inr (inr (inr (inl (inr (inr (inr (rows, columns)))))))

pattern abbrev pub via_layers : List ℕ → List ℕ → List ℕ → ViaRecord
via_layers bottom cut top = inr (inr (inr (inr (inl (inl (bottom, (cut, top)))))))

-- of the bottom metal and of the top one, in x and in y
pattern abbrev pub enclosure : List ℕ → List ℕ → List ℕ → List ℕ → ViaRecord
enclosure xb yb xt yt = inr (inr (inr (inr (inl (inr (inl (xb, (yb, (xt, yt)))))))))

pattern abbrev pub via_origin : List ℕ → List ℕ → ViaRecord
via_origin x y = inr (inr (inr (inr (inl (inr (inr (inl (x, y))))))))

pattern abbrev pub via_offset : List ℕ → List ℕ → List ℕ → List ℕ → ViaRecord
via_offset xb yb xt yt = inr (inr (inr (inr (inl (inr (inr (inr (xb, (yb, (xt, yt))))))))))

-- a statement without meaning
pattern abbrev pub kept_in_via : List ℕ → List (List ℕ) → ViaRecord
kept_in_via w ws = inr (inr (inr (inr (inr (w, ws)))))

abbrev pub is_via_word : List ℕ → Bool
is_via_word w = is_word (codes "DEFAULT") w || is_word (codes "GENERATED") w || is_word (codes "TOPOFSTACKONLY") w

-- a word of the header, where the header goes on
abbrev pub continues_via : ViaStage → List ℕ → Bool
continues_via in_header w = is_via_word w
continues_via _ w = false

-- a word of the header stands alone
abbrev pub via_ending : ViaStage → List ℕ → Ending
via_ending stage w = if continues_via stage w then alone else block_ending w

abbrev pub is_via_shape : List ℕ → Bool
is_via_shape w = is_word (codes "LAYER") w || is_word (codes "RECT") w || is_word (codes "POLYGON") w

abbrev pub is_via_cuts : List ℕ → Bool
is_via_cuts w = is_word (codes "VIARULE") w || is_word (codes "CUTSIZE") w || is_word (codes "CUTSPACING") w || is_word (codes "ROWCOL") w

abbrev pub is_via_metals : List ℕ → Bool
is_via_metals w = is_word (codes "LAYERS") w || is_word (codes "ENCLOSURE") w || is_word (codes "ORIGIN") w || is_word (codes "OFFSET") w

-- [MASK word] p p ; where a LAYER came before
unfoldable pub via_corners : ViaStage → Form Corners
via_corners with_layer = corners
via_corners _ = no_form

-- LAYER name any* ; RECT [MASK word] p p ; or POLYGON any* ;
unfoldable pub via_shape : ViaStage → Form ViaShape
via_shape stage = on (codes "LAYER") (name ⨟ to_end) (on (codes "RECT") (via_corners stage) (codes "POLYGON" ▸ to_end))

-- VIARULE name ; CUTSIZE dec dec ; CUTSPACING dec dec ; or ROWCOL int int ;
unfoldable pub via_cuts : Form ViaCuts
via_cuts =
    on (codes "VIARULE") (name ◂ codes ";")
    (on (codes "CUTSIZE") (extent ⨟ extent ◂ codes ";")
    (on (codes "CUTSPACING") (extent ⨟ extent ◂ codes ";") (codes "ROWCOL" ▸ array_count ⨟ array_count ◂ codes ";")))

-- dec dec dec dec ;
unfoldable pub four_distances : Form (List ℕ × (List ℕ × (List ℕ × List ℕ)))
four_distances = dec ⨟ dec ⨟ dec ⨟ dec ◂ codes ";"

-- LAYERS name name name ; ENCLOSURE dec dec dec dec ; ORIGIN dec dec ; or OFFSET dec dec dec dec ;
unfoldable pub via_metals : Form ViaMetals
via_metals =
    on (codes "LAYERS") (name ⨟ name ⨟ name ◂ codes ";")
    (on (codes "ENCLOSURE") four_distances (on (codes "ORIGIN") (dec ⨟ dec ◂ codes ";") (codes "OFFSET" ▸ four_distances)))

-- END and the block's name, a word of the header, or one of these
unfoldable pub via_statement : List ℕ → ViaStage → Form ViaRecord
via_statement block stage =
    on (codes "END") (block ▸ empty)
    (alt (continues_via stage) (word (continues_via stage))
    (alt is_via_shape (via_shape stage) (alt is_via_cuts via_cuts (alt is_via_metals via_metals kept_statement))))

abbrev pub ends_via : ViaRecord → Bool
ends_via end_via = true
ends_via _ = false

-- what was read after a statement
abbrev pub stage_after : ViaStage → ViaRecord → ViaStage
stage_after stage (via_word _) = stage
stage_after stage (via_layer _ _) = with_layer
stage_after with_layer _ = with_layer
stage_after _ _ = without_layer

-- the name of a LAYER
abbrev pub via_layer_of : ViaRecord → Option (List ℕ)
via_layer_of (via_layer name ws) = Some name
via_layer_of _ = None

-- the corners of a RECT
abbrev pub via_rect_of : ViaRecord → Option Corners
via_rect_of (via_rect c) = Some c
via_rect_of _ = None

abbrev pub is_via_polygon : ViaRecord → Bool
is_via_polygon (via_polygon ws) = true
is_via_polygon _ = false

-- the name of a VIARULE
abbrev pub rule_of : ViaRecord → Option (List ℕ)
rule_of (via_rule name) = Some name
rule_of _ = None

-- the numbers of a CUTSIZE, CUTSPACING, ROWCOL, ENCLOSURE, ORIGIN and OFFSET, and the names of a LAYERS
abbrev pub cut_size_of : ViaRecord → Option (List ℕ × List ℕ)
cut_size_of (cut_size x y) = Some (x, y)
cut_size_of _ = None

abbrev pub cut_spacing_of : ViaRecord → Option (List ℕ × List ℕ)
cut_spacing_of (cut_spacing x y) = Some (x, y)
cut_spacing_of _ = None

abbrev pub row_col_of : ViaRecord → Option (List ℕ × List ℕ)
row_col_of (row_col rows columns) = Some (rows, columns)
row_col_of _ = None

abbrev pub via_layers_of : ViaRecord → Option (List ℕ × (List ℕ × List ℕ))
via_layers_of (via_layers bottom cut top) = Some (bottom, (cut, top))
via_layers_of _ = None

abbrev pub enclosure_of : ViaRecord → Option (List ℕ × (List ℕ × (List ℕ × List ℕ)))
enclosure_of (enclosure xb yb xt yt) = Some (xb, (yb, (xt, yt)))
enclosure_of _ = None

abbrev pub via_origin_of : ViaRecord → Option (List ℕ × List ℕ)
via_origin_of (via_origin x y) = Some (x, y)
via_origin_of _ = None

abbrev pub via_offset_of : ViaRecord → Option (List ℕ × (List ℕ × (List ℕ × List ℕ)))
via_offset_of (via_offset xb yb xt yt) = Some (xb, (yb, (xt, yt)))
via_offset_of _ = None
