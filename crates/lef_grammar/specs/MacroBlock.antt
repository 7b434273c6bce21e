-- The block MACRO (LEF/DEF 5.8 Language Reference, "Macro").
use Rattle.std.specs.Prelude.{◌⊎◌, ℕ, Bool, true, false, ◌||◌, List, Option, Some, None, codes, if◌then◌else◌}
use Rattle.std.proofs.Common.{inl, inr}
use Rattle.form_meanings.specs.Words.{is_word}
use Rattle.statement_model.specs.Boundaries.{Ending, alone, with_next}
use Rattle.statement_model.specs.Form.{Form, empty, word, ◌▸◌, ◌◂◌, ◌⨟◌, alt, on}
use Rattle.lef_grammar.specs.Extents.{Point, block_ending, is_kept_word, kept_statement, name, point, size_statement, to_end}

-- the header of a block within: PIN with its name, OBS or DENSITY
abbrev pub InnerHeader : Type 0
InnerHeader = List ℕ ⊎ (Unit {0} ⊎ Unit {0})

-- what a statement in it says
abbrev pub MacroRecord : Type 0
MacroRecord =
    Unit {0}
    ⊎ ((List ℕ × List (List ℕ))
    ⊎ ((List ℕ × List ℕ) ⊎ (Point ⊎ ((List ℕ × List (List ℕ)) ⊎ (InnerHeader ⊎ (List ℕ × List (List ℕ)))))))

pattern abbrev pub end_macro : MacroRecord
end_macro = inl tt

-- CLASS, by its first word and the others
pattern abbrev pub class : List ℕ → List (List ℕ) → MacroRecord
class w ws = inr (inl (w, ws))

-- width and height, in microns as written
pattern abbrev pub size : List ℕ → List ℕ → MacroRecord
size width height = inr (inr (inl (width, height)))

pattern abbrev pub origin : Point → MacroRecord
origin p = inr (inr (inr (inl p)))

-- the name of a site, and the other words
pattern abbrev pub macro_site : List ℕ → List (List ℕ) → MacroRecord
macro_site name ws = inr (inr (inr (inr (inl (name, ws)))))

pattern abbrev pub opens_block : InnerHeader → MacroRecord
opens_block header = inr (inr (inr (inr (inr (inl header)))))

pattern abbrev pub opens_pin : List ℕ → MacroRecord
opens_pin name = inr (inr (inr (inr (inr (inl (inl name))))))

pattern abbrev pub opens_obstruction : MacroRecord
opens_obstruction = inr (inr (inr (inr (inr (inl (inr (inl tt)))))))

pattern abbrev pub opens_density : MacroRecord
opens_density = inr (inr (inr (inr (inr (inl (inr (inr tt)))))))

-- a statement without meaning
pattern abbrev pub kept_in_macro : List ℕ → List (List ℕ) → MacroRecord
kept_in_macro w ws = inr (inr (inr (inr (inr (inr (w, ws))))))

-- headers of blocks within the block that stand alone
abbrev pub is_macro_header : List ℕ → Bool
is_macro_header w = is_word (codes "OBS") w || is_word (codes "DENSITY") w

abbrev pub is_inner_header : List ℕ → Bool
is_inner_header w = is_word (codes "PIN") w || is_macro_header w

-- a header has no ;
abbrev pub macro_ending : List ℕ → Ending
macro_ending w = if is_word (codes "PIN") w then with_next else (if is_macro_header w then alone else block_ending w)

-- CLASS word any* ;
unfoldable pub class_statement : Form (List ℕ × List (List ℕ))
class_statement = word is_kept_word ⨟ to_end

-- ORIGIN p ;
unfoldable pub origin_statement : Form Point
origin_statement = point ◂ codes ";"

-- SITE name any* ;
unfoldable pub macro_site_statement : Form (List ℕ × List (List ℕ))
macro_site_statement = name ⨟ to_end

unfoldable pub inner_header : Form InnerHeader
inner_header = on (codes "PIN") name (on (codes "OBS") empty (codes "DENSITY" ▸ empty))

-- END and the block's name, or one of these
unfoldable pub macro_statement : List ℕ → Form MacroRecord
macro_statement block =
    on (codes "END") (block ▸ empty)
    (on (codes "CLASS") class_statement
    (on (codes "SIZE") size_statement
    (on (codes "ORIGIN") origin_statement (on (codes "SITE") macro_site_statement (alt is_inner_header inner_header kept_statement)))))

abbrev pub ends_macro : MacroRecord → Bool
ends_macro end_macro = true
ends_macro _ = false

-- the first word of a CLASS
abbrev pub class_of : MacroRecord → Option (List ℕ)
class_of (class w ws) = Some w
class_of _ = None

-- width and height of a SIZE
abbrev pub size_of : MacroRecord → Option (List ℕ × List ℕ)
size_of (size width height) = Some (width, height)
size_of _ = None

-- the point of an ORIGIN
abbrev pub origin_of : MacroRecord → Option Point
origin_of (origin p) = Some p
origin_of _ = None

-- the name of a SITE
abbrev pub site_of : MacroRecord → Option (List ℕ)
site_of (macro_site name ws) = Some name
site_of _ = None
