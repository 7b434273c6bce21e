-- Statements outside of all blocks (LEF/DEF 5.8 Language Reference, "LEF Syntax").
use Rattle.std.specs.Prelude.{◌⊎◌, ℕ, Bool, ◌||◌, List, codes, if◌then◌else◌}
use Rattle.std.proofs.Common.{inl, inr}
use Rattle.form_meanings.specs.Words.{is_word}
use Rattle.statement_model.specs.Boundaries.{Ending, alone, with_next}
use Rattle.statement_model.specs.Form.{Form, empty, ◌▸◌, alt, on}
use Rattle.lef_grammar.specs.Extents.{block_ending, kept_statement, name}

-- the header of a block with a name, and that name: LAYER, SITE, MACRO, NONDEFAULTRULE, VIA or VIARULE
abbrev pub NamedHeader : Type 0
NamedHeader = List ℕ ⊎ (List ℕ ⊎ (List ℕ ⊎ (List ℕ ⊎ (List ℕ ⊎ List ℕ))))

-- UNITS, SPACING, PROPERTYDEFINITIONS or BEGINEXT
abbrev pub BareHeader : Type 0
BareHeader = Unit {0} ⊎ (Unit {0} ⊎ (Unit {0} ⊎ Unit {0}))

-- what such a statement says
abbrev pub OutermostRecord : Type 0
OutermostRecord = Unit {0} ⊎ (NamedHeader ⊎ (BareHeader ⊎ (List ℕ × List (List ℕ))))

pattern abbrev pub end_library : OutermostRecord
end_library = inl tt

pattern abbrev pub opens_named : NamedHeader → OutermostRecord
opens_named header = inr (inl header)

pattern abbrev pub opens_bare : BareHeader → OutermostRecord
opens_bare header = inr (inr (inl header))

pattern abbrev pub opens_layer : List ℕ → OutermostRecord
opens_layer name = inr (inl (inl name))

pattern abbrev pub opens_site : List ℕ → OutermostRecord
opens_site name = inr (inl (inr (inl name)))

pattern abbrev pub opens_macro : List ℕ → OutermostRecord
opens_macro name = inr (inl (inr (inr (inl name))))

pattern abbrev pub opens_rule : List ℕ → OutermostRecord
opens_rule name = inr (inl (inr (inr (inr (inl name)))))

pattern abbrev pub opens_via : List ℕ → OutermostRecord
opens_via name = inr (inl (inr (inr (inr (inr (inl name))))))

pattern abbrev pub opens_generating_rule : List ℕ → OutermostRecord
opens_generating_rule name = inr (inl (inr (inr (inr (inr (inr name))))))

pattern abbrev pub opens_units : OutermostRecord
opens_units = inr (inr (inl (inl tt)))

pattern abbrev pub opens_spacing : OutermostRecord
opens_spacing = inr (inr (inl (inr (inl tt))))

pattern abbrev pub opens_properties : OutermostRecord
opens_properties = inr (inr (inl (inr (inr (inl tt)))))

pattern abbrev pub opens_extension : OutermostRecord
opens_extension = inr (inr (inl (inr (inr (inr tt)))))

-- a statement without meaning
pattern abbrev pub kept_outside : List ℕ → List (List ℕ) → OutermostRecord
kept_outside w ws = inr (inr (inr (w, ws)))

-- one of a rule or a via
abbrev pub is_rule_header : List ℕ → Bool
is_rule_header w = is_word (codes "NONDEFAULTRULE") w || is_word (codes "VIA") w || is_word (codes "VIARULE") w

-- a header with a name behind it
abbrev pub is_named_header : List ℕ → Bool
is_named_header w = is_word (codes "LAYER") w || is_word (codes "SITE") w || is_word (codes "MACRO") w || is_rule_header w

-- a header that stands alone
abbrev pub is_bare_header : List ℕ → Bool
is_bare_header w = is_word (codes "UNITS") w || is_word (codes "SPACING") w || is_word (codes "PROPERTYDEFINITIONS") w || is_word (codes "BEGINEXT") w

-- a header has no ;
abbrev pub outermost_ending : List ℕ → Ending
outermost_ending w = if is_named_header w then with_next else (if is_bare_header w then alone else block_ending w)

abbrev pub rule_header : Form (List ℕ ⊎ (List ℕ ⊎ List ℕ))
rule_header = on (codes "NONDEFAULTRULE") name (on (codes "VIA") name (codes "VIARULE" ▸ name))

unfoldable pub named_header : Form NamedHeader
named_header = on (codes "LAYER") name (on (codes "SITE") name (on (codes "MACRO") name rule_header))

unfoldable pub bare_header : Form BareHeader
bare_header = on (codes "UNITS") empty (on (codes "SPACING") empty (on (codes "PROPERTYDEFINITIONS") empty (codes "BEGINEXT" ▸ empty)))

-- END LIBRARY, a header, or a statement without meaning
unfoldable pub outermost_statement : Form OutermostRecord
outermost_statement = on (codes "END") (codes "LIBRARY" ▸ empty) (alt is_named_header named_header (alt is_bare_header bare_header kept_statement))
