-- The block NONDEFAULTRULE, with its blocks LAYER (LEF/DEF 5.8 Language Reference, "Nondefault Rule"). Its blocks VIA are
-- those outside of it, and its block SPACING is kept.
use Rattle.std.specs.Prelude.{◌⊎◌, ℕ, Bool, true, false, ◌||◌, List, Option, Some, None, codes, if◌then◌else◌}
use Rattle.std.proofs.Common.{inl, inr}
use Rattle.form_meanings.specs.Words.{is_word}
use Rattle.statement_model.specs.Boundaries.{Ending, alone, with_next}
use Rattle.statement_model.specs.Form.{Form, empty, ◌▸◌, ◌◂◌, on}
use Rattle.lef_grammar.specs.Extents.{block_ending, extent, kept_statement, name}

-- what a statement in it says: its end, the header of a block LAYER, VIA or SPACING, or a statement without meaning
abbrev pub RuleRecord : Type 0
RuleRecord = Unit {0} ⊎ (List ℕ ⊎ (List ℕ ⊎ (Unit {0} ⊎ (List ℕ × List (List ℕ)))))

pattern abbrev pub end_rule : RuleRecord
end_rule = inl tt

pattern abbrev pub opens_rule_layer : List ℕ → RuleRecord
opens_rule_layer name = inr (inl name)

pattern abbrev pub opens_rule_via : List ℕ → RuleRecord
opens_rule_via name = inr (inr (inl name))

pattern abbrev pub opens_rule_spacing : RuleRecord
opens_rule_spacing = inr (inr (inr (inl tt)))

pattern abbrev pub kept_in_rule : List ℕ → List (List ℕ) → RuleRecord
kept_in_rule w ws = inr (inr (inr (inr (w, ws))))

-- a header has no ;
abbrev pub rule_ending : List ℕ → Ending
rule_ending w = if is_word (codes "LAYER") w || is_word (codes "VIA") w then with_next else (if is_word (codes "SPACING") w then alone else block_ending w)

unfoldable pub rule_statement : List ℕ → Form RuleRecord
rule_statement block =
    on (codes "END") (block ▸ empty) (on (codes "LAYER") name (on (codes "VIA") name (on (codes "SPACING") empty kept_statement)))

abbrev pub ends_rule : RuleRecord → Bool
ends_rule end_rule = true
ends_rule _ = false

-- what a statement in a LAYER of a rule says
abbrev pub RuleLayerRecord : Type 0
RuleLayerRecord = Unit {0} ⊎ (List ℕ ⊎ (List ℕ × List (List ℕ)))

pattern abbrev pub end_rule_layer : RuleLayerRecord
end_rule_layer = inl tt

-- in microns as written
pattern abbrev pub rule_width : List ℕ → RuleLayerRecord
rule_width width = inr (inl width)

pattern abbrev pub kept_in_rule_layer : List ℕ → List (List ℕ) → RuleLayerRecord
kept_in_rule_layer w ws = inr (inr (w, ws))

-- END and the block's name, WIDTH dec ; or a statement without meaning
unfoldable pub rule_layer_statement : List ℕ → Form RuleLayerRecord
rule_layer_statement block = on (codes "END") (block ▸ empty) (on (codes "WIDTH") (extent ◂ codes ";") kept_statement)

abbrev pub ends_rule_layer : RuleLayerRecord → Bool
ends_rule_layer end_rule_layer = true
ends_rule_layer _ = false

-- the number of a WIDTH
abbrev pub rule_width_of : RuleLayerRecord → Option (List ℕ)
rule_width_of (rule_width width) = Some width
rule_width_of _ = None
