-- The blocks whose statements are only kept: UNITS, SPACING, PROPERTYDEFINITIONS and VIARULE, BEGINEXT, SPACING of a rule,
-- and OBS and DENSITY of a macro (LEF/DEF 5.8 Language Reference, "LEF Syntax").
use Rattle.std.specs.Prelude.{◌⊎◌, ℕ, Bool, true, false, ◌||◌, List, codes, if◌then◌else◌}
use Rattle.std.proofs.Common.{inl, inr}
use Rattle.form_meanings.specs.Words.{is_word}
use Rattle.statement_model.specs.Boundaries.{Ending, alone}
use Rattle.statement_model.specs.Form.{Form, empty, word, left, right, ◌▸◌, alt, on}
use Rattle.lef_grammar.specs.Extents.{bare_block_ending, block_ending, kept_statement}

-- which words may still come in the header of a VIARULE: GENERATE and then DEFAULT, DEFAULT, or no word
pub data RuleHeader : Type 0 where
  generate_or_default : RuleHeader
  default_alone : RuleHeader
  complete : RuleHeader

-- such a block, with its name, or the name of the block that it stands in
pub data KeptBlock : Type 0 where
  units : KeptBlock
  spacing : KeptBlock
  properties : KeptBlock
  extension : KeptBlock
  generating_rule : List ℕ → RuleHeader → KeptBlock
  rule_spacing : List ℕ → KeptBlock
  obstruction : List ℕ → KeptBlock
  density : List ℕ → KeptBlock

-- what a statement in it says: its end; a word that stands alone, of a header or an extension; or a statement
abbrev pub KeptRecord : Type 0
KeptRecord = Unit {0} ⊎ (List ℕ ⊎ (List ℕ × List (List ℕ)))

pattern abbrev pub end_kept : KeptRecord
end_kept = inl tt

pattern abbrev pub lone_word : List ℕ → KeptRecord
lone_word w = inr (inl w)

pattern abbrev pub kept_in_kept : List ℕ → List (List ℕ) → KeptRecord
kept_in_kept w ws = inr (inr (w, ws))

-- a word of the header, where it may come
abbrev pub continues_rule : RuleHeader → List ℕ → Bool
continues_rule generate_or_default w = is_word (codes "GENERATE") w || is_word (codes "DEFAULT") w
continues_rule default_alone w = is_word (codes "DEFAULT") w
continues_rule complete w = false

-- in an extension each token stands alone
abbrev pub kept_ending : KeptBlock → List ℕ → Ending
kept_ending extension w = alone
kept_ending (generating_rule name header) w = if continues_rule header w then alone else block_ending w
kept_ending (obstruction macro) w = bare_block_ending w
kept_ending (density macro) w = bare_block_ending w
kept_ending _ w = block_ending w

-- END and this word, or a statement without meaning
unfoldable pub closed_by : List ℕ → Form KeptRecord
closed_by w = on (codes "END") (w ▸ empty) (right kept_statement)

-- END alone, or a statement without meaning
unfoldable pub closed_alone : Form KeptRecord
closed_alone = on (codes "END") empty (right kept_statement)

-- ENDEXT, or any token
unfoldable pub extension_token : Form KeptRecord
extension_token = on (codes "ENDEXT") empty (left (word (λ w. true)))

-- END and the block's name, a word of the header, or a statement without meaning
unfoldable pub generating_statement : List ℕ → RuleHeader → Form KeptRecord
generating_statement block header = on (codes "END") (block ▸ empty) (alt (continues_rule header) (word (continues_rule header)) kept_statement)

unfoldable pub kept_block_statement : KeptBlock → Form KeptRecord
kept_block_statement units = closed_by (codes "UNITS")
kept_block_statement spacing = closed_by (codes "SPACING")
kept_block_statement properties = closed_by (codes "PROPERTYDEFINITIONS")
kept_block_statement extension = extension_token
kept_block_statement (generating_rule name header) = generating_statement name header
kept_block_statement (rule_spacing rule) = closed_by (codes "SPACING")
kept_block_statement (obstruction macro) = closed_alone
kept_block_statement (density macro) = closed_alone

abbrev pub ends_kept : KeptRecord → Bool
ends_kept end_kept = true
ends_kept _ = false

-- the header of a VIARULE after a statement: GENERATE leaves DEFAULT, and any other ends it
abbrev pub after_word : RuleHeader → List ℕ → RuleHeader
after_word generate_or_default w = if is_word (codes "GENERATE") w then default_alone else complete
after_word _ w = complete

abbrev pub header_after : RuleHeader → KeptRecord → RuleHeader
header_after header (lone_word w) = after_word header w
header_after header _ = complete

abbrev pub kept_after : KeptBlock → KeptRecord → KeptBlock
kept_after (generating_rule name header) r = generating_rule name (header_after header r)
kept_after b r = b
