-- What the statements of a LEF text say, and the grammar of a text (LEF/DEF 5.8 Language Reference, "LEF Syntax").
use Rattle.std.specs.Prelude.{◌⊎◌, ℕ, Bool, true, false, List, [], ◌∷◌, ◌++◌, length, nat_lt, Option, Some, None, unwrap_or, Result, Ok, Err, codes, if◌then◌else◌}
use Rattle.std.proofs.Common.{inl, inr}
use Rattle.design_model.specs.declared.TheConstants.{MAX_TEXT}
use Rattle.design_model.specs.declared.fault.Fault.{Fault}
use Rattle.design_model.specs.declared.fault.FaultCode.TheVariants.{TooLong}
use Rattle.form_meanings.specs.Words.{is_word}
use Rattle.statement_model.specs.Tokens.{Token, Lexed, tokens}
use Rattle.statement_model.specs.Boundaries.{Ending, is_whole}
use Rattle.statement_model.specs.Form.{Form, left, right}
use Rattle.statement_model.specs.Grammar.{Grammar}
use Rattle.statement_model.specs.Reading.{fault_at, read_at, read_form, read_text}
use Rattle.lef_grammar.specs.Extents.{bare_block_ending, block_ending}
use Rattle.lef_grammar.specs.Outermost.{OutermostRecord, opens_layer, opens_site, opens_macro, opens_rule, opens_via, opens_generating_rule, opens_units, opens_spacing, opens_properties, opens_extension, outermost_ending, outermost_statement}
use Rattle.lef_grammar.specs.HeaderWords.{HeaderWords, of_via, of_rule, header_fault}
use Rattle.lef_grammar.specs.LayerBlock.{LayerRecord, ends_layer, layer_statement}
use Rattle.lef_grammar.specs.SiteBlock.{SiteRecord, ends_site, site_statement}
use Rattle.lef_grammar.specs.ViaBlock.{ViaStage, in_header, ViaRecord, ends_via, stage_after, via_ending, via_statement}
use Rattle.lef_grammar.specs.RuleBlock.{RuleRecord, opens_rule_layer, opens_rule_via, opens_rule_spacing, ends_rule, rule_ending, rule_statement, RuleLayerRecord, ends_rule_layer, rule_layer_statement}
use Rattle.lef_grammar.specs.MacroBlock.{MacroRecord, opens_pin, opens_obstruction, opens_density, ends_macro, macro_ending, macro_statement}
use Rattle.lef_grammar.specs.PinBlock.{PinRecord, opens_port, ends_pin, pin_ending, pin_statement}
use Rattle.lef_grammar.specs.PortBlock.{PortRecord, ends_port, layer_after, port_statement}
use Rattle.lef_grammar.specs.KeptBlocks.{KeptBlock, units, spacing, properties, extension, generating_rule, rule_spacing, obstruction, density, generate_or_default, KeptRecord, ends_kept, kept_after, kept_ending, kept_block_statement}

-- the block that a statement stands in, with its name and those of the blocks that it stands in itself; a via has the name
-- of its rule where it stands in one, and a port whether a LAYER came before
pub data Block : Type 0 where
  outermost : Block
  layer : List ℕ → Block
  site : List ℕ → Block
  via : Option (List ℕ) → List ℕ → ViaStage → Block
  rule : List ℕ → Block
  rule_layer : List ℕ → List ℕ → Block
  macro : List ℕ → Block
  pin : List ℕ → List ℕ → Block
  port : List ℕ → List ℕ → Bool → Block
  kept : KeptBlock → Block

-- what a statement says, by its block
abbrev pub LefRecord : Type 0
LefRecord =
    OutermostRecord
    ⊎ (LayerRecord ⊎ (SiteRecord ⊎ (ViaRecord ⊎ (RuleRecord ⊎ (RuleLayerRecord ⊎ (MacroRecord ⊎ (PinRecord ⊎ (PortRecord ⊎ KeptRecord))))))))

pattern abbrev pub outside : OutermostRecord → LefRecord
outside r = inl r

pattern abbrev pub in_layer : LayerRecord → LefRecord
in_layer r = inr (inl r)

pattern abbrev pub in_site : SiteRecord → LefRecord
in_site r = inr (inr (inl r))

pattern abbrev pub in_via : ViaRecord → LefRecord
in_via r = inr (inr (inr (inl r)))

pattern abbrev pub in_rule : RuleRecord → LefRecord
in_rule r = inr (inr (inr (inr (inl r))))

pattern abbrev pub in_rule_layer : RuleLayerRecord → LefRecord
in_rule_layer r = inr (inr (inr (inr (inr (inl r)))))

pattern abbrev pub in_macro : MacroRecord → LefRecord
in_macro r = inr (inr (inr (inr (inr (inr (inl r))))))

pattern abbrev pub in_pin : PinRecord → LefRecord
in_pin r = inr (inr (inr (inr (inr (inr (inr (inl r)))))))

pattern abbrev pub in_port : PortRecord → LefRecord
in_port r = inr (inr (inr (inr (inr (inr (inr (inr (inl r))))))))

pattern abbrev pub in_kept : KeptRecord → LefRecord
in_kept r = inr (inr (inr (inr (inr (inr (inr (inr (inr r))))))))

-- how a statement ends, by its block and its first token
abbrev pub lef_ending : Block → List ℕ → Ending
lef_ending outermost w = outermost_ending w
lef_ending (layer name) w = block_ending w
lef_ending (site name) w = block_ending w
lef_ending (via owner name stage) w = via_ending stage w
lef_ending (rule name) w = rule_ending w
lef_ending (rule_layer owner name) w = block_ending w
lef_ending (macro name) w = macro_ending w
lef_ending (pin owner name) w = pin_ending w
lef_ending (port cell name has_layer) w = bare_block_ending w
lef_ending (kept b) w = kept_ending b w

-- what stands in a block
unfoldable pub lef_statement : Block → Form LefRecord
lef_statement outermost = left outermost_statement
lef_statement (layer name) = right (left (layer_statement name))
lef_statement (site name) = right (right (left (site_statement name)))
lef_statement (via owner name stage) = right (right (right (left (via_statement name stage))))
lef_statement (rule name) = right (right (right (right (left (rule_statement name)))))
lef_statement (rule_layer owner name) = right (right (right (right (right (left (rule_layer_statement name))))))
lef_statement (macro name) = right (right (right (right (right (right (left (macro_statement name)))))))
lef_statement (pin owner name) = right (right (right (right (right (right (right (left (pin_statement name))))))))
lef_statement (port cell name has_layer) = right (right (right (right (right (right (right (right (left (port_statement has_layer)))))))))
lef_statement (kept b) = right (right (right (right (right (right (right (right (right (kept_block_statement b)))))))))

-- a statement ends its block
abbrev pub ends_block : LefRecord → Bool
ends_block (outside r) = false
ends_block (in_layer r) = ends_layer r
ends_block (in_site r) = ends_site r
ends_block (in_via r) = ends_via r
ends_block (in_rule r) = ends_rule r
ends_block (in_rule_layer r) = ends_rule_layer r
ends_block (in_macro r) = ends_macro r
ends_block (in_pin r) = ends_pin r
ends_block (in_port r) = ends_port r
ends_block (in_kept r) = ends_kept r

-- the block that a kept block stands in
abbrev pub kept_parent : KeptBlock → Block
kept_parent (rule_spacing owner) = rule owner
kept_parent (obstruction owner) = macro owner
kept_parent (density owner) = macro owner
kept_parent _ = outermost

-- the block that a block stands in
abbrev pub parent : Block → Block
parent (via (Some owner) name stage) = rule owner
parent (rule_layer owner name) = rule owner
parent (pin owner name) = macro owner
parent (port cell name has_layer) = pin cell name
parent (kept b) = kept_parent b
parent _ = outermost

-- the block that a statement opens outside of all blocks
abbrev pub opened_outside : OutermostRecord → Block
opened_outside (opens_layer name) = layer name
opened_outside (opens_site name) = site name
opened_outside (opens_macro name) = macro name
opened_outside (opens_rule name) = rule name
opened_outside (opens_via name) = via None name in_header
opened_outside (opens_generating_rule name) = kept (generating_rule name generate_or_default)
opened_outside opens_units = kept units
opened_outside opens_spacing = kept spacing
opened_outside opens_properties = kept properties
opened_outside opens_extension = kept extension
opened_outside _ = outermost

-- that it opens in a rule
abbrev pub opened_in_rule : List ℕ → RuleRecord → Block
opened_in_rule owner (opens_rule_layer name) = rule_layer owner name
opened_in_rule owner (opens_rule_via name) = via (Some owner) name in_header
opened_in_rule owner opens_rule_spacing = kept (rule_spacing owner)
opened_in_rule owner _ = rule owner

-- in a macro
abbrev pub opened_in_macro : List ℕ → MacroRecord → Block
opened_in_macro owner (opens_pin name) = pin owner name
opened_in_macro owner opens_obstruction = kept (obstruction owner)
opened_in_macro owner opens_density = kept (density owner)
opened_in_macro owner _ = macro owner

-- and in a pin
abbrev pub opened_in_pin : List ℕ → List ℕ → PinRecord → Block
opened_in_pin owner name opens_port = port owner name false
opened_in_pin owner name _ = pin owner name

-- the block after a statement that doesn't end it
abbrev pub opened : Block → LefRecord → Block
opened outermost (outside r) = opened_outside r
opened (via owner name stage) (in_via r) = via owner name (stage_after stage r)
opened (rule owner) (in_rule r) = opened_in_rule owner r
opened (macro owner) (in_macro r) = opened_in_macro owner r
opened (pin owner name) (in_pin r) = opened_in_pin owner name r
opened (port owner name has_layer) (in_port r) = port owner name (layer_after has_layer r)
opened (kept b) (in_kept r) = kept (kept_after b r)
opened b _ = b

abbrev pub block_after : Block → LefRecord → Block
block_after b r = if ends_block r then parent b else opened b r

abbrev pub is_outermost : Block → Bool
is_outermost outermost = true
is_outermost _ = false

-- LEF: a text has nothing once, and lacks nothing
abbrev pub lef : Grammar Block LefRecord
lef = record { ending = lef_ending; form = lef_statement; after = block_after; may_end = is_outermost; key = λ rec. []; lacks = λ seen. None }

-- the words behind the second token of a header, by its first: of a VIA outside of all blocks or in a rule, and of a VIARULE
abbrev pub header_words : Block → List ℕ → Option HeaderWords
header_words outermost w = if is_word (codes "VIA") w then Some of_via else (if is_word (codes "VIARULE") w then Some (of_rule generate_or_default) else None)
header_words (rule name) w = if is_word (codes "VIA") w then Some of_via else None
header_words _ w = None

-- the fault of a statement, by the tokens from it on: where a header goes on, that of the tokens comes first
abbrev pub first_fault : Block → List Token → Result ℕ Fault → Fault → Fault
first_fault b [] end f = f
first_fault b (p ∷ ps) end f = unwrap_or (header_fault (header_words b p.bytes) ps end) f

abbrev pub with_first_fault : Block → Lexed → Result (Option (LefRecord × Block × Lexed)) Fault → Result (Option (LefRecord × Block × Lexed)) Fault
with_first_fault b l (Ok x) = Ok x
with_first_fault b l (Err f) = Err (first_fault b l.pieces l.end f)

-- the next record, the block of the one after it, and what is left; or the fault
abbrev pub read_lef_at : Block → Lexed → Result (Option (LefRecord × Block × Lexed)) Fault
read_lef_at b l = with_first_fault b l (read_at lef b l)

-- of the statement that these tokens are, with those after it
abbrev pub fault_where : Result ℕ Fault → Fault → Block → List Token → Result (LefRecord × Block) Fault → (Block → Fault) → Fault
fault_where end f b ps (Ok x) later = later x.1
fault_where end f b ps (Err g) later = first_fault b ps end f

-- the fault of tokens that have this one as a text of `lef`, where some tokens of the first statement were read before
unfoldable pub fault_on : Result ℕ Fault → Fault → Block → List Token → List Token → Fault
fault_on end f b before [] = f
fault_on end f b before (p ∷ ps) =
    if is_whole (lef_ending b) (before ++ p ∷ []) then fault_where end f b (before ++ p ∷ ps) (read_form lef b (before ++ p ∷ [])) (λ after. fault_on end f after [] ps)
    else fault_on end f b (before ++ p ∷ []) ps

abbrev pub with_fault : Lexed → Result (List LefRecord) Fault → Result (List LefRecord) Fault
with_fault l (Ok recs) = Ok recs
with_fault l (Err f) = Err (fault_on l.end f outermost [] l.pieces)

-- the records of a LEF text, or its fault
abbrev pub read_lef : List ℕ → Result (List LefRecord) Fault
read_lef text = if nat_lt MAX_TEXT (length text) then Err (fault_at TooLong 0) else with_fault (tokens text) (read_text lef outermost text)
