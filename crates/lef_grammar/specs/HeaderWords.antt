-- The words of the header of a VIA or a VIARULE behind its second token (LEF/DEF 5.8 Language Reference, "Via" and "Via Rule
-- Generate"), and the fault behind them (own): whether one more comes is told by the next token.
use Rattle.std.specs.Prelude.{ℕ, Bool, List, [], ◌∷◌, Option, Some, None, Result, Ok, Err, if◌then◌else◌}
use Rattle.design_model.specs.declared.fault.Fault.{Fault}
use Rattle.statement_model.specs.Tokens.{Token}
use Rattle.lef_grammar.specs.KeptBlocks.{RuleHeader, continues_rule, after_word}
use Rattle.lef_grammar.specs.ViaBlock.{is_via_word}

-- which words may still come in a header
pub data HeaderWords : Type 0 where
  of_via : HeaderWords
  of_rule : RuleHeader → HeaderWords

abbrev pub header_goes_on : HeaderWords → List ℕ → Bool
header_goes_on of_via w = is_via_word w
header_goes_on (of_rule header) w = continues_rule header w

abbrev pub after_header_word : HeaderWords → List ℕ → HeaderWords
after_header_word of_via w = of_via
after_header_word (of_rule header) w = of_rule (after_word header w)

-- the fault of the tokens, where words of the header alone stand before it
unfoldable pub fault_behind : HeaderWords → List Token → Result ℕ Fault → Option Fault
fault_behind words [] (Ok n) = None
fault_behind words [] (Err f) = Some f
fault_behind words (p ∷ ps) end = if header_goes_on words p.bytes then fault_behind (after_header_word words p.bytes) ps end else None

-- of a header, by its tokens after the first: whatever its second token is
abbrev pub header_fault : Option HeaderWords → List Token → Result ℕ Fault → Option Fault
header_fault (Some words) (q ∷ ps) end = fault_behind words ps end
header_fault _ _ end = None
