-- Statements of a block NONDEFAULTRULE: the program's as those of the definitions, and which tokens they are.
use Rattle.std.specs.Prelude.{List}
use Rattle.lef_grammar.specs.RuleBlock.{RuleRecord, end_rule, opens_rule_layer, opens_rule_via, opens_rule_spacing, kept_in_rule, RuleLayerRecord, end_rule_layer, rule_width, kept_in_rule_layer}
use Rattle.statement_model.specs.Tokens.{Token}
use Rattle.lefdef_tokens.specs.Places.{StandsAt, past}
use Rattle.lefdef_tokens.specs.Views.{words_of}
use Rattle.lef_reader.specs.Parts.{WordsAt}
use Rattle.lef_reader.specs.declared.rule_block.RuleStatement.{RuleStatement}
use Rattle.lef_reader.specs.declared.rule_block.RuleStatement.TheVariants as rules
use Rattle.lef_reader.specs.declared.rule_block.RuleLayerStatement.{RuleLayerStatement}
use Rattle.lef_reader.specs.declared.rule_block.RuleLayerStatement.TheVariants as layers

abbrev pub rule_view : RuleStatement → RuleRecord
rule_view rules.End = end_rule
rule_view (rules.OpensLayer name) = opens_rule_layer name.bytes.now
rule_view (rules.OpensVia name) = opens_rule_via name.bytes.now
rule_view rules.OpensSpacing = opens_rule_spacing
rule_view (rules.Kept w others) = kept_in_rule w.bytes.now (words_of others)

-- behind LAYER or VIA its name, or a statement from its word on
abbrev pub RuleAt : List Token → RuleStatement → Type 0
RuleAt ps rules.End = Unit {0}
RuleAt ps (rules.OpensLayer name) = StandsAt (past 1 ps) name
RuleAt ps (rules.OpensVia name) = StandsAt (past 1 ps) name
RuleAt ps rules.OpensSpacing = Unit {0}
RuleAt ps (rules.Kept w others) = WordsAt ps (w, others)

abbrev pub rule_layer_view : RuleLayerStatement → RuleLayerRecord
rule_layer_view layers.End = end_rule_layer
rule_layer_view (layers.Width width) = rule_width width.bytes.now
rule_layer_view (layers.Kept w others) = kept_in_rule_layer w.bytes.now (words_of others)

-- behind WIDTH its number, or a statement from its word on
abbrev pub RuleLayerAt : List Token → RuleLayerStatement → Type 0
RuleLayerAt ps layers.End = Unit {0}
RuleLayerAt ps (layers.Width width) = StandsAt (past 1 ps) width
RuleLayerAt ps (layers.Kept w others) = WordsAt ps (w, others)
