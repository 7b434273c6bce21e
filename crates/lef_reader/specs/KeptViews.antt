-- Statements of blocks that are only kept: the program's as those of the definitions, and which tokens they are.
use Rattle.std.specs.Prelude.{List}
use Rattle.lef_grammar.specs.KeptBlocks.{RuleHeader, generate_or_default, default_alone, complete, KeptBlock, units, spacing, properties, extension, generating_rule, rule_spacing, obstruction, density, KeptRecord, end_kept, lone_word, kept_in_kept}
use Rattle.statement_model.specs.Tokens.{Token}
use Rattle.lefdef_tokens.specs.Places.{StandsAt}
use Rattle.lefdef_tokens.specs.Views.{words_of}
use Rattle.lef_reader.specs.Parts.{WordsAt}
use Rattle.lef_reader.specs.declared.kept_blocks.RuleHeader as code_header
use Rattle.lef_reader.specs.declared.kept_blocks.RuleHeader.TheVariants as headers
use Rattle.lef_reader.specs.declared.kept_blocks.KeptBlock as code_block
use Rattle.lef_reader.specs.declared.kept_blocks.KeptBlock.TheVariants as blocks
use Rattle.lef_reader.specs.declared.kept_blocks.KeptStatement.{KeptStatement}
use Rattle.lef_reader.specs.declared.kept_blocks.KeptStatement.TheVariants.{End, Lone, Kept}

abbrev pub header_view : code_header.RuleHeader → RuleHeader
header_view headers.GenerateOrDefault = generate_or_default
header_view headers.Default = default_alone
header_view headers.Complete = complete

abbrev pub kept_block_view : code_block.KeptBlock → KeptBlock
kept_block_view blocks.Units = units
kept_block_view blocks.Spacing = spacing
kept_block_view blocks.Properties = properties
kept_block_view blocks.Extension = extension
kept_block_view (blocks.GeneratingRule name header) = generating_rule name.now (header_view header)
kept_block_view (blocks.RuleSpacing rule) = rule_spacing rule.now
kept_block_view (blocks.Obstruction macro) = obstruction macro.now
kept_block_view (blocks.Density macro) = density macro.now

abbrev pub kept_view : KeptStatement → KeptRecord
kept_view End = end_kept
kept_view (Lone w) = lone_word w.bytes.now
kept_view (Kept w others) = kept_in_kept w.bytes.now (words_of others)

-- a statement has its word first, and then the others
abbrev pub KeptAt : List Token → KeptStatement → Type 0
KeptAt ps End = Unit {0}
KeptAt ps (Lone w) = StandsAt ps w
KeptAt ps (Kept w others) = WordsAt ps (w, others)
