-- Blocks of a LEF text: the program's as those of the definitions.
use Rattle.std.specs.Option.{option_map}
use Rattle.lef_grammar.specs.LefRecords.{Block, outermost, layer, site, via, rule, rule_layer, macro, pin, port, kept}
use Rattle.lef_reader.specs.declared.block.Block as code
use Rattle.lef_reader.specs.declared.block.Block.TheVariants as blocks
use Rattle.lefdef_tokens.specs.Views.{word_view}
use Rattle.lef_reader.specs.KeptViews.{kept_block_view}
use Rattle.lef_reader.specs.ViaViews.{stage_view}

abbrev pub block_view : code.Block → Block
block_view blocks.Outermost = outermost
block_view (blocks.Layer name) = layer name.now
block_view (blocks.Site name) = site name.now
block_view (blocks.Via owner name stage) = via (option_map word_view owner) name.now (stage_view stage)
block_view (blocks.Rule name) = rule name.now
block_view (blocks.RuleLayer owner name) = rule_layer owner.now name.now
block_view (blocks.Macro name) = macro name.now
block_view (blocks.Pin cell name) = pin cell.now name.now
block_view (blocks.Port cell name has_layer) = port cell.now name.now has_layer
block_view (blocks.Kept b) = kept (kept_block_view b)
