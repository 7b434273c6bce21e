-- Statements of a block LAYER: the program's as those of the definitions, and which tokens they are.
use Rattle.std.specs.Prelude.{List}
use Rattle.lef_grammar.specs.LayerBlock.{LayerRecord, end_layer, layer_type, layer_width, layer_spacing, kept_in_layer}
use Rattle.statement_model.specs.Tokens.{Token}
use Rattle.lefdef_tokens.specs.Places.{StandsAt, past}
use Rattle.lefdef_tokens.specs.Views.{words_of}
use Rattle.lef_reader.specs.Parts.{WordsAt}
use Rattle.lef_reader.specs.declared.layer_block.LayerStatement.{LayerStatement}
use Rattle.lef_reader.specs.declared.layer_block.LayerStatement.TheVariants.{End, Kind, Width, Spacing, Kept}

abbrev pub layer_view : LayerStatement → LayerRecord
layer_view End = end_layer
layer_view (Kind w) = layer_type w.bytes.now
layer_view (Width width others) = layer_width width.bytes.now (words_of others)
layer_view (Spacing gap others) = layer_spacing gap.bytes.now (words_of others)
layer_view (Kept w others) = kept_in_layer w.bytes.now (words_of others)

-- behind the statement's word, or from it on where it means nothing
abbrev pub LayerAt : List Token → LayerStatement → Type 0
LayerAt ps End = Unit {0}
LayerAt ps (Kind w) = StandsAt (past 1 ps) w
LayerAt ps (Width width others) = WordsAt (past 1 ps) (width, others)
LayerAt ps (Spacing gap others) = WordsAt (past 1 ps) (gap, others)
LayerAt ps (Kept w others) = WordsAt ps (w, others)
