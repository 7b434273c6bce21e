use Rattle.std.proofs.Common.{◌≡◌, ◌++◌, drop, map}
use Rattle.std.specs.List.{filter_map}
use Rattle.lef_grammar.specs.Definitions.{macro_record}
use Rattle.lef_grammar.specs.MacroBlock.{site_of}
use Rattle.lefdef_tokens.specs.Views.{word_view}
use Rattle.cell_library.specs.Records.{records_view}
use Rattle.cell_library.proofs.macro_view.sites_of.Given as goal

abbrev pub invariant-loop-statement : goal.invariant-loop-statement
invariant-loop-statement g l =
    map word_view l.names ++ filter_map site_of (filter_map macro_record (records_view (drop l.statement-index l.inner))) ≡ filter_map site_of (filter_map macro_record (records_view l.inner))
