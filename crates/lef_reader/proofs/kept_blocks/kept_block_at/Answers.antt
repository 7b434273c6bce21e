use Rattle.std.proofs.Common.{codes}
use Rattle.lef_grammar.specs.KeptBlocks.{kept_block_statement}
use Rattle.lefdef_tokens.specs.Views.{rest_of}
use Rattle.lef_reader.proofs.KeptLemmas.{read_closed_by}
use Rattle.lef_reader.proofs.kept_blocks.kept_block_at.Goals as goal

pub returns-in-Properties-clause-gives : goal.returns-in-Properties-clause-gives
unfolding kept_block_statement
returns-in-Properties-clause-gives c = rw (c.in-Properties.is, read_closed_by (codes "PROPERTYDEFINITIONS") (rest_of c.args.cursor)) c.generating_at-in-Properties.ensures.gives
