use Rattle.std.proofs.Common.{◌≤◌, ◌-◌, length}
use Rattle.lef_reader.specs.StatementViews.{block_view}
use Rattle.cell_library.specs.Records.{records_view}
use Rattle.cell_library.proofs.AddLemmas.{Adding}
use Rattle.cell_library.proofs.library.Library.add_text.Given as goal

abbrev pub invariant-loop-group : goal.invariant-loop-group
invariant-loop-group g l = record {
  within : l.pos ≤ length l.text;
  adding : Adding l.text l.fn.self l.self (records_view l.group.items) (block_view l.block) l.pos;
}

abbrev pub decreases-loop-group : goal.decreases-loop-group
decreases-loop-group g l = length l.text - l.pos
