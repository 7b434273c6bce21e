use Rattle.std.proofs.Common.{◌≡◌, ◌≤◌, length, ◌-◌}
use Rattle.statement_model.specs.Tokens.{left_from}
use Rattle.lef_grammar.specs.HeaderWords.{fault_behind}
use Rattle.lef_reader.specs.HeaderViews.{header_words_view}
use Rattle.lef_reader.proofs.header_words.HeaderWords.fault_behind.Given as goal

abbrev pub invariant-loop-fault : goal.invariant-loop-fault
invariant-loop-fault l = record {
  within : l.at ≤ length l.text;
  same : fault_behind (header_words_view l.words) (left_from l.text l.at).pieces (left_from l.text l.at).end ≡ fault_behind (header_words_view l.fn.self) (left_from l.text l.pos).pieces (left_from l.text l.pos).end;
}

abbrev pub decreases-loop-fault : goal.decreases-loop-fault
decreases-loop-fault l = length l.text - l.at
