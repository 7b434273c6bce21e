use Rattle.std.proofs.Common.{◌≡◌, ◌+◌, not, drop}
use Rattle.std.specs.List.{prefix_len}
use Rattle.edit_rules.specs.Script.{is_blank}
use Rattle.script_lines.proofs.line.word_len.Given as goal

abbrev pub invariant-loop-byte : goal.invariant-loop-byte
invariant-loop-byte l = record {
  count : l.count ≡ l.byte-index;
  all : l.count + prefix_len (λ b. not (is_blank b)) (drop l.byte-index l.line) ≡ prefix_len (λ b. not (is_blank b)) l.line;
}
