use Rattle.std.proofs.Common.{◌≡◌, ◌+◌, drop}
use Rattle.std.specs.List.{prefix_len}
use Rattle.edit_rules.specs.Script.{is_blank}
use Rattle.script_lines.proofs.line.blanks.Given as goal

abbrev pub invariant-loop-byte : goal.invariant-loop-byte
invariant-loop-byte l = record {
  count : l.count ≡ l.byte-index;
  all : l.count + prefix_len (is_blank) (drop l.byte-index l.line) ≡ prefix_len (is_blank) l.line;
}
