use Rattle.std.proofs.Common.{◌≡◌, true, take, min}
use Rattle.std.specs.Prelude.{fold}
use Rattle.std.specs.List.{list_all}
use Rattle.std.specs.Char.{is_ascii_digit}
use Rattle.design_model.specs.Units.{one_more}
use Rattle.unit_numbers.proofs.digits.spelled.Given as goal

abbrev pub invariant-loop-byte : goal.invariant-loop-byte
invariant-loop-byte l = record {
  all : list_all is_ascii_digit (take l.byte-index l.text) ≡ true;
  value : l.value ≡ min (fold one_more l.fn.front (take l.byte-index l.text)) 1000000000000000001;
}
