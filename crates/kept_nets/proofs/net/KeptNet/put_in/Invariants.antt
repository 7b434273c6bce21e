use Rattle.std.proofs.Common.{◌≡◌, ◌++◌, length, map}
use Rattle.line_laws.specs.Lines.{SameThings}
use Rattle.kept_nets.specs.Parts.{part_view}
use Rattle.kept_nets.proofs.Telling.{HasAll, Telling}
use Rattle.kept_nets.proofs.net.KeptNet.put_in.Given as goal

abbrev pub invariant-loop-part : goal.invariant-loop-part
invariant-loop-part g l = record {
  same : SameThings (map part_view l.parts.items ++ l.self.parts) (map part_view l.fn.parts.items ++ l.fn.self.parts);
  more : HasAll l.self.parts l.fn.self.parts;
  told : Telling part_view l.fn.told l.told l.fn.parts.items l.parts.items l.fn.self.parts l.fn.looks.tests l.looks.tests;
  name : l.self.name ≡ l.fn.self.name;
  power : l.self.is_power ≡ l.fn.self.is_power;
}

abbrev pub decreases-loop-part : goal.decreases-loop-part
decreases-loop-part g l = length l.parts.items
