use Rattle.std.proofs.Common.{◌≡◌, ◌++◌, List, drop, map}
use Rattle.connection_rules.specs.NetParts.{Part}
use Rattle.line_laws.specs.Lines.{SameThings}
use Rattle.kept_nets.specs.Parts.{part_view}
use Rattle.kept_nets.proofs.Telling.{Telling}
use Rattle.kept_nets.proofs.net.KeptNet.take_out.Given as goal

abbrev pub invariant-loop-part : goal.invariant-loop-part
invariant-loop-part g l = record {
  left : SameThings (map part_view (drop l.part-index l.parts) ++ l.fn.self.parts) (map part_view l.parts ++ l.self.parts);
  told : (stay : List Part) → SameThings l.self.parts (map part_view (drop l.part-index l.parts) ++ stay) → Telling part_view l.fn.told l.told l.parts (drop l.part-index l.parts) stay l.fn.looks.tests l.looks.tests;
  name : l.self.name ≡ l.fn.self.name;
  power : l.self.is_power ≡ l.fn.self.is_power;
}
