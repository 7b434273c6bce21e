use Rattle.std.proofs.Common.{map, take}
use Rattle.def_reader.specs.StatementViews.{record_view}
use Rattle.followed_nets.proofs.ListedNets.{AreNamed}
use Rattle.followed_nets.proofs.listed.nets_of.Given as goal

abbrev pub invariant-loop-statement : goal.invariant-loop-statement
invariant-loop-statement g l = AreNamed l.nets.items (map record_view (take l.statement-index l.statements))
