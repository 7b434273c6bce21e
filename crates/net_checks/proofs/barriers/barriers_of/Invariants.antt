use Rattle.std.proofs.Common.{◌≡◌, ◌++◌, drop, flat_map, map}
use Rattle.def_reader.specs.StatementViews.{records_view}
use Rattle.connection_rules.specs.NetLines.{barriers_of}
use Rattle.net_touches.specs.Barriers.{barrier_view}
use Rattle.net_checks.proofs.barriers.barriers_of.Given as goal

abbrev pub invariant-loop-statement : goal.invariant-loop-statement
invariant-loop-statement g l = map barrier_view l.found.items ++ flat_map (barriers_of l.library.layers) (records_view (drop l.statement-index l.records)) ≡ flat_map (barriers_of l.library.layers) (records_view l.records)
