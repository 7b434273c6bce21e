use Rattle.std.proofs.Common.{◌≡◌, drop, map}
use Rattle.def_reader.specs.StatementViews.{records_view}
use Rattle.name_groups.specs.Groups.{grouped}
use Rattle.net_entries.specs.NetEntries.{wired_group, wired_in, wired_name}
use Rattle.net_entries.specs.Places.{group_names}
use Rattle.net_entries.proofs.EntryLemmas.{with_all_wired}
use Rattle.net_entries.proofs.entries.entries_by_net.Given as goal

abbrev pub invariant-loop-statement : goal.invariant-loop-statement
invariant-loop-statement g l = record {
  wired : (library : _) (design : _) (u : _) →
      with_all_wired (map (wired_group library design u) l.groups) (wired_in library design u (records_view (drop l.statement-index l.records))) ≡ grouped wired_name (wired_in library design u (records_view l.records));
  named : g.P.NetPlaces.names l.places ≡ group_names l.groups;
}
