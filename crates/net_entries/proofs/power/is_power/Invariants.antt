use Rattle.std.proofs.Common.{◌≡◌, drop, map}
use Rattle.std.specs.List.{filter_map, list_any}
use Rattle.connection_rules.specs.NetParts.{Wired, wired_of}
use Rattle.net_entries.specs.NetEntries.{entry_lent}
use Rattle.net_entries.proofs.power.is_power.Given as goal

abbrev pub invariant-loop-lent : goal.invariant-loop-lent
invariant-loop-lent l = (library : _) (design : _) (u : _) →
    list_any (λ (w : Wired). w.is_power) (filter_map (wired_of library design u) (map entry_lent (drop l.lent-index l.entries))) ≡ list_any (λ (w : Wired). w.is_power) (filter_map (wired_of library design u) (map entry_lent l.entries))
