use Rattle.std.proofs.Common.{◌∙◌, ap, map, sym}
use Rattle.def_reader.specs.StatementViews.{records_view}
use Rattle.net_entries.specs.NetEntries.{wired_group, wired_in}
use Rattle.net_entries.specs.Places.{group_names}
use Rattle.net_entries.proofs.EntryLemmas.{from_none, with_all_wired}
use Rattle.net_entries.proofs.entries.entries_by_net.Goals as goal

pub loop-statement-init : goal.loop-statement-init
loop-statement-init g c = record {
  wired = λ library design u.
      let ws = wired_in library design u (records_view c.args.records.now) in
      ap (λ gs. with_all_wired (map (wired_group library design u) gs) ws) c.new-groups.ensures ∙ from_none ws;
  named = c.requires ∙ ap group_names (sym c.new-groups.ensures);
}
