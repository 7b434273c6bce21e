use Rattle.reports.proofs.net_measures.groups_of.Goals as goal

pub returns : goal.returns
returns g c = rw (c.records.ensures) at c.entries_by_net.ensures.entries
