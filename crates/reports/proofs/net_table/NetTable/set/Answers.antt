use Rattle.reports.proofs.TableLemmas.{set_found}
use Rattle.reports.proofs.net_table.NetTable.set.Goals as goal

pub returns : goal.returns
returns g c = rw (← c.self.view_is) (set_found c.args.name.now c.args.measures c.in_ok-key.key c.self.inside.nets.entries c.insert.new.self.entries c.in_ok-key.ensures c.in_ok-insert.ensures.entries)
