use Rattle.design_tables.proofs.UpdateLemmas.{given_is}
use Rattle.design_tables.proofs.names.NameTable.put_back.Goals as goal

pub returns : goal.returns
returns g c = given_is c.self.inside.names c.insert.new.self c.args.self.now c.self.view_is c.args.name.now c.in_ok-name.name c.in_ok-name.ensures c.push.new.self c.in_ok-insert.ensures.updates _ c.in_ok-push.ensures
