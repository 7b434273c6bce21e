use Rattle.std.proofs.Common.{ltb, ap, ◌∙◌}
use Rattle.design_tables.proofs.OnceLemmas.{units_are}
use Rattle.design_tables.proofs.tables.Tables.has_units.Goals as goal

pub returns : goal.returns
returns g c = λ xs are. ap (ltb 0) c.count.ensures ∙ units_are xs c.self.inside.names (rw c.self.view_is are)
