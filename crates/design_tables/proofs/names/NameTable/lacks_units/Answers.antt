use Rattle.std.proofs.Common.{◌∙◌, ap, nat_eq}
use Rattle.design_tables.specs.Prepared.{has_none}
use Rattle.design_tables.proofs.names.NameTable.lacks_units.Goals as goal

pub returns-in-Some : goal.returns-in-Some
returns-in-Some g c = ap (λ n. nat_eq n 0) c.count.ensures ∙ ap has_none c.in-Some.ensures

pub returns-in-None : goal.returns-in-None
returns-in-None g c = ap has_none c.in-None.ensures
