use Rattle.std.proofs.Common.{refl}
use Rattle.design_tables.specs.Lookups.{is_of, lists}
use Rattle.design_tables.specs.declared.role.Role.TheVariants as roles
use Rattle.design_tables.proofs.RecordLemmas.{marked_component}
use Rattle.design_tables.proofs.TableLemmas.{finds_all}
use Rattle.design_tables.proofs.tables.Tables.nets_of.Goals as goal

pub returns : goal.returns
returns g c = λ xs are. rw c.numbers.ensures (finds_all c.args.component.now roles.Component refl (lists (is_of c.args.component.now)) (marked_component c.args.component.now) xs c.args.self.now are)
