use Rattle.std.proofs.Common.{refl}
use Rattle.design_tables.specs.Lookups.{is_design_pin, lists}
use Rattle.design_tables.specs.declared.role.Role.TheVariants as roles
use Rattle.design_tables.proofs.RecordLemmas.{marked_design_pin}
use Rattle.design_tables.proofs.TableLemmas.{finds_all}
use Rattle.design_tables.proofs.tables.Tables.nets_of_design_pin.Goals as goal

pub returns : goal.returns
returns g c = λ xs are. rw c.numbers.ensures (finds_all c.args.pin.now roles.DesignPin refl (lists (is_design_pin c.args.pin.now)) (marked_design_pin c.args.pin.now) xs c.args.self.now are)
