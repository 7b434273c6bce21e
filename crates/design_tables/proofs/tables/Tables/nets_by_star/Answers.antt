use Rattle.std.proofs.Common.{refl}
use Rattle.design_tables.specs.Lookups.{is_star_pin, lists}
use Rattle.design_tables.specs.declared.role.Role.TheVariants as roles
use Rattle.design_tables.proofs.RecordLemmas.{marked_star_pin}
use Rattle.design_tables.proofs.TableLemmas.{finds_all}
use Rattle.design_tables.proofs.tables.Tables.nets_by_star.Goals as goal

pub returns : goal.returns
returns g c = λ xs are. rw c.numbers.ensures (finds_all c.args.pin.now roles.StarPin refl (lists (is_star_pin c.args.pin.now)) (marked_star_pin c.args.pin.now) xs c.args.self.now are)
