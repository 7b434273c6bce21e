use Rattle.std.proofs.Common.{refl}
use Rattle.design_tables.specs.Lookups.{is_named_entry}
use Rattle.design_tables.specs.declared.role.Role.TheVariants as roles
use Rattle.design_tables.proofs.RecordLemmas.{marked_entry}
use Rattle.design_tables.proofs.TableLemmas.{finds}
use Rattle.design_tables.proofs.tables.Tables.find.Goals as goal

pub returns : goal.returns
returns g c = λ xs are. finds c.args.name.now (roles.Entry c.args.section) refl (is_named_entry c.args.section c.args.name.now) (marked_entry c.args.section c.args.name.now) xs c.args.self.now are c.next.result c.next.new.self (rw c.numbers.ensures at c.next.ensures)
