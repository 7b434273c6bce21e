use Rattle.std.proofs.Common.{refl}
use Rattle.design_model.specs.EnumWords.{section_word}
use Rattle.design_tables.specs.Lookups.{is_header}
use Rattle.design_tables.specs.declared.role.Role.TheVariants as roles
use Rattle.design_tables.proofs.RecordLemmas.{marked_header}
use Rattle.design_tables.proofs.TableLemmas.{finds}
use Rattle.design_tables.proofs.tables.Tables.header.Goals as goal

pub returns : goal.returns
returns g c = λ xs are. finds (section_word c.args.section) roles.Statement refl (is_header c.args.section) (marked_header c.args.section) xs c.args.self.now are c.next.result c.next.new.self (rw (c.numbers.ensures, c.word.ensures) at c.next.ensures)
