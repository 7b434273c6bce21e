use Rattle.std.proofs.Common.{refl}
use Rattle.design_model.specs.EnumWords.{section_word}
use Rattle.design_tables.specs.Lookups.{is_end}
use Rattle.design_tables.specs.declared.role.Role.TheVariants as roles
use Rattle.design_tables.proofs.RecordLemmas.{marked_end}
use Rattle.design_tables.proofs.TableLemmas.{finds}
use Rattle.design_tables.proofs.tables.Tables.end.Goals as goal

pub returns : goal.returns
returns g c = λ xs are. finds (section_word c.args.section) roles.SectionEnd refl (is_end c.args.section) (marked_end c.args.section) xs c.args.self.now are c.next.result c.next.new.self (rw (c.numbers.ensures, c.word.ensures) at c.next.ensures)
