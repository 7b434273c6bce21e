use Rattle.std.proofs.Common.{[], ◌∙◌, refl, sym}
use Rattle.design_tables.specs.Changes.{is_gone}
use Rattle.design_tables.specs.declared.role.Mark.{Mark}
use Rattle.design_tables.proofs.EditLemmas.{copied_here, edited_copied, edited_out, is_counted, not_counted}
use Rattle.design_tables.proofs.names.NameTable.take_mark.Goals as goal

pub returns-then-is : goal.returns-then-is
returns-then-is g c = λ outs id e.
    let gone = is_gone c.args.gone.now.keys in
    let name = c.args.mark.now.name.now in
    let m : Mark = record { role = c.args.mark.now.role; id = id } in
    let there = c.in_ok-copy.ensures.there in
    edited_out gone c.args.from.now outs c.copy.new.self (edited_copied gone c.args.from.now outs [] c.args.self.now e c.copy.new.self name c.in_ok-copy.ensures.copied there) c.uncount.new.self name m (copied_here c.args.self.now c.copy.new.self name (there name))
    c.uncount.ensures.names (is_counted c.copy.new.self c.uncount.new.self name m (sym c.is.ensures ∙ c.if-is.true) c.uncount.ensures.counted)

pub returns-else-is : goal.returns-else-is
returns-else-is g c = λ outs id e.
    let gone = is_gone c.args.gone.now.keys in
    let name = c.args.mark.now.name.now in
    let m : Mark = record { role = c.args.mark.now.role; id = id } in
    let there = c.in_ok-copy.ensures.there in
    edited_out gone c.args.from.now outs c.copy.new.self (edited_copied gone c.args.from.now outs [] c.args.self.now e c.copy.new.self name c.in_ok-copy.ensures.copied there) c.copy.new.self name m (copied_here c.args.self.now c.copy.new.self name (there name))
    (λ n. refl) (not_counted c.copy.new.self name m (sym c.is.ensures ∙ c.if-is.false))
