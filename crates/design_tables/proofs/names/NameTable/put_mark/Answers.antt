use Rattle.design_tables.specs.Changes.{is_gone}
use Rattle.design_tables.proofs.EditLemmas.{copied_here, edited_copied, edited_put}
use Rattle.design_tables.proofs.names.NameTable.put_mark.Goals as goal

pub returns : goal.returns
returns g c = λ outs puts e.
    let gone = is_gone c.args.gone.now.keys in
    let name = c.args.mark.now.name.now in
    let there = c.in_ok-copy.ensures.there in
    edited_put gone c.args.from.now outs puts c.copy.new.self (edited_copied gone c.args.from.now outs puts c.args.self.now e c.copy.new.self name c.in_ok-copy.ensures.copied there) c.put.new.self name _ (copied_here c.args.self.now c.copy.new.self name (there name)) c.in_ok-put.ensures.there (rw c.in_ok-new.ensures at c.in_ok-put.ensures.put)
