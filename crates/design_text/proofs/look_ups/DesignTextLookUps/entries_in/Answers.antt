use Rattle.std.proofs.Common.{◌∙◌, sym, ap, arith}
use Rattle.std.specs.List.{zip}
use Rattle.design_text.specs.DesignTexts.{Content, numbers_of, text_of}
use Rattle.design_text.proofs.EntryLists.{counted, few_in_text}
use Rattle.design_text.proofs.FoundStatements.{many_are}
use Rattle.design_text.proofs.look_ups.DesignTextLookUps.entries_in.Goals as goal

pub returns-clause-gives : goal.returns-clause-gives
returns-clause-gives g c = λ design reads.
    let content = c.args.self.now in
    let k = c.statements_are_known.ensures design reads in
    let tables = rw (ap (λ (v : Content). v.names) (sym c.self.view_is)) at k.tables in
    c.entries_in.ensures (zip (numbers_of content) design) tables ∙ counted c.args.section (numbers_of content) design (many_are content design k)

pub returns-clause-few : goal.returns-clause-few
returns-clause-few g c =
    let content = c.args.self.now in
    let inv = rw c.self.view_is at c.self.invariant in
    let k = c.statements_are_known.ensures inv.design inv.reads in
    let tables = rw (ap (λ (v : Content). v.names) (sym c.self.view_is)) at k.tables in
    let all = c.entries_in.ensures (zip (numbers_of content) inv.design) tables ∙ counted c.args.section (numbers_of content) inv.design (many_are content inv.design k) in
    let few = few_in_text c.args.section (text_of content) inv.design k.said in
    omega (arith, all, few)
