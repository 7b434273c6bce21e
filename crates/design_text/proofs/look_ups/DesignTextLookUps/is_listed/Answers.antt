use Rattle.std.proofs.Common.{◌≡◌, ◌∙◌, rules, sym, ap}
use Rattle.std.specs.List.{zip}
use Rattle.def_grammar.specs.Parts.{is_some}
use Rattle.design_tables.specs.Lookups.{is_of, lists}
use Rattle.design_text.specs.DesignTexts.{Content, numbers_of}
use Rattle.design_text.proofs.EntryLists.{listed_of}
use Rattle.design_text.proofs.FoundStatements.{any_zip, first_is, many_are}
use Rattle.design_text.proofs.look_ups.DesignTextLookUps.is_listed.Goals as goal

pub returns : goal.returns
returns g c = λ design reads.
    let content = c.args.self.now in
    let name = c.args.component.now in
    let k = c.statements_are_known.ensures design reads in
    let tables = rw (ap (λ (v : Content). v.names) (sym c.self.view_is)) at k.tables in
    let xs = zip (numbers_of content) design in
    let there : c.is_some.result ≡ is_some c.next.result = search rules in
    there
    ∙ first_is (lists (is_of name)) xs c.nets_of-nets.result c.next.new.self c.next.result (c.nets_of-nets.ensures xs tables) c.next.ensures
    ∙ any_zip (lists (is_of name)) (numbers_of content) design (many_are content design k)
    ∙ listed_of name design
