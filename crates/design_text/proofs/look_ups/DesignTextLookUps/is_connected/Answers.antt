use Rattle.std.proofs.Common.{◌≡◌, ◌∙◌, rules, sym, ap}
use Rattle.std.specs.List.{zip}
use Rattle.def_grammar.specs.Parts.{is_some}
use Rattle.design_tables.specs.Lookups.{is_design_pin, is_of, lists}
use Rattle.design_text.specs.DesignTexts.{Content, is_listing, numbers_of}
use Rattle.design_text.proofs.EntryLists.{listed_pin, listing_any, own_lists}
use Rattle.design_text.proofs.FoundNumbers.{numbers_asked}
use Rattle.design_text.proofs.FoundStatements.{any_zip, first_is, many_are}
use Rattle.design_text.proofs.look_ups.DesignTextLookUps.is_connected.Goals as goal

pub returns-then-is_word : goal.returns-then-is_word
returns-then-is_word g c = λ design reads.
    let content = c.args.self.now in
    let owner = c.args.owner.now in
    let pin = c.args.pin.now in
    let k = c.statements_are_known.ensures design reads in
    let tables = rw (ap (λ (v : Content). v.names) (sym c.self.view_is)) at k.tables in
    let xs = zip (numbers_of content) design in
    let there : c.is_some.result ≡ is_some c.next.result = search rules in
    there
    ∙ first_is (lists (is_design_pin pin)) xs c.nets_of_design_pin-nets.result c.next.new.self c.next.result (c.nets_of_design_pin-nets.ensures xs tables) c.next.ensures
    ∙ any_zip (lists (is_design_pin pin)) (numbers_of content) design (many_are content design k)
    ∙ listed_pin owner pin design (sym c.is_word.ensures ∙ c.if-is_word.true)

pub returns : goal.returns
returns g c = λ design reads.
    let content = c.args.self.now in
    let owner = c.args.owner.now in
    let pin = c.args.pin.now in
    let k = c.statements_are_known.ensures design reads in
    let tables = rw (ap (λ (v : Content). v.names) (sym c.self.view_is)) at k.tables in
    let xs = zip (numbers_of content) design in
    let other = sym c.is_word.ensures ∙ c.if-is_word.false in
    c.one_lists.ensures
    ∙ numbers_asked (is_listing owner pin) (lists (is_of owner)) (own_lists owner pin other) content design k c.nets_of.result (c.nets_of.ensures xs tables)
    ∙ listing_any owner pin design
