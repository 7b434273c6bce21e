use Rattle.std.proofs.Common.{◌∙◌, sym, ap}
use Rattle.std.specs.List.{zip}
use Rattle.def_grammar.specs.Located.{located}
use Rattle.design_tables.specs.Lookups.{is_named_entry}
use Rattle.design_text.specs.DesignTexts.{Content, numbers_of, text_of}
use Rattle.design_text.proofs.FoundStatements.{found_is, none_is}
use Rattle.design_text.proofs.KeptKeys.{entries_once, entry_first}
use Rattle.design_text.proofs.text.DesignText.entry_found.Goals as goal

pub returns-in_default-clause-gives : goal.returns-in_default-clause-gives
returns-in_default-clause-gives g c = λ design reads.
    let content = c.args.self.now in
    let k = c.statements_are_known.ensures design reads in
    let tables = rw (ap (λ (v : Content). v.names) (sym c.self.view_is)) at k.tables in
    let none = none_is (is_named_entry c.args.section c.args.name.now) content design k (c.in_default.ensures (zip (numbers_of content) design) tables) in
    (none ∙ entry_first c.args.section c.args.name.now (located (text_of content) design))

pub returns-clause-gives : goal.returns-clause-gives
returns-clause-gives g c = λ design reads.
    let content = c.args.self.now in
    let s = c.args.section in
    let name = c.args.name.now in
    let k = c.statements_are_known.ensures design reads in
    let tables = rw (ap (λ (v : Content). v.names) (sym c.self.view_is)) at k.tables in
    let found = found_is (is_named_entry s name) content design k c.in-Some.id (entries_once s name design k.keys) (c.in-Some.ensures (zip (numbers_of content) design) tables) in
    c.found.ensures.gives ∙ found ∙ entry_first s name (located (text_of content) design)
