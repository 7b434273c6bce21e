use Rattle.std.proofs.Common.{◌∙◌, sym, ap}
use Rattle.std.specs.List.{zip}
use Rattle.def_grammar.specs.Located.{located}
use Rattle.design_tables.specs.Lookups.{is_named_entry}
use Rattle.design_text.specs.DesignTexts.{Content, numbers_of, text_of}
use Rattle.design_text.proofs.EntryPlaces.{bytes_are, no_bytes}
use Rattle.design_text.proofs.FoundStatements.{found_is, none_is}
use Rattle.design_text.proofs.KeptKeys.{entries_once, entry_first}
use Rattle.design_text.proofs.text.DesignText.statement.Goals as goal

pub returns-in_default : goal.returns-in_default
returns-in_default g c = λ design reads.
    let content = c.args.self.now in
    let s = c.args.section in
    let name = c.args.name.now in
    let k = c.statements_are_known.ensures design reads in
    let tables = rw (ap (λ (v : Content). v.names) (sym c.self.view_is)) at k.tables in
    let none = none_is (is_named_entry s name) content design k (c.in_default.ensures (zip (numbers_of content) design) tables) in
    (sym (none ∙ entry_first s name (located (text_of content) design)))

pub returns-in_default-statement : goal.returns-in_default-statement
returns-in_default-statement g c = λ design reads.
    let content = c.args.self.now in
    let s = c.args.section in
    let name = c.args.name.now in
    let k = c.statements_are_known.ensures design reads in
    let tables = rw (ap (λ (v : Content). v.names) (sym c.self.view_is)) at k.tables in
    let found = found_is (is_named_entry s name) content design k c.in-Some.id (entries_once s name design k.keys) (c.in-Some.ensures (zip (numbers_of content) design) tables) in
    let it = found ∙ entry_first s name (located (text_of content) design) in
    let none = rw (ap (λ (v : Content). v.pieces) c.self.view_is) at c.in_default-statement.ensures in
    (sym it ∙ no_bytes content c.in-Some.id none)

pub returns : goal.returns
returns g c = λ design reads.
    let content = c.args.self.now in
    let s = c.args.section in
    let name = c.args.name.now in
    let k = c.statements_are_known.ensures design reads in
    let tables = rw (ap (λ (v : Content). v.names) (sym c.self.view_is)) at k.tables in
    let found = found_is (is_named_entry s name) content design k c.in-Some.id (entries_once s name design k.keys) (c.in-Some.ensures (zip (numbers_of content) design) tables) in
    let it = found ∙ entry_first s name (located (text_of content) design) in
    let bytes = rw (ap (λ (v : Content). v.pieces) c.self.view_is) at c.in-Some-statement.ensures in
    let pos = rw (ap (λ (v : Content). v.pieces) c.self.view_is) at c.in-Some-offset.ensures in
    let b = bytes_are content c.in-Some.id c.in-Some-statement.bytes.now c.in-Some-offset.pos bytes pos in
    (b.0, sym it ∙ b.1, b.2, b.3)
