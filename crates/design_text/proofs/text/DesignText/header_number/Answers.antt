use Rattle.std.proofs.Common.{◌∙◌, sym, ap}
use Rattle.std.specs.List.{zip}
use Rattle.edit_rules.specs.SectionEdits.{is_header}
use Rattle.design_text.specs.DesignTexts.{Content, design_of, numbers_of}
use Rattle.design_text.proofs.FoundStatements.{found_is, none_is}
use Rattle.design_text.proofs.HeaderNumbers.{number_found, number_is}
use Rattle.design_text.proofs.KeptKeys.{headers_once}
use Rattle.design_text.proofs.text.DesignText.header_number.Goals as goal

pub returns-in_default : goal.returns-in_default
returns-in_default g c =
    let content = c.args.self.now in
    let s = c.args.section in
    let design = design_of content in
    let k = c.statements_are_known.ensures design c.design_is_read.ensures.reads in
    let tables = rw (ap (λ (v : Content). v.names) (sym c.self.view_is)) at k.tables in
    let none = none_is (is_header s) content design k (c.in_default.ensures (zip (numbers_of content) design) tables) in
    (ap number_found none ∙ number_is s content design k)

pub returns-in_default-found : goal.returns-in_default-found
returns-in_default-found g c =
    let content = c.args.self.now in
    let s = c.args.section in
    let design = design_of content in
    let k = c.statements_are_known.ensures design c.design_is_read.ensures.reads in
    let tables = rw (ap (λ (v : Content). v.names) (sym c.self.view_is)) at k.tables in
    let found = found_is (is_header s) content design k c.in-Some.id (headers_once s design k.keys) (c.in-Some.ensures (zip (numbers_of content) design) tables) in
    (ap number_found (c.in_default-found.ensures.gives ∙ found) ∙ number_is s content design k)

pub returns : goal.returns
returns g c =
    let content = c.args.self.now in
    let s = c.args.section in
    let design = design_of content in
    let k = c.statements_are_known.ensures design c.design_is_read.ensures.reads in
    let tables = rw (ap (λ (v : Content). v.names) (sym c.self.view_is)) at k.tables in
    let found = found_is (is_header s) content design k c.in-Some.id (headers_once s design k.keys) (c.in-Some.ensures (zip (numbers_of content) design) tables) in
    c.number_of.ensures ∙ (ap number_found (c.in-Some-found.ensures.gives ∙ found) ∙ number_is s content design k)
