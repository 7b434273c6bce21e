use Rattle.std.proofs.Common.{◌∙◌, ap, sum_by, sym}
use Rattle.std.specs.List.{list_any, zip}
use Rattle.design_tables.specs.Lookups.{is_of, lists}
use Rattle.design_text.specs.DesignTexts.{Content, design_of, numbers_of}
use Rattle.design_text.proofs.EntriesOnce.{any_said, found_once, found_so}
use Rattle.design_text.proofs.ListedEntries.{listing_is}
use Rattle.design_text.proofs.text.DesignText.entries_listing.Goals as goal

pub returns-clause-listing : goal.returns-clause-listing
returns-clause-listing g c =
    let content = c.args.self.now in
    let design = design_of content in
    let wide = lists (is_of c.args.component.now) in
    let k = c.statements_are_known.ensures design c.design_is_read.ensures.reads in
    let tables = rw (ap (λ (v : Content). v.names) (sym c.self.view_is)) at k.tables in
    let finds = c.nets_of.ensures (zip (numbers_of content) design) tables in
    found_so (λ v f test. listing_is wide test content design k f.ids (λ id. f.same id ∙ finds id) ∙ sym (any_said content test f.ids) ∙ ap (list_any test) (sym f.says)) c.each_found.result c.each_found.ensures

pub returns-clause-once : goal.returns-clause-once
returns-clause-once g c =
    let content = c.args.self.now in
    let design = design_of content in
    let wide = lists (is_of c.args.component.now) in
    let k = c.statements_are_known.ensures design c.design_is_read.ensures.reads in
    let tables = rw (ap (λ (v : Content). v.names) (sym c.self.view_is)) at k.tables in
    let finds = c.nets_of.ensures (zip (numbers_of content) design) tables in
    found_so (λ v f w. found_once content design k wide f.ids f.once (λ id. f.same id ∙ finds id) w ∙ ap (sum_by w) (sym f.says)) c.each_found.result c.each_found.ensures
