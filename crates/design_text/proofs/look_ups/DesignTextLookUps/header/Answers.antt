use Rattle.std.proofs.Common.{◌∙◌, List, sym, ap}
use Rattle.std.specs.List.{zip}
use Rattle.std.specs.Option.{option_map}
use Rattle.statement_model.specs.Tokens.{Token}
use Rattle.def_grammar.specs.Located.{located}
use Rattle.def_grammar.specs.Records.{Record}
use Rattle.edit_rules.specs.SectionEdits.{is_header}
use Rattle.def_splice.proofs.SearchSteps.{tokens_of_first}
use Rattle.design_text.specs.DesignTexts.{Content, numbers_of, text_of}
use Rattle.design_text.proofs.FoundStatements.{found_is, none_is}
use Rattle.design_text.proofs.KeptKeys.{headers_once}
use Rattle.design_text.proofs.look_ups.DesignTextLookUps.header.Goals as goal

pub returns-in_default-clause-gives : goal.returns-in_default-clause-gives
returns-in_default-clause-gives g c = λ design reads.
    let content = c.args.self.now in
    let s = c.args.section in
    let k = c.statements_are_known.ensures design reads in
    let tables = rw (ap (λ (v : Content). v.names) (sym c.self.view_is)) at k.tables in
    let none = none_is (is_header s) content design k (c.in_default.ensures (zip (numbers_of content) design) tables) in
    (ap (option_map (λ (x : List Token × Record). x.0)) none ∙ sym (tokens_of_first (is_header s) (located (text_of content) design)))

pub returns-clause-gives : goal.returns-clause-gives
returns-clause-gives g c = λ design reads.
    let content = c.args.self.now in
    let s = c.args.section in
    let k = c.statements_are_known.ensures design reads in
    let tables = rw (ap (λ (v : Content). v.names) (sym c.self.view_is)) at k.tables in
    let found = found_is (is_header s) content design k c.in-Some.id (headers_once s design k.keys) (c.in-Some.ensures (zip (numbers_of content) design) tables) in
    c.tokens_of.ensures.gives ∙ ap (option_map (λ (x : List Token × Record). x.0)) found ∙ sym (tokens_of_first (is_header s) (located (text_of content) design))
