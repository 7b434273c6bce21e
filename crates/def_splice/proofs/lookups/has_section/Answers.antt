use Rattle.std.proofs.Common.{◌≡◌, not, ap, ◌∙◌, rules}
use Rattle.std.specs.List.{list_any}
use Rattle.std.specs.Option.{option_map}
use Rattle.statement_reader.proofs.Steps.{records_are_located}
use Rattle.def_grammar.specs.Located.{located}
use Rattle.def_grammar.specs.Parts.{is_some}
use Rattle.def_grammar.specs.Records.{def}
use Rattle.edit_rules.specs.SectionEdits.{is_header}
use Rattle.def_splice.specs.Lying.{lying_tokens}
use Rattle.def_splice.proofs.SearchSteps.{all_said, is_there}
use Rattle.def_splice.proofs.lookups.has_section.Goals as goal

pub returns : goal.returns
returns g c = λ design reads.
    let there : c.is_some.result ≡ is_some (option_map lying_tokens c.header.result) = search rules in
    there
    ∙ ap is_some (c.header.ensures.gives design reads)
    ∙ is_there (is_header c.args.section) (located (g.L.LookUps.text c.args.lookups.now) design)
    ∙ ap (λ rs. not (not (list_any (is_header c.args.section) rs))) (all_said (records_are_located def) (g.L.LookUps.text c.args.lookups.now) design reads)
