use Rattle.std.proofs.Common.{◌≡◌, ap, sym, ◌∙◌, rules}
use Rattle.std.specs.Option.{option_map}
use Rattle.design_model.specs.declared.mode.Section.TheVariants.{Pins}
use Rattle.def_grammar.specs.Parts.{is_some}
use Rattle.def_splice.specs.Lying.{lying_statement}
use Rattle.def_splice.proofs.NetLemmas.{stands_found}
use Rattle.def_splice.proofs.lookups.is_design_pin.Goals as goal

pub returns : goal.returns
returns g c = λ design reads.
    let there : c.is_some.result ≡ is_some (option_map lying_statement c.entry.result) = search rules in
    there ∙ ap is_some (c.entry.ensures.gives design reads) ∙ sym (stands_found c.records_are_read.ensures.located (g.L.LookUps.text c.args.lookups.now) design reads c.args.pin.now Pins)
