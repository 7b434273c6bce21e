use Rattle.std.proofs.Common.{◌∙◌, ap}
use Rattle.std.specs.Option.{option_map}
use Rattle.def_grammar.specs.Components.{Component}
use Rattle.def_grammar.specs.Located.{located}
use Rattle.def_splice.specs.Lying.{lying_tokens}
use Rattle.design_text.specs.DesignTexts.{text_of}
use Rattle.design_text.proofs.KeptKeys.{component_at_is, component_in}
use Rattle.design_text.proofs.look_ups.DesignTextLookUps.component.Goals as goal

pub returns-in_default-clause-gives : goal.returns-in_default-clause-gives
returns-in_default-clause-gives g c = λ design reads.
    (ap component_in (c.in_default.ensures.gives design reads) ∙ component_at_is c.args.name.now (located (text_of c.args.self.now) design))

pub returns-in_default-component-clause-gives : goal.returns-in_default-component-clause-gives
returns-in_default-component-clause-gives g c = λ design reads.
    let with = option_map (λ (x : Component). (lying_tokens c.in-Some.tokens, x)) in
    (
    ap with c.in_default-component.ensures.gives ∙ ap component_in (c.in-Some.ensures.gives design reads) ∙ component_at_is c.args.name.now (located (text_of c.args.self.now) design))

pub returns-clause-gives : goal.returns-clause-gives
returns-clause-gives g c = λ design reads.
    let with = option_map (λ (x : Component). (lying_tokens c.in-Some.tokens, x)) in
    ap with c.in-Some-component.ensures.gives ∙ ap component_in (c.in-Some.ensures.gives design reads) ∙ component_at_is c.args.name.now (located (text_of c.args.self.now) design)
