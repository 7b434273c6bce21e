use Rattle.std.proofs.Common.{ap, sym, ◌∙◌}
use Rattle.std.specs.Option.{option_map}
use Rattle.def_grammar.specs.Records.{read_def}
use Rattle.edit_rules.specs.ComponentEdits.{unplace_it}
use Rattle.place_parts.specs.ComponentViews.{component_view}
use Rattle.def_splice.specs.Lying.{lying_component}
use Rattle.def_splice.proofs.ComponentSteps.{component_follows, some_tokens}
use Rattle.def_splice.proofs.PlaceLemmas.{design_of}
use Rattle.def_splice.proofs.component.unplace_splices.Goals as goal

pub in_text-requires-clause-lies : goal.in_text-requires-clause-lies
in_text-requires-clause-lies g c = rw c.len.ensures c.in-Some.ensures.lies.within

pub returns-clause-makes : goal.returns-clause-makes
returns-clause-makes g c =
    let text = g.L.LookUps.text c.args.lookups.now in
    let read = design_of (read_def text) c.requires.reads in
    let found = sym (c.component.ensures.gives read.0 read.1) ∙ ap (option_map lying_component) c.in-Some.is in
    component_follows c.args.library.now text c.args.component.now (unplace_it) (c.in-Some.parts, c.in-Some.entry) read.0 read.1 found c.edits_stand_in_order.ensures c.in-Some.ensures.lies (some_tokens (component_view c.in-Some.parts) c.in-Some.entry c.in-Some.ensures.spelled)
    c.entry_unplaced-splice.result c.entry_unplaced-splice.ensures.gives c.in_text.result (λ plan firm one. c.in_text.ensures.follows text plan (sym c.len.ensures) c.in-Some.ensures.lies firm one)
