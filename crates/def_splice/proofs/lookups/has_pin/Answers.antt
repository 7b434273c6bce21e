use Rattle.std.proofs.Common.{◌≡◌, None, Some, ap, sym, ◌∙◌, rules}
use Rattle.std.specs.Option.{option_map}
use Rattle.def_grammar.specs.Parts.{is_some}
use Rattle.lef_grammar.specs.Library.{macro_named}
use Rattle.cell_library.specs.CellViews.{cell_view}
use Rattle.cell_library.specs.Naming.{seen_by}
use Rattle.cell_library.specs.PinViews.{pin_view}
use Rattle.def_splice.specs.Lying.{lying_component}
use Rattle.def_splice.proofs.PinLemmas.{has_macro_pin, has_no_component, macro_seen, no_macro}
use Rattle.def_splice.proofs.lookups.has_pin.Goals as goal

pub returns-in_default : goal.returns-in_default
returns-in_default g c = λ design reads.
    let none = sym (ap (option_map lying_component) c.in_default.is) ∙ c.component.ensures.gives design reads in
    has_no_component c.records_are_read.ensures.located (g.L.LookUps.text c.args.lookups.now) design reads c.args.library.now c.args.component.now c.args.pin.now none

pub returns-in_default-macro_of : goal.returns-in_default-macro_of
returns-in_default-macro_of g c = λ design reads.
    let found = sym (ap (option_map lying_component) c.in-Some.is) ∙ c.component.ensures.gives design reads in
    let x = lying_component (c.in-Some.parts, c.in-Some.field-0-1) in
    let none = no_macro c.args.library.now (macro_named c.args.library.now x.1.cell) (sym (ap (option_map cell_view) c.in_default-macro_of.is) ∙ c.macro_of.ensures) in
    has_macro_pin c.records_are_read.ensures.located (g.L.LookUps.text c.args.lookups.now) design reads c.args.library.now c.args.component.now c.args.pin.now x found None none

pub returns : goal.returns
returns g c = λ design reads.
    let found = sym (ap (option_map lying_component) c.in-Some.is) ∙ c.component.ensures.gives design reads in
    let x = lying_component (c.in-Some.parts, c.in-Some.field-0-1) in
    let cell = cell_view c.in-Some-macro_of.cell in
    let seen = macro_seen c.args.library.now (macro_named c.args.library.now x.1.cell) cell (sym (ap (option_map cell_view) c.in-Some-macro_of.is) ∙ c.macro_of.ensures) in
    let there : c.is_some.result ≡ is_some (option_map (seen_by pin_view c.args.pin.now) c.pin.result) = search rules in
    there
    ∙ ap is_some c.pin.ensures
    ∙ has_macro_pin c.records_are_read.ensures.located (g.L.LookUps.text c.args.lookups.now) design reads c.args.library.now c.args.component.now c.args.pin.now x found (Some cell.cell) seen
