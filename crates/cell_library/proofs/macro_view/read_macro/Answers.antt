use Rattle.std.proofs.Common.{◌≡◌, ℕ, List, length, map, ap, arith, refl, Option}
use Rattle.std.proofs.lemmas.List.{length-map}
use Rattle.std.specs.List.{filter_map}
use Rattle.lef_reader.specs.StatementViews.{lef_view}
use Rattle.lef_grammar.specs.Definitions.{Distances, Macro, Pin, macro_of, macro_record, pins_of}
use Rattle.lef_grammar.specs.MacroBlock.{MacroRecord, site_of}
use Rattle.lefdef_tokens.specs.Views.{word_view}
use Rattle.cell_library.specs.MacroViews.{header_said, header_view}
use Rattle.cell_library.specs.PinViews.{pins_view, unchecked_in}
use Rattle.cell_library.specs.Records.{records_view}
use Rattle.cell_library.proofs.InnerLemmas.{inner_exact}
use Rattle.cell_library.proofs.UncheckedLemmas.{few_in_pins}
use Rattle.cell_library.proofs.macro_view.read_macro.Goals as goal

told : (name : List ℕ) (h : Option (List ℕ) × (Option Distances × Option Distances)) (sites : List (List ℕ)) (pins all : List Pin) (rs : List MacroRecord)
    → h ≡ header_said rs → sites ≡ filter_map site_of rs → pins ≡ all
    → ◌≡◌ {A = Macro} (record { name = name; class = h.0; size = h.1.0; origin = h.1.1; sites = sites; pins = pins }) (macro_of name rs all)
told name h sites pins all rs a b c = rw (a, b, c) refl

pub invariant_of-result : goal.invariant_of-result
invariant_of-result g c =
    let inner = c.args.inner.now in
    let few = few_in_pins (records_view inner) in
    let same : unchecked_in (pins_view c.in_ok-read_all.field-0) ≡ unchecked_in (pins_of (records_view inner)) = ap unchecked_in c.in_ok-read_all.ensures in
    let long : length (records_view inner) ≡ length inner = length-map inner lef_view in
    record { few = omega (arith, few, same, long) }

pub returns : goal.returns
returns g c = λ name.
    let recs = records_view c.args.inner.now in
    rw (inner_exact recs c.requires)
    (told name (header_view c.note_all-header.result) (map word_view c.in_ok-sites_of.field-0) (pins_view c.in_ok-read_all.field-0) (pins_of recs) (filter_map macro_record recs)
    (c.note_all-header.ensures name) c.in_ok-sites_of.ensures c.in_ok-read_all.ensures)
