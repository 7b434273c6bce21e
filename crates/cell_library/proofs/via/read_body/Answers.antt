use Rattle.std.proofs.Common.{◌≡◌, Bool, true, false, List, [], ℕ, ap, sym, ◌∙◌, Option, Some, None, is_some, unwrap_or}
use Rattle.lef_grammar.specs.Definitions.{GeneratedVia, LayerShapes, generated, generated_by, listed, shapes_by, via_body, via_record}
use Rattle.lef_grammar.specs.ViaBlock.{ViaRecord, is_via_polygon, rule_of, via_layer_of, via_rect_of}
use Rattle.form_meanings.specs.Firsts.{first_of}
use Rattle.std.specs.List.{filter_map}
use Rattle.cell_library.specs.Records.{records_view}
use Rattle.cell_library.specs.ViaViews.{generation_view}
use Rattle.cell_library.proofs.ShapeLemmas.{all_say, same_shapes, via_says}
use Rattle.cell_library.proofs.via.read_body.Goals as goal

by_rule : (o : Option (List ℕ)) (rs : List ViaRecord) (x : Bool × GeneratedVia) → x ≡ (is_some o, generated_by (unwrap_or o []) rs) → x.0 ≡ true → generated x.1 ≡ via_body o rs
by_rule None rs x h k = let no : false ≡ true = sym (ap (λ (y : Bool × GeneratedVia). y.0) h) ∙ k in absurd (cc)
by_rule (Some rule) rs x h k = ap (λ (y : Bool × GeneratedVia). generated y.1) h

by_shapes : (o : Option (List ℕ)) (rs : List ViaRecord) (x : Bool × GeneratedVia) (xs : List LayerShapes) → x ≡ (is_some o, generated_by (unwrap_or o []) rs) → x.0 ≡ false → xs ≡ shapes_by via_layer_of via_rect_of rs → listed xs ≡ via_body o rs
by_shapes None rs x xs h k e = ap listed e
by_shapes (Some rule) rs x xs h k e = let no : true ≡ false = sym (ap (λ (y : Bool × GeneratedVia). y.0) h) ∙ k in absurd (cc)

pub returns-then-generation : goal.returns-then-generation
returns-then-generation g c =
    let rs = filter_map via_record (records_view c.args.inner.now) in
    by_rule (first_of rule_of rs) rs (generation_view c.note_all-generation.result) (c.note_all-generation.ensures []) c.if-generation.true

pub returns : goal.returns
returns g c =
    let recs = records_view c.args.inner.now in
    let rs = filter_map via_record recs in
    by_shapes (first_of rule_of rs) rs (generation_view c.note_all-generation.result) _ (c.note_all-generation.ensures []) c.if-generation.false
    (c.in_ok-shapes_among.ensures ∙ same_shapes via_record via_layer_of via_rect_of is_via_polygon recs (all_say via_record via_layer_of via_rect_of is_via_polygon via_record via_says recs c.requires))
