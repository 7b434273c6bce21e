use Rattle.std.proofs.Common.{List, ◌∷◌, ◌+◌, ap, map, sym, ◌∙◌, drop}
use Rattle.std.proofs.lemmas.List.{take_rest}
use Rattle.std.specs.Option.{option_map}
use Rattle.lef_grammar.specs.Definitions.{Distances}
use Rattle.lef_reader.specs.StatementViews.{lef_view}
use Rattle.lefdef_tokens.specs.Views.{word_view}
use Rattle.cell_library.specs.Records.{records_view}
use Rattle.cell_library.specs.ShapeViews.{rectangles_behind, shapes_view}
use Rattle.cell_library.proofs.CollectingLemmas.{collected, passed}
use Rattle.cell_library.proofs.ShapeLemmas.{layer_first, no_layer_first, no_layer_left, shapes_in}
use Rattle.cell_library.proofs.shapes.shapes_among.Goals as goal
use Rattle.cell_library.proofs.shapes.shapes_among.Goals.{in-Some+in_ok-rectangles+in_ok-push, in_default}

pub loop-place-preserved : goal.loop-place-preserved
loop-place-preserved g c =
    let l = c.loop-place in
    let inner = c.args.inner.now in
    let s = c.index-inner-place.result in
    let rest = records_view (drop (l.place + 1) inner) in
    elim c.match-layer_of.branch [
      | in-Some+in_ok-rectangles+in_ok-push w ↦
          let layer = w.in-Some.layer.now in
          let behind = w.in_ok-rectangles.ensures ∙ ap (λ ss. rectangles_behind (records_view ss)) (take_rest inner (l.place + 1)) in
          collected lef_view shapes_view shapes_in inner l.place s c.loop-place-test.true c.index-inner-place.is l.shapes c.match-layer_of.shapes (record { layer = w.in-Some.layer; rectangles = w.in_ok-rectangles.rectangles })
          (layer_first (lef_view s) rest layer (sym c.layer_of.ensures ∙ ap (option_map word_view) w.in-Some.is) ∙ ap (λ (rs : List (Distances × Distances)). record { layer = layer; rectangles = rs } ∷ shapes_in rest) (sym behind))
          (w.shapes-is ∙ w.in_ok-push.ensures.ok)
          ∙ l.invariant
      | in_default w ↦
          passed lef_view shapes_view shapes_in inner l.place s c.loop-place-test.true c.index-inner-place.is l.shapes c.match-layer_of.shapes
          (no_layer_first (lef_view s) rest (sym c.layer_of.ensures ∙ ap (option_map word_view) w.in_default.is)) w.shapes-is
          ∙ l.invariant
    ]

pub returns : goal.returns
returns g c =
    let l = c.loop-place in
    ap (map shapes_view) c.fitted.ensures ∙ sym (no_layer_left c.args.inner.now l.place (map shapes_view l.shapes) c.loop-place-test.false) ∙ l.invariant
