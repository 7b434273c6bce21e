use Rattle.std.proofs.Common.{ap, map, ◌∙◌}
use Rattle.design_model.specs.Views.{rectangle_of}
use Rattle.def_reader.specs.StatementViews.{record_view}
use Rattle.text_pieces.specs.KeptRecords.{record_of}
use Rattle.text_pieces.specs.Tables.{kept_at}
use Rattle.followed_places.proofs.MetLemmas.{found_boxes, found_have_pieces}
use Rattle.followed_places.proofs.own_lines.met.Goals as goal

pub kept-requires : goal.kept-requires
kept-requires g c =
    rw c.deref.ensures.value (found_have_pieces c.args.library.now c.args.scale c.args.text.now.pieces.table.slots c.requires.kept.0 c.args.boxes.now c.requires.kept.1 (rectangle_of c.args.rect) c.in_ok-found.found.ids.items c.in_ok-found.ensures.those)

pub returns-clause-components : goal.returns-clause-components
returns-clause-components g c ids are =
    found_boxes c.args.library.now c.args.scale c.args.text.now.pieces.table.slots ids c.args.boxes.now are (rectangle_of c.args.rect) c.in_ok-found.found.ids.items c.in_ok-found.ensures.those
    (map record_view c.deref-2.result.now) _ (ap (map record_view) c.deref-2.ensures.value ∙ c.in_ok-statements.ensures ∙ ap (map (λ id. record_of (kept_at c.args.text.now.pieces.table.slots id))) c.deref.ensures.value) c.in_ok-components.ensures
