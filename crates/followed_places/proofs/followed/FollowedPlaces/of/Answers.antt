use Rattle.std.proofs.Common.{◌≡◌, ◌∙◌, List, map, ap}
use Rattle.design_tables.specs.TableViews.{numbered_view}
use Rattle.design_text.specs.Exchanges.{records_in}
use Rattle.statement_boxes.specs.Boxes.{box_view}
use Rattle.followed_places.specs.Places.{keep_outs_under}
use Rattle.followed_places.proofs.followed.FollowedPlaces.of.Goals as goal

pub boxes_of-requires-clause-some : goal.boxes_of-requires-clause-some
boxes_of-requires-clause-some g c = rw c.in_ok-around.ensures.scale c.units_are_good.ensures.some

pub boxes_of-requires-clause-few : goal.boxes_of-requires-clause-few
boxes_of-requires-clause-few g c = rw c.in_ok-around.ensures.scale c.units_are_good.ensures.few

pub returns : goal.returns
returns g c =
    let around = c.in_ok-around.ensures in
    let all : map numbered_view c.deref-2.result.now ≡ records_in c.args.text.now = ap (map numbered_view) c.deref-2.ensures.value ∙ c.in_ok-statements.ensures in
    let listed = ap (map box_view) c.deref-4.ensures.value ∙ c.in_ok-keep_outs.ensures ∙ ap (λ (l : List _). keep_outs_under (map numbered_view l)) c.deref-3.ensures.value ∙ ap keep_outs_under c.in_ok-statements.ensures in
    record { boxes_are = rw (all, around.scale) at c.in_ok-boxes.ensures; keep_outs_are = rw listed at c.in_ok-keep_outs-2.ensures; surroundings_are = around.surroundings; scale_is = around.scale }
