use Rattle.std.proofs.Common.{◌<◌, length, refl, sym, ap, ◌∙◌, arith, get_or}
use Rattle.std.proofs.lemmas.List.{get_or_default, get_or-map}
use Rattle.text_pieces.specs.Chunks.{no_numbers, shown, shown_change}
use Rattle.text_pieces.proofs.Going.{turn, place_below}
use Rattle.text_pieces.proofs.chunks.exchange.Goals as goal

pub loop-i-preserved : goal.loop-i-preserved
loop-i-preserved g c =
    let below : c.loop-i.i < length c.loop-i.changes = omega arith in
    let d = c.index-changes-i.result in
    let same = get_or_default c.loop-i.changes c.loop-i.i c.index-changes-i-in-loop-i.result d below in
    let place = (get_or c.loop-i.changes c.loop-i.i d).place in
    let fits = place_below shown shown_change _ _ c.loop-i.i c.loop-i.chunks c.loop-i.changes d c.loop-i.invariant below in
    let put = ap shown c.swap.ensures.x_after ∙ ap (λ e. shown e.chunk) same in
    let taken = ap shown c.swap.ensures.y_after ∙ sym (get_or-map shown c.loop-i.chunks place c.index-chunks-place.result no_numbers fits) in
    turn shown shown_change _ _ c.loop-i.i c.loop-i.chunks c.loop-i.changes d _ c.swap.new.x c.loop-i.invariant below put (rw (same, taken) refl)
