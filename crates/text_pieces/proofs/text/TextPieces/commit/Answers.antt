use Rattle.std.proofs.Common.{◌∙◌, ap, map, arith}
use Rattle.std.proofs.lemmas.List.{with_items_is}
use Rattle.text_pieces.specs.Chunks.{shown, shown_change}
use Rattle.text_pieces.proofs.LastingChanges.{leads_back}
use Rattle.text_pieces.proofs.Turning.{finish}
use Rattle.text_pieces.proofs.text.TextPieces.commit.Goals as goal

pub returns-clause-exchanged : goal.returns-clause-exchanged
returns-clause-exchanged g c = λ base other b.
    let chunks = with_items_is c.self.inside.table.chunks c.exchange.new.chunks (omega arith) in
    let changes = with_items_is c.change.inside.changes c.exchange.new.changes (omega arith) in
    rw (c.swap.ensures.x_after, c.swap.ensures.y_after, c.swap-2.ensures.x_after, c.swap-2.ensures.y_after, c.swap-3.ensures.x_after, c.swap-3.ensures.y_after) (
    finish _ _ _ _ base other c.self.invariant (rw (← c.self.view_is, ← c.change.view_is) at b)
    (ap (map shown) chunks ∙ rw (c.deref_mut.ensures.value, c.deref_mut-2.ensures.value) at c.exchange.ensures.chunks)
    (ap (map shown_change) changes ∙ rw (c.deref_mut.ensures.value, c.deref_mut-2.ensures.value) at c.exchange.ensures.changes))

pub returns-clause-leads : goal.returns-clause-leads
returns-clause-leads g c = λ d l. leads_back _ _ d _ _ (returns-clause-exchanged g c) l
