use Rattle.std.proofs.Common.{◌∙◌, Some, sym, ap}
use Rattle.text_pieces.specs.Tables.{Kept}
use Rattle.text_pieces.proofs.PlacedPieces.{mode_none, mode_some}
use Rattle.text_pieces.proofs.text.TextPieces.mode.Goals as goal

pub returns-in_default : goal.returns-in_default
returns-in_default g c = rw (← c.self.view_is) (sym (mode_none c.texts_are_read.ensures _ c.self.invariant c.args.id c.in_default.ensures))

pub returns : goal.returns
returns g c =
    let e = c.in-Some.ensures in
    rw (← c.self.view_is) (ap (λ (k : Kept). Some k.mode) e.0 ∙ sym (mode_some c.texts_are_read.ensures _ c.self.invariant c.args.id e.1))
