use Rattle.std.proofs.Common.{◌<◌, ◌∙◌, ap, arith, length, sym}
use Rattle.std.proofs.lemmas.Bool.Decides.{nat_tests}
use Rattle.text_pieces.specs.Chunks.{Numbers}
use Rattle.text_pieces.proofs.Shown.{shown_at}
use Rattle.text_pieces.proofs.table.PieceTable.ids_in.Goals as goal

pub returns-in-Some : goal.returns-in-Some
returns-in-Some g c =
    let chunks = c.args.self.now.chunks.items in
    let e = ap length c.deref.ensures.value in
    let test = c.in-Some.ensures.lookup.0 in
    let within : c.args.chunk < length chunks = rw (← e) (grind (arith, nat_tests, test)) in
    let at = rw c.deref.ensures.value at c.in-Some.ensures.lookup.1 in
    c.deref-in-Some.ensures.value ∙ sym (ap (λ (n : Numbers). n.ids) (shown_at chunks c.args.chunk c.in-Some.chunk.now within at))
