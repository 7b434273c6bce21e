use Rattle.std.proofs.Common.{◌≡◌, ◌≤◌, ◌∙◌, Some, ℕ, List, sym, ap, ap₂, drop, length, map, arith}
use Rattle.std.specs.Prelude.{option_map}
use Rattle.std.proofs.lemmas.List.{take_rest}
use Rattle.text_pieces.specs.Statements.{bytes_in, lead}
use Rattle.text_pieces.specs.Tables.{Kept, kept, kept_at}
use Rattle.text_pieces.proofs.PlacedPieces.{no_statement, statement_is}
use Rattle.text_pieces.proofs.Weights.{no_start}
use Rattle.text_pieces.proofs.text.TextPieces.statement.Goals as goal

pub returns-in_default : goal.returns-in_default
returns-in_default g c =
    let slots = map (option_map kept) c.self.inside.table.pieces.slots in
    rw (← c.self.view_is) (
    sym (ap (option_map (bytes_in _)) (no_statement c.texts_are_read.ensures _ c.self.invariant c.args.id (no_start slots 0 c.args.id _ c.in_default.ensures))))

pub returns : goal.returns
returns g c =
    let slots = map (option_map kept) c.self.inside.table.pieces.slots in
    let id = c.args.id in
    let bytes = (kept_at slots id).bytes in
    let e = c.in-Some.ensures in
    let own : c.as_slice-bytes.result.now ≡ bytes = c.as_slice-bytes.ensures ∙ ap (λ (k : Kept). k.bytes) e.0 in
    let first : c.lead.result ≡ lead bytes = c.lead.ensures.lead ∙ ap lead own in
    let low : lead bytes ≤ length bytes = omega (arith, first, c.lead.ensures.within, ap length own) in
    rw (← c.self.view_is) (
    ap (λ (l : List ℕ). Some l) (take_rest c.as_slice-bytes.result.now c.lead.result ∙ ap₂ (λ (n : ℕ) (l : List ℕ). drop n l) first own)
    ∙ sym (statement_is c.texts_are_read.ensures _ c.self.invariant id e.1 low))
