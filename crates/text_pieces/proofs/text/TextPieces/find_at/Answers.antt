use Rattle.std.proofs.Common.{◌≡◌, ◌+◌, ◌∙◌, ℕ, Some, None, sym, ap, length, map, arith}
use Rattle.std.specs.Prelude.{if◌then◌else◌, nat_le, option_map}
use Rattle.text_pieces.specs.Chunks.{shown}
use Rattle.text_pieces.specs.Statements.{lead}
use Rattle.text_pieces.specs.Tables.{Kept, ids_of, kept, kept_at, table_of}
use Rattle.text_pieces.proofs.Found.{chunks_held, piece_fits, piece_held}
use Rattle.text_pieces.proofs.PlacedPieces.{number_is, statement_in, then_is}
use Rattle.text_pieces.proofs.Shown.{is_there, kept_is}
use Rattle.text_pieces.proofs.text.TextPieces.find_at.Goals as goal

pub returns-in_default : goal.returns-in_default
returns-in_default g c =
    let slots = map (option_map kept) c.self.inside.table.pieces.slots in
    rw (← c.self.view_is) (ap (statement_in slots c.args.pos) c.in_default.ensures ∙ sym (number_is c.texts_are_read.ensures _ c.self.invariant c.args.pos))

pub index-requires : goal.index-requires
index-requires g c =
    let slots = map (option_map kept) c.self.inside.table.pieces.slots in
    let ids = ids_of (table_of c.self.inside.table) in
    let held = piece_held slots 0 c.in-Some.start c.args.pos c.in-Some.id ids (chunks_held slots 0 (map shown c.self.inside.table.chunks.items) c.self.invariant.table.chunks) (sym c.in-Some.ensures) in
    is_there c.self.inside.table.pieces.slots c.in-Some.id _ held

pub overflow_add-first : goal.overflow_add-first
overflow_add-first g c =
    let slots = map (option_map kept) c.self.inside.table.pieces.slots in
    let ids = ids_of (table_of c.self.inside.table) in
    let fits = piece_fits slots 0 c.in-Some.start c.args.pos c.in-Some.id ids (sym c.in-Some.ensures) in
    let own = kept_is c.self.inside.table.pieces.slots c.in-Some.id _ c.index.ensures in
    let long = ap (λ (k : Kept). length k.bytes) own in
    let lent = ap length c.as_slice.ensures in
    omega (arith, fits, long, lent, c.lead.ensures.within, c.self.invariant.table.fits)

pub returns : goal.returns
returns g c =
    let slots = map (option_map kept) c.self.inside.table.pieces.slots in
    let id = c.in-Some.id in
    let start = c.in-Some.start in
    let own = kept_is c.self.inside.table.pieces.slots id _ c.index.ensures in
    let first : c.lead.result ≡ lead (kept_at slots id).bytes = c.lead.ensures.lead ∙ ap lead c.as_slice.ensures ∙ sym (ap (λ (k : Kept). lead k.bytes) own) in
    rw (← c.self.view_is) (c.then_some.ensures ∙ then_is (nat_le (start + c.lead.result) c.args.pos) id ∙ ap (λ (n : ℕ). if nat_le (start + n) c.args.pos then Some id else None) first ∙ ap (statement_in slots c.args.pos) c.in-Some.ensures ∙ sym (number_is c.texts_are_read.ensures _ c.self.invariant c.args.pos))
