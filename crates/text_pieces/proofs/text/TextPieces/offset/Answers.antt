use Rattle.std.proofs.Common.{◌≡◌, ◌+◌, ◌∙◌, ℕ, Option, Some, sym, ap, length, map, arith}
use Rattle.std.specs.Prelude.{option_map}
use Rattle.lefdef_tokens.specs.declared.span.Span.{Span}
use Rattle.text_pieces.specs.Chunks.{shown}
use Rattle.text_pieces.specs.Statements.{lead}
use Rattle.text_pieces.specs.Tables.{Kept, ids_of, kept, kept_at, table_of}
use Rattle.text_pieces.proofs.Found.{chunks_held, start_fits, start_held}
use Rattle.text_pieces.proofs.PlacedPieces.{no_statement, piece_span, span_is}
use Rattle.text_pieces.proofs.Shown.{is_there, kept_is}
use Rattle.text_pieces.proofs.text.TextPieces.offset.Goals as goal

pub returns-in_default : goal.returns-in_default
returns-in_default g c =
    rw (← c.self.view_is) (sym (ap (option_map (λ (s : Span). s.lo)) (no_statement c.texts_are_read.ensures _ c.self.invariant c.args.id (sym c.in_default.ensures))))

pub index-requires : goal.index-requires
index-requires g c =
    let slots = map (option_map kept) c.self.inside.table.pieces.slots in
    let ids = ids_of (table_of c.self.inside.table) in
    let held = start_held slots 0 c.in-Some.start c.args.id ids (chunks_held slots 0 (map shown c.self.inside.table.chunks.items) c.self.invariant.table.chunks) (sym c.in-Some.ensures) in
    is_there c.self.inside.table.pieces.slots c.args.id _ held

pub overflow_add-result : goal.overflow_add-result
overflow_add-result g c =
    let slots = map (option_map kept) c.self.inside.table.pieces.slots in
    let ids = ids_of (table_of c.self.inside.table) in
    let fits = start_fits slots 0 c.in-Some.start c.args.id ids (sym c.in-Some.ensures) in
    let own = kept_is c.self.inside.table.pieces.slots c.args.id _ c.index.ensures in
    let long = ap (λ (k : Kept). length k.bytes) own in
    let lent = ap length c.as_slice.ensures in
    omega (arith, fits, long, lent, c.lead.ensures.within, c.self.invariant.table.fits)

pub returns : goal.returns
returns g c =
    let slots = map (option_map kept) c.self.inside.table.pieces.slots in
    let id = c.args.id in
    let start = c.in-Some.start in
    let own = kept_is c.self.inside.table.pieces.slots id _ c.index.ensures in
    let first : c.lead.result ≡ lead (kept_at slots id).bytes = c.lead.ensures.lead ∙ ap lead c.as_slice.ensures ∙ sym (ap (λ (k : Kept). lead k.bytes) own) in
    rw (← c.self.view_is) (
    ap (λ (n : ℕ). Some (start + n)) first
    ∙ ap (λ (o : Option ℕ). option_map (λ (s : Span). s.lo) (option_map (λ (n : ℕ). piece_span n (kept_at slots id).bytes) o)) c.in-Some.ensures
    ∙ sym (ap (option_map (λ (s : Span). s.lo)) (span_is c.texts_are_read.ensures _ c.self.invariant id)))
