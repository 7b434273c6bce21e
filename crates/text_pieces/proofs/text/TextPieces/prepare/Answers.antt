use Rattle.std.proofs.Common.{◌≡◌, ◌≤◌, ◌+◌, ◌-◌, ◌∙◌, true, refl, sym, ap, length, map, arith, length-append}
use Rattle.std.specs.Prelude.{nat_le, option_map}
use Rattle.std.specs.List.{concat}
use Rattle.std.proofs.lemmas.Bool.Decides.{nat_tests}
use Rattle.design_model.specs.declared.TheConstants.{MAX_TEXT}
use Rattle.statement_model.specs.Cuts.{Cut}
use Rattle.text_pieces.specs.Chunks.{shown_change}
use Rattle.text_pieces.specs.Content.{Content, bytes_of, text_of}
use Rattle.text_pieces.specs.Stretches.{IsStretch, cut_text, stretched}
use Rattle.text_pieces.specs.Tables.{kept, table_of}
use Rattle.text_pieces.proofs.PutPieces.{prepared, text_same, text_stays}
use Rattle.text_pieces.proofs.Stretching.{cut_long}
use Rattle.text_pieces.proofs.text.TextPieces.prepare.Goals as goal

pub place_new-requires-clause-fits : goal.place_new-requires-clause-fits
place_new-requires-clause-fits g c =
    let s = c.self.inside in
    let t = c.self.invariant in
    let content : Content = record { table = table_of s.table; tail = s.tail.items; len = s.len } in
    let cut : Cut = record { lo = c.args.lo; hi = c.args.hi; put = c.args.put.now } in
    let order : cut.lo ≤ cut.hi = c.if-lo-hi.false in
    let within : cut.hi ≤ length (text_of content) = omega (arith, c.if-hi-self.false, t.whole) in
    let long = cut_long content cut order within in
    let test : nat_le ((length (text_of content) - (cut.hi - cut.lo)) + length cut.put) MAX_TEXT ≡ true = rw (← c.self.view_is) at (sym c.fits.ensures ∙ c.if-not-fits.false) in
    let few : (length (text_of content) - (cut.hi - cut.lo)) + length cut.put ≤ MAX_TEXT = grind (arith, nat_tests, test) in
    let fits : length (cut_text content cut) ≤ MAX_TEXT = omega (arith, long, few) in
    let x = c.in_ok-stretch.stretch in
    let is : IsStretch content cut x = rw (← c.self.view_is) at c.in_ok-stretch.ensures in
    let whole = ap length is.whole in
    omega (arith, whole, fits, length-append (concat (bytes_of (stretched content x))) x.tail.items)

pub invariant_of-self : goal.invariant_of-self
invariant_of-self g c =
    let s = c.self.inside in
    let t = c.self.invariant in
    let content : Content = record { table = table_of s.table; tail = s.tail.items; len = s.len } in
    let new = map (option_map kept) c.place_new.new.table.pieces.slots in
    let cs = (table_of c.place_new.new.table).chunks in
    text_stays content t new c.place_new.ensures.stays cs c.place_new.ensures.chunks

pub invariant_of-self-2 : goal.invariant_of-self-2
invariant_of-self-2 g c =
    let s = c.self.inside in
    let t = c.self.invariant in
    let content : Content = record { table = table_of s.table; tail = s.tail.items; len = s.len } in
    let new = map (option_map kept) c.place_new.new.table.pieces.slots in
    let cs = (table_of c.place_new.new.table).chunks in
    text_stays content t new c.place_new.ensures.stays cs c.place_new.ensures.chunks

pub returns-in_default-place_new-clause-still : goal.returns-in_default-place_new-clause-still
returns-in_default-place_new-clause-still g c =
    let s = c.self.inside in
    let t = c.self.invariant in
    let content : Content = record { table = table_of s.table; tail = s.tail.items; len = s.len } in
    let new = map (option_map kept) c.place_new.new.table.pieces.slots in
    let cs = (table_of c.place_new.new.table).chunks in
    rw (← c.self.view_is) (record { chunks = c.place_new.ensures.chunks; kept = c.place_new.ensures.stays; tail = refl; len = refl; text = text_same content t new c.place_new.ensures.stays cs c.place_new.ensures.chunks })

pub returns-clause-still : goal.returns-clause-still
returns-clause-still g c =
    let s = c.self.inside in
    let t = c.self.invariant in
    let content : Content = record { table = table_of s.table; tail = s.tail.items; len = s.len } in
    let new = map (option_map kept) c.place_new.new.table.pieces.slots in
    let cs = (table_of c.place_new.new.table).chunks in
    rw (← c.self.view_is) (record { chunks = c.place_new.ensures.chunks; kept = c.place_new.ensures.stays; tail = refl; len = refl; text = text_same content t new c.place_new.ensures.stays cs c.place_new.ensures.chunks })

pub returns-clause-prepares : goal.returns-clause-prepares
returns-clause-prepares g c =
    let s = c.self.inside in
    let t = c.self.invariant in
    let content : Content = record { table = table_of s.table; tail = s.tail.items; len = s.len } in
    let cut : Cut = record { lo = c.args.lo; hi = c.args.hi; put = c.args.put.now } in
    let order : cut.lo ≤ cut.hi = c.if-lo-hi.false in
    let within : cut.hi ≤ length (text_of content) = omega (arith, c.if-hi-self.false, t.whole) in
    let long = cut_long content cut order within in
    let test : nat_le ((length (text_of content) - (cut.hi - cut.lo)) + length cut.put) MAX_TEXT ≡ true = rw (← c.self.view_is) at (sym c.fits.ensures ∙ c.if-not-fits.false) in
    let few : (length (text_of content) - (cut.hi - cut.lo)) + length cut.put ≤ MAX_TEXT = grind (arith, nat_tests, test) in
    let fits : length (cut_text content cut) ≤ MAX_TEXT = omega (arith, long, few) in
    let x = c.in_ok-stretch.stretch in
    let is : IsStretch content cut x = rw (← c.self.view_is) at c.in_ok-stretch.ensures in
    let new = map (option_map kept) c.place_new.new.table.pieces.slots in
    let cs = (table_of c.place_new.new.table).chunks in
    let len : s.len - (cut.hi - cut.lo) + length cut.put ≡ length (cut_text content cut) = omega (arith, long, t.whole) in
    rw (← c.self.view_is) (prepared content t new c.place_new.ensures.stays g.row.A.Denot cut x is fits _ len (map shown_change c.in-Ok-place_new.changes.items) c.in-Ok.out.items c.in-Ok-place_new.put.items c.in-Ok.ensures cs c.place_new.ensures.chunks c.in-Ok-place_new.ensures.put)
