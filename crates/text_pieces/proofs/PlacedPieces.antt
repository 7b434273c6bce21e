-- Where the statements of pieces stand.
use Rattle.std.proofs.Common.{◌≡◌, ◌≤◌, ◌<◌, ◌+◌, ◌-◌, ℕ, suc, true, false, Bool, List, [], ◌∷◌, ◌++◌, length, map, take, drop, Option, Some, None, Ok, refl, sym, ap, ap₂, ◌∙◌, ⊎_elim, append_assoc, add_assoc, arith, slice_range}
use Rattle.std.specs.Prelude.{nat_le, option_map, if◌then◌else◌, ◌==◌}
use Rattle.std.specs.Bool.{then_some}
use Rattle.std.specs.List.{concat, zip}
use Rattle.std.proofs.lemmas.Bool.{cases_eq, cases_lt}
use Rattle.std.proofs.lemmas.Bool.Decides.{nat_tests}
use Rattle.std.proofs.lemmas.List.{map-append, take_at, drop_at, drop-append-le, drop-drop, length-drop, length-map}
use Rattle.std.proofs.lemmas.List.Folds.{concat-append}
use Rattle.design_model.specs.declared.identifier.StmtId.{StmtId}
use Rattle.design_model.specs.declared.mode.Mode.{Mode}
use Rattle.design_model.specs.declared.mode.Mode.TheVariants.{Top, After}
use Rattle.statement_model.specs.Tokens.{Token, tokens}
use Rattle.statement_model.specs.Boundaries.{cut}
use Rattle.lefdef_tokens.specs.Laws.{moved_token}
use Rattle.lefdef_tokens.specs.TokenViews.{span_of, end_after}
use Rattle.lefdef_tokens.specs.declared.span.Span.{Span}
use Rattle.def_grammar.specs.Records.{Record, def}
use Rattle.piece_laws.specs.PlaceLaws.{TextsAreRead, placed_pieces}
use Rattle.piece_laws.specs.Pieces.{AreChained, IsPiece, modes_from}
use Rattle.piece_laws.proofs.FoundPieces.{end_moved}
use Rattle.text_pieces.specs.Chunks.{IsAbsent}
use Rattle.text_pieces.specs.Content.{Content, IsText, bytes_of, read_keyless, text_of}
use Rattle.text_pieces.specs.Statements.{bytes_in, lead, look_up, modes_by_number, number_at, spans_by_number, statements_of}
use Rattle.text_pieces.specs.Tables.{Kept, Stands, ids_of, kept_at, kept_or, piece_at, standing, start_in, weight}
use Rattle.text_pieces.proofs.Ids.{differ, same}
use Rattle.text_pieces.proofs.Opened.{read_is, weight_is}
use Rattle.text_pieces.proofs.Slots.{same_slot}
use Rattle.text_pieces.proofs.Weights.{above_is, below_is, head_has, head_passed, start_is}

abbrev pub piece_span : ℕ → List ℕ → Span
piece_span start bytes = record { lo = start + lead bytes; hi = start + length bytes }

-- the numbers of pieces, the first of which begins at a place, with where their statements stand
abbrev pub placed : List (Option Kept) → ℕ → List StmtId → List (StmtId × Span)
placed slots start [] = []
placed slots start (x ∷ xs) = (x, piece_span start (kept_at slots x).bytes) ∷ placed slots (start + length (kept_at slots x).bytes) xs

-- a statement is as many places further on as it is moved
span_moved : (k n : ℕ) (own : List Token) (whole : cut (def.ending Top) [] own ≡ Some (own, [])) → (span_of own).hi ≡ n → span_of (map (moved_token k) own) ≡ record { lo = k + (span_of own).lo; hi = k + n }
unfolding cut
span_moved k n [] whole end = absurd (cc)
span_moved k n (p ∷ ps) whole end =
    ap (λ (m : ℕ). record { lo = k + p.pos; hi = m })
    (ap (λ (m : ℕ). end_after m (map (moved_token k) ps)) (add_assoc k p.pos (length p.bytes)) ∙ end_moved k (p.pos + length p.bytes) ps ∙ ap (λ (m : ℕ). k + m) end)

pub piece_spans : (k : ℕ) (m next : Mode) (bytes : List ℕ) (rec : Record) (is : IsPiece def m bytes rec next) → span_of (map (moved_token k) (tokens bytes).pieces) ≡ piece_span k bytes
piece_spans k m next bytes rec is =
    let own : (tokens bytes).pieces ≡ is.statement = is.tokens.pieces in
    ap (λ (ps : List Token). span_of (map (moved_token k) ps)) own
    ∙ span_moved k (length bytes) is.statement is.one is.ends
    ∙ ap (λ (ps : List Token). record { lo = k + (span_of ps).lo; hi = k + length bytes }) (sym own)

pub records_placed : (start : ℕ) (m last : Mode) (ps : List (List ℕ)) (recs : List Record) → AreChained def m ps recs last → map (λ x. x.1) (placed_pieces start ps recs) ≡ recs
records_placed start m last [] [] chain = refl
records_placed start m last [] (r ∷ rs) chain = absurd chain
records_placed start m last (p ∷ ps) [] chain = absurd chain
records_placed start m last (p ∷ ps) (r ∷ rs) chain = ap (λ (l : List Record). r ∷ l) (records_placed (start + length p) chain.0 last ps rs chain.2)

pub then_is : {X : Type 0} (b : Bool) (x : X) → then_some b x ≡ (if b then Some x else None)
then_is true x = refl
then_is false x = refl

many_placed : (start : ℕ) (m last : Mode) (ps : List (List ℕ)) (recs : List Record) → AreChained def m ps recs last → length (placed_pieces start ps recs) ≡ length ps
many_placed start m last [] [] chain = refl
many_placed start m last [] (r ∷ rs) chain = absurd chain
many_placed start m last (p ∷ ps) [] chain = absurd chain
many_placed start m last (p ∷ ps) (r ∷ rs) chain = ap (λ (n : ℕ). suc n) (many_placed (start + length p) chain.0 last ps rs chain.2)

module _ (slots : List (Option Kept)) where
  spans_placed : (start : ℕ) (m last : Mode) (ids : List StmtId) (recs : List Record) → AreChained def m (bytes_of (map (kept_at slots) ids)) recs last
      → zip ids (map (λ x. span_of x.0) (placed_pieces start (bytes_of (map (kept_at slots) ids)) recs)) ≡ placed slots start ids
  spans_placed start m last [] [] chain = refl
  spans_placed start m last [] (r ∷ rs) chain = absurd chain
  spans_placed start m last (x ∷ xs) [] chain = absurd chain
  spans_placed start m last (x ∷ xs) (r ∷ rs) chain =
      let b = (kept_at slots x).bytes in
      ap₂ (λ (s : Span) (l : List (StmtId × Span)). (x, s) ∷ l) (piece_spans start m chain.0 b r chain.1) (spans_placed (start + length b) chain.0 last xs rs chain.2)

  same_kept : (id x : StmtId) → id.0 ≡ x.0 → kept_at slots id ≡ kept_at slots x
  same_kept id x e = ap kept_or (same_slot slots id x e)

  -- the span of a number is that of its piece, from where that begins
  pub look_up_placed : (start : ℕ) (id : StmtId) (ids : List StmtId) → look_up id (placed slots start ids) ≡ option_map (λ n. piece_span n (kept_at slots id).bytes) (start_in slots start id ids)
  look_up_placed start id [] = refl
  look_up_placed start id (x ∷ xs) =
      ⊎_elim
      (λ e.
      let own : (kept_at slots x).bytes ≡ (kept_at slots id).bytes = ap (λ (k : Kept). k.bytes) (same_kept x id e) in
      let t : (x.0 == id.0) ≡ true = rw e (same id.0) in
      rw t (ap (λ (b : List ℕ). Some (piece_span start b)) own))
      (λ apart. rw (differ x.0 id.0 apart) (look_up_placed (start + length (kept_at slots x).bytes) id xs))
      (cases_eq x.0 id.0)

  -- positions before a piece are in no later span
  none_later : (start pos : ℕ) (ids : List StmtId) → pos < start → number_at pos (placed slots start ids) ≡ None
  none_later start pos [] h = refl
  none_later start pos (x ∷ xs) h =
      let b = (kept_at slots x).bytes in
      let low : nat_le (start + lead b) pos ≡ false = grind (arith, nat_tests) in
      rw low (none_later (start + length b) pos xs (omega (arith, h)))

  -- the statement of a piece that has a position, where it isn't in front of the statement
  abbrev pub statement_in : ℕ → Option (StmtId × ℕ) → Option StmtId
  statement_in pos None = None
  statement_in pos (Some x) = if nat_le (x.1 + lead (kept_at slots x.0).bytes) pos then Some x.0 else None

  number_here : (start pos : ℕ) (x : StmtId) (xs : List StmtId) (low : Bool) → nat_le (start + lead (kept_at slots x).bytes) pos ≡ low → pos < start + length (kept_at slots x).bytes
      → number_at pos (placed slots start (x ∷ xs)) ≡ statement_in pos (Some (x, start))
  number_here start pos x xs true low here = rw (low, below_is pos (start + length (kept_at slots x).bytes) here) refl
  number_here start pos x xs false low here = rw low (none_later (start + length (kept_at slots x).bytes) pos xs here)

  number_past : (start pos : ℕ) (x : StmtId) (xs : List StmtId) (low : Bool) → nat_le (start + lead (kept_at slots x).bytes) pos ≡ low → start + length (kept_at slots x).bytes ≤ pos
      → number_at pos (placed slots start (x ∷ xs)) ≡ number_at pos (placed slots (start + length (kept_at slots x).bytes) xs)
  number_past start pos x xs true low past = rw (low, above_is pos (start + length (kept_at slots x).bytes) past) refl
  number_past start pos x xs false low past = rw low refl

  pub number_placed : (start pos : ℕ) (ids : List StmtId) → number_at pos (placed slots start ids) ≡ statement_in pos (piece_at slots start pos ids)
  number_placed start pos [] = refl
  number_placed start pos (x ∷ xs) =
      let b = (kept_at slots x).bytes in
      ⊎_elim
      (λ here. number_here start pos x xs (nat_le (start + lead b) pos) refl here ∙ sym (ap (statement_in pos) (head_has slots start pos x xs here)))
      (λ past. number_past start pos x xs (nat_le (start + lead b) pos) refl past ∙ number_placed (start + length b) pos xs ∙ sym (ap (statement_in pos) (head_passed slots start pos x xs past)))
      (cases_lt pos (start + length b))

  -- the mode of a number is that of its piece
  mode_found : (id : StmtId) (xs ys : List StmtId) → IsAbsent id xs → look_up id (zip (xs ++ id ∷ ys) (map (λ k. k.mode) (map (kept_at slots) (xs ++ id ∷ ys)))) ≡ Some (kept_at slots id).mode
  mode_found id [] ys h = rw (same id.0) refl
  mode_found id (x ∷ xs) ys h = rw (differ x.0 id.0 (λ e. h.0 (sym e))) (mode_found id xs ys h.1)

  mode_absent : (id : StmtId) (xs : List StmtId) → IsAbsent id xs → look_up id (zip xs (map (λ k. k.mode) (map (kept_at slots) xs))) ≡ None
  mode_absent id [] h = refl
  mode_absent id (x ∷ xs) h = rw (differ x.0 id.0 (λ e. h.0 (sym e))) (mode_absent id xs h.1)

-- bytes of one part of a text
part_of : (front part rest : List ℕ) (n k : ℕ) → n ≡ length front → k ≤ length part → slice_range (front ++ (part ++ rest)) (n + k) (n + length part) ≡ drop k part
part_of front part rest n k is low =
    let size : (n + length part) - (n + k) ≡ length (drop k part) = omega (arith, low, length-drop k part) in
    ap (λ (t : List ℕ). take ((n + length part) - (n + k)) t) (sym (drop-drop k n (front ++ (part ++ rest))) ∙ ap (drop k) (drop_at front (part ++ rest) n (sym is)) ∙ drop-append-le k part rest low)
    ∙ take_at (drop k part) rest ((n + length part) - (n + k)) (sym size)

module _ (law : TextsAreRead def) (c : Content) (t : IsText c) where
  located_is : statements_of (text_of c) ≡ placed_pieces 0 (bytes_of (standing c.table)) t.recs
  located_is = (law Top After (bytes_of (standing c.table)) t.recs c.tail t.chained t.apart t.ends).1

  -- the text reads as what its statements say, and there are as many as numbers
  pub reads_as : read_keyless (text_of c) ≡ Ok (map (λ x. x.1) (statements_of (text_of c)))
  reads_as =
      read_is (text_of c) t.fits
      ∙ (law Top After (bytes_of (standing c.table)) t.recs c.tail t.chained t.apart t.ends).0
      ∙ ap (λ (l : List Record). Ok l) (sym (ap (λ (l : List (List Token × Record)). map (λ x. x.1) l) located_is ∙ records_placed 0 Top After (bytes_of (standing c.table)) t.recs t.chained))

  pub as_many : length (ids_of c.table) ≡ length (statements_of (text_of c))
  as_many = sym (
      ap (λ (l : List (List Token × Record)). length l) located_is
      ∙ many_placed 0 Top After (bytes_of (standing c.table)) t.recs t.chained
      ∙ length-map (standing c.table) (λ k. k.bytes)
      ∙ length-map (ids_of c.table) (kept_at c.table.slots))

  pub spans_are : spans_by_number c ≡ placed c.table.slots 0 (ids_of c.table)
  spans_are =
      ap (λ (l : List (List Token × Record)). zip (ids_of c.table) (map (λ x. span_of x.0) l)) located_is
      ∙ spans_placed c.table.slots 0 Top After (ids_of c.table) t.recs t.chained

  modes_are : modes_by_number c ≡ zip (ids_of c.table) (map (λ k. k.mode) (standing c.table))
  modes_are =
      ap (λ (l : List (List Token × Record)). zip (ids_of c.table) (modes_from def Top (map (λ x. x.1) l))) located_is
      ∙ ap (λ (l : List Record). zip (ids_of c.table) (modes_from def Top l)) (records_placed 0 Top After (bytes_of (standing c.table)) t.recs t.chained)
      ∙ ap (λ (l : List Mode). zip (ids_of c.table) l) (sym t.modes)

  -- what a number has that doesn't stand, or that does
  pub mode_none : (id : StmtId) → IsAbsent id (ids_of c.table) → look_up id (modes_by_number c) ≡ None
  mode_none id h = ap (look_up id) modes_are ∙ mode_absent c.table.slots id (ids_of c.table) h

  pub mode_some : (id : StmtId) → Stands id (ids_of c.table) → look_up id (modes_by_number c) ≡ Some (kept_at c.table.slots id).mode
  mode_some id s =
      ap (look_up id) modes_are
      ∙ ap (λ (l : List StmtId). look_up id (zip l (map (λ k. k.mode) (map (kept_at c.table.slots) l)))) s.is
      ∙ mode_found c.table.slots id s.before s.after s.first

  pub span_is : (id : StmtId) → look_up id (spans_by_number c) ≡ option_map (λ n. piece_span n (kept_at c.table.slots id).bytes) (start_in c.table.slots 0 id (ids_of c.table))
  span_is id = ap (look_up id) spans_are ∙ look_up_placed c.table.slots 0 id (ids_of c.table)

  pub number_is : (pos : ℕ) → number_at pos (spans_by_number c) ≡ statement_in c.table.slots pos (piece_at c.table.slots 0 pos (ids_of c.table))
  number_is pos = ap (number_at pos) spans_are ∙ number_placed c.table.slots 0 pos (ids_of c.table)

  -- the bytes of a statement are its piece from its first token on
  pub statement_is : (id : StmtId) → Stands id (ids_of c.table) → lead (kept_at c.table.slots id).bytes ≤ length (kept_at c.table.slots id).bytes
      → option_map (bytes_in (text_of c)) (look_up id (spans_by_number c)) ≡ Some (drop (lead (kept_at c.table.slots id).bytes) (kept_at c.table.slots id).bytes)
  statement_is id s low =
      let b = (kept_at c.table.slots id).bytes in
      let n = weight c.table.slots s.before in
      let front = concat (bytes_of (map (kept_at c.table.slots) s.before)) in
      let rest = concat (bytes_of (map (kept_at c.table.slots) s.after)) in
      let start : start_in c.table.slots 0 id (ids_of c.table) ≡ Some (0 + n) = ap (start_in c.table.slots 0 id) s.is ∙ start_is c.table.slots 0 id s.before s.after s.first in
      let place : 0 + n ≡ n = omega arith in
      let pieces : bytes_of (map (kept_at c.table.slots) (ids_of c.table)) ≡ bytes_of (map (kept_at c.table.slots) s.before) ++ b ∷ bytes_of (map (kept_at c.table.slots) s.after) =
      ap (λ (l : List StmtId). bytes_of (map (kept_at c.table.slots) l)) s.is
      ∙ ap bytes_of (map-append (kept_at c.table.slots) s.before (id ∷ s.after))
      ∙ map-append (λ (k : Kept). k.bytes) (map (kept_at c.table.slots) s.before) (map (kept_at c.table.slots) (id ∷ s.after)) in
      let whole : text_of c ≡ front ++ (b ++ (rest ++ c.tail)) =
      ap (λ (l : List (List ℕ)). concat l ++ c.tail) pieces
      ∙ ap (λ (u : List ℕ). u ++ c.tail) (concat-append (bytes_of (map (kept_at c.table.slots) s.before)) (b ∷ bytes_of (map (kept_at c.table.slots) s.after)))
      ∙ append_assoc front (b ++ rest) c.tail
      ∙ ap (λ (u : List ℕ). front ++ u) (append_assoc b rest c.tail) in
      let long : n ≡ length front = sym (weight_is c.table.slots s.before) in
      ap (option_map (bytes_in (text_of c))) (span_is id ∙ ap (option_map (λ m. piece_span m b)) (start ∙ ap (λ (m : ℕ). Some m) place))
      ∙ ap (λ (u : List ℕ). Some (slice_range u (n + lead b) (n + length b))) whole
      ∙ ap (λ (u : List ℕ). Some u) (part_of front b (rest ++ c.tail) n (lead b) long low)

  -- a number that doesn't stand has no bytes
  pub no_statement : (id : StmtId) → start_in c.table.slots 0 id (ids_of c.table) ≡ None → look_up id (spans_by_number c) ≡ None
  no_statement id none = span_is id ∙ ap (option_map (λ m. piece_span m (kept_at c.table.slots id).bytes)) none
