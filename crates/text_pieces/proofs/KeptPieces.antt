-- What kept statements say.
use Rattle.std.proofs.Common.{◌≡◌, ℕ, zero, suc, ◌+◌, List, [], ◌∷◌, ◌++◌, length, map, Option, Some, Ok, refl, sym, ap, subst, ◌∙◌}
use Rattle.std.specs.List.{zip}
use Rattle.std.proofs.lemmas.List.{length-map}
use Rattle.std.proofs.lemmas.Slice.Zip.{seconds-zip}
use Rattle.design_model.specs.declared.identifier.StmtId.{StmtId}
use Rattle.design_model.specs.declared.mode.Mode.{Mode}
use Rattle.design_model.specs.declared.mode.Mode.TheVariants.{Top, After}
use Rattle.statement_model.specs.Reading.{read_form}
use Rattle.statement_model.specs.Tokens.{Token}
use Rattle.def_grammar.specs.Records.{Record, def}
use Rattle.piece_laws.specs.ChainLaws.{ChainsLead}
use Rattle.piece_laws.specs.PlaceLaws.{TextsAreRead, placed_pieces}
use Rattle.piece_laws.specs.Pieces.{AreChained, IsPiece, modes_from}
use Rattle.text_pieces.specs.Changes.{IsBetween, Prepared}
use Rattle.text_pieces.specs.Chunks.{Numbers, all_ids, ids_at}
use Rattle.text_pieces.specs.Content.{Content, IsText, bytes_of, text_of}
use Rattle.text_pieces.specs.KeptRecords.{AreKept, AreParted, HavePieces, record_of, record_or, records_under}
use Rattle.text_pieces.specs.Lent.{numbered_records}
use Rattle.text_pieces.specs.Statements.{statements_of}
use Rattle.text_pieces.specs.Tables.{AreChunks, AreHome, Kept, ids_of, kept_at, slot, standing}
use Rattle.text_pieces.proofs.PlacedPieces.{as_many, reads_as}

says_it : (k : Kept) (rec : Record) (next : Mode) → IsPiece def k.mode k.bytes rec next → record_of k ≡ rec
says_it k rec next p = ap (λ (ps : List Token). record_or (read_form def k.mode ps)) p.tokens.pieces ∙ ap record_or p.says

records_placed : (pos : ℕ) (m last : Mode) (ps : List (List ℕ)) (recs : List Record) → AreChained def m ps recs last → map (λ x. x.1) (placed_pieces pos ps recs) ≡ recs
records_placed pos m last [] [] chain = refl
records_placed pos m last [] (r ∷ rs) chain = absurd chain
records_placed pos m last (p ∷ ps) [] chain = absurd chain
records_placed pos m last (p ∷ ps) (r ∷ rs) chain = ap (λ (l : List Record). r ∷ l) (records_placed (pos + length p) chain.0 last ps rs chain.2)

-- numbers that are held
abbrev AreHeld : List (Option Kept) → List StmtId → Type 0
AreHeld slots [] = Unit {0}
AreHeld slots (id ∷ ids) = (slot slots id ≡ Some (kept_at slots id)) × AreHeld slots ids

module _ (slots : List (Option Kept)) where
  held_append : (xs ys : List StmtId) → AreHeld slots xs → AreHeld slots ys → AreHeld slots (xs ++ ys)
  held_append [] ys h k = k
  held_append (x ∷ xs) ys h k = (h.0, held_append xs ys h.1 k)

  held_home : (k : ℕ) (ids : List StmtId) → AreHome slots k ids → AreHeld slots ids
  held_home k [] h = tt
  held_home k (x ∷ xs) h = (h.0, held_home k xs h.2)

  held_chunks : (k : ℕ) (cs : List Numbers) → AreChunks slots k cs → AreHeld slots (all_ids cs)
  held_chunks k [] h = tt
  held_chunks k (c ∷ cs) h = held_append c.ids (all_ids cs) (held_home k c.ids h.0) (held_chunks (suc k) cs h.2)

  module _ (leads : ChainsLead def) where
    -- pieces that are chained are kept as what they say
    record Say (m : Mode) (ids : List StmtId) (recs : List Record) : Type 0 where
      says : zip ids recs ≡ records_under slots ids
      pieces : HavePieces slots ids

    say : (m last : Mode) (ids : List StmtId) (recs : List Record) → AreHeld slots ids → AreChained def m (bytes_of (map (kept_at slots) ids)) recs last
        → map (λ k. k.mode) (map (kept_at slots) ids) ≡ modes_from def m recs → Say m ids recs
    say m last [] [] held chain modes = record { says = refl; pieces = tt }
    say m last [] (r ∷ rs) held chain modes = absurd chain
    say m last (x ∷ xs) [] held chain modes = absurd chain
    say m last (x ∷ xs) (r ∷ rs) held chain modes =
        let k = kept_at slots x in
        let mode_is : k.mode ≡ m = cc in
        let here : IsPiece def k.mode k.bytes r chain.0 = subst (λ (n : Mode). IsPiece def n k.bytes r chain.0) (sym mode_is) chain.1 in
        let own : record_of k ≡ r = says_it k r chain.0 here in
        let next : chain.0 ≡ def.after m r = leads m chain.0 (k.bytes ∷ []) (r ∷ []) (chain.0, chain.1, refl) in
        let rest : map (λ k. k.mode) (map (kept_at slots) xs) ≡ modes_from def (def.after m r) rs = cc in
        let later = say chain.0 last xs rs held.1 chain.2 (rest ∙ ap (λ (n : Mode). modes_from def n rs) (sym next)) in
        record {
          says = rw (own, later.says) refl;
          pieces = (record { held = held.0; after = chain.0; piece = rw own here }, later.pieces);
        }

  pieces_front : (xs ys : List StmtId) → HavePieces slots (xs ++ ys) → HavePieces slots xs
  pieces_front [] ys h = tt
  pieces_front (x ∷ xs) ys h = (h.0, pieces_front xs ys h.1)

  pieces_behind : (xs ys : List StmtId) → HavePieces slots (xs ++ ys) → HavePieces slots ys
  pieces_behind [] ys h = h
  pieces_behind (x ∷ xs) ys h = pieces_behind xs ys h.1

  pieces_between : (xs ys zs : List StmtId) → HavePieces slots (xs ++ (ys ++ zs)) → HavePieces slots ys
  pieces_between xs ys zs h = pieces_front ys zs (pieces_behind xs (ys ++ zs) h)

  -- and so are those of a chunk
  pub pieces_at : (cs : List Numbers) (k : ℕ) → HavePieces slots (all_ids cs) → HavePieces slots (ids_at cs k)
  pieces_at [] zero h = tt
  pieces_at [] (suc k) h = tt
  pieces_at (c ∷ cs) zero h = pieces_front c.ids (all_ids cs) h
  pieces_at (c ∷ cs) (suc k) h = pieces_at cs k (pieces_behind c.ids (all_ids cs) h)

module _ (law : TextsAreRead def) (leads : ChainsLead def) where
  -- what a text in pieces says is what is kept of its statements
  pub says_kept : (c : Content) → IsText c → AreKept c
  says_kept c t =
      let all = say c.table.slots leads Top After (ids_of c.table) t.recs (held_chunks c.table.slots 0 c.table.chunks t.table.chunks) t.chained t.modes in
      let located = (law Top After (bytes_of (standing c.table)) t.recs c.tail t.chained t.apart t.ends).1 in
      let recs : map (λ x. x.1) (statements_of (text_of c)) ≡ t.recs = ap (map (λ x. x.1)) located ∙ records_placed 0 Top After (bytes_of (standing c.table)) t.recs t.chained in
      record {
        says = ap (zip (ids_of c.table)) recs ∙ all.says;
        pieces = all.pieces;
        reads = reads_as law c t ∙ ap (λ (l : List Record). Ok l) (sym (seconds-zip (ids_of c.table) (map (λ x. x.1) (statements_of (text_of c))) (length-map (statements_of (text_of c)) (λ x. x.1) ∙ sym (as_many law c t))));
      }

  pub parted_so : (c : Content) (p : Prepared) (base other : Content) → IsText c → IsBetween c p base other → AreParted c.table.slots p base other
  parted_so c p base other t b =
      let own : base ≡ c = sym b.base_is in
      let slots : other.table.slots ≡ c.table.slots = sym (ap (λ (x : Content). x.table.slots) b.other_is) in
      let old = says_kept c t in
      let new = says_kept other b.text in
      let old_ids : ids_of c.table ≡ b.front ++ (p.out ++ b.rest) = ap (λ (x : Content). ids_of x.table) (sym own) ∙ b.goes in
      let new_pieces : HavePieces c.table.slots (b.front ++ (p.put ++ b.rest)) = rw (← slots, ← b.comes) new.pieces in
      let old_pieces : HavePieces c.table.slots (b.front ++ (p.out ++ b.rest)) = rw (← old_ids) old.pieces in
      record {
        front = b.front;
        rest = b.rest;
        goes = ap numbered_records own ∙ old.says ∙ ap (records_under c.table.slots) old_ids;
        comes = new.says ∙ rw (slots, b.comes) refl;
        base_once = rw (← old_ids) t.table.once;
        other_once = rw (← b.comes) b.text.table.once;
        reads = new.reads;
        out = pieces_between c.table.slots b.front p.out b.rest old_pieces;
        put = pieces_between c.table.slots b.front p.put b.rest new_pieces;
      }
