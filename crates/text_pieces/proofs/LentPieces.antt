-- Pieces that are found by their numbers, as statements of the text.
use Rattle.std.proofs.Common.{◌≡◌, ◌+◌, ℕ, List, [], ◌∷◌, ◌++◌, length, map, take, drop, Option, Some, None, refl, sym, ap, subst, ◌∙◌, ⊎_elim, append_assoc, length-append, arith}
use Rattle.std.specs.List.{concat, zip}
use Rattle.std.proofs.lemmas.Bool.{cases_eq}
use Rattle.std.proofs.lemmas.List.{take_at, drop_at, drop-drop}
use Rattle.design_model.specs.declared.identifier.StmtId.{StmtId}
use Rattle.design_model.specs.declared.mode.Mode.{Mode}
use Rattle.design_model.specs.declared.mode.Mode.TheVariants.{Top, After}
use Rattle.statement_model.specs.Tokens.{Token, tokens}
use Rattle.lefdef_tokens.specs.Laws.{BeginsApart, moved_token}
use Rattle.def_grammar.specs.Records.{Record, def}
use Rattle.piece_laws.specs.ChainLaws.{ChainsLead}
use Rattle.piece_laws.specs.PlaceLaws.{TextsAreRead, placed_pieces}
use Rattle.piece_laws.specs.Pieces.{AreApart, AreChained, IsPiece, modes_from}
use Rattle.text_pieces.specs.Content.{Content, IsText, bytes_of, text_of}
use Rattle.text_pieces.specs.Lent.{IsLent, numbered_statements}
use Rattle.text_pieces.specs.Statements.{look_up, statements_of}
use Rattle.text_pieces.specs.Tables.{Kept, ids_of, kept_at, standing, start_in}
use Rattle.text_pieces.proofs.Ids.{differ, same}

module _ (slots : List (Option Kept)) (id : StmtId) (tail : List ℕ) where
  abbrev pieces : List StmtId → List (List ℕ)
  pieces ids = bytes_of (map (kept_at slots) ids)

  abbrev modes : List StmtId → List Mode
  modes ids = map (λ k. k.mode) (map (kept_at slots) ids)

  abbrev own : List ℕ
  own = (kept_at slots id).bytes

  -- the piece of a number that begins at a place, among others of which the first begins at a place
  pub record FoundPiece (start n : ℕ) (ids : List StmtId) (recs : List Record) : Type 0 where
    pub rec : Record
    pub after : Mode
    pub piece : IsPiece def (kept_at slots id).mode own rec after
    pub numbered : look_up id (zip ids (placed_pieces start (pieces ids) recs)) ≡ Some (map (moved_token n) (tokens own).pieces, rec)
    pub front : List ℕ
    pub behind : List ℕ
    pub split : concat (pieces ids) ++ tail ≡ front ++ (own ++ behind)
    pub long : start + length front ≡ n
    pub apart : BeginsApart behind

  abbrev Finds : ℕ → ℕ → Mode → Mode → List StmtId → List Record → Type 0
  Finds start n m last ids recs = AreChained def m (pieces ids) recs last → modes ids ≡ modes_from def m recs → AreApart (pieces ids) tail → FoundPiece start n ids recs

  first_found : (start : ℕ) (m last : Mode) (ids : List StmtId) (r : Record) (rs : List Record) → Finds start start m last (id ∷ ids) (r ∷ rs)
  first_found start m last ids r rs chain same_modes apart =
      let mode_is : (kept_at slots id).mode ≡ m = cc in
      record {
        rec = r;
        after = chain.0;
        piece = subst (λ (k : Mode). IsPiece def k own r chain.0) (sym mode_is) chain.1;
        numbered = rw (same id.0) refl;
        front = [];
        behind = concat (pieces ids) ++ tail;
        split = append_assoc own (concat (pieces ids)) tail;
        long = omega arith;
        apart = apart.0;
      }

  module _ (leads : ChainsLead def) where
    pub find : (start n : ℕ) (m last : Mode) (ids : List StmtId) (recs : List Record) → start_in slots start id ids ≡ Some n → Finds start n m last ids recs
    find start n m last [] recs is chain same_modes apart = absurd (cc)
    find start n m last (x ∷ xs) [] is chain same_modes apart = absurd chain
    find start n m last (x ∷ xs) (r ∷ rs) is chain same_modes apart =
        let b = (kept_at slots x).bytes in
        ⊎_elim
        (λ e.
        let it : x ≡ id = ap (λ (k : ℕ). record { 0 = k }) e in
        let t : Some start ≡ Some n = rw (e, same id.0) at is in
        let place : start ≡ n = cc in
        subst (λ (k : ℕ). FoundPiece start k (x ∷ xs) (r ∷ rs)) place
        (subst (λ (y : StmtId). Finds start start m last (y ∷ xs) (r ∷ rs)) (sym it) (first_found start m last xs r rs) chain same_modes apart))
        (λ other.
        let next : chain.0 ≡ def.after m r = leads m chain.0 (b ∷ []) (r ∷ []) (chain.0, chain.1, refl) in
        let rest : modes xs ≡ modes_from def (def.after m r) rs = cc in
        let f = find (start + length b) n chain.0 last xs rs (rw (differ x.0 id.0 other) at is) chain.2 (rest ∙ ap (λ (k : Mode). modes_from def k rs) (sym next)) apart.1 in
        record {
          rec = f.rec;
          after = f.after;
          piece = f.piece;
          numbered = rw (differ x.0 id.0 other) f.numbered;
          front = b ++ f.front;
          behind = f.behind;
          split = append_assoc b (concat (pieces xs)) tail ∙ ap (λ (u : List ℕ). b ++ u) f.split ∙ sym (append_assoc b f.front (own ++ f.behind));
          long = omega (arith, length-append b f.front, f.long);
          apart = f.apart;
        })
        (cases_eq x.0 id.0)

  -- a number that doesn't stand has no statement
  none_found : (start : ℕ) (m last : Mode) (ids : List StmtId) (recs : List Record) → AreChained def m (pieces ids) recs last → start_in slots start id ids ≡ None → look_up id (zip ids (placed_pieces start (pieces ids) recs)) ≡ None
  none_found start m last [] recs chain is = refl
  none_found start m last (x ∷ xs) [] chain is = absurd chain
  none_found start m last (x ∷ xs) (r ∷ rs) chain is =
      let b = (kept_at slots x).bytes in
      ⊎_elim
      (λ (e : x.0 ≡ id.0). let t : Some start ≡ None = rw (e, same id.0) at is in absurd (cc))
      (λ other. rw (differ x.0 id.0 other) (none_found (start + length b) chain.0 last xs rs chain.2 (rw (differ x.0 id.0 other) at is)))
      (cases_eq x.0 id.0)

-- bytes that lie in a text
lies_there : (front part behind : List ℕ) (n : ℕ) → length front ≡ n → take (length part) (drop n (front ++ (part ++ behind))) ≡ part
lies_there front part behind n long = ap (take (length part)) (drop_at front (part ++ behind) n long) ∙ take_at part behind (length part) refl

behind_it : (front part behind : List ℕ) (n : ℕ) → length front ≡ n → drop (n + length part) (front ++ (part ++ behind)) ≡ behind
behind_it front part behind n long =
    sym (drop-drop (length part) n (front ++ (part ++ behind))) ∙ ap (drop (length part)) (drop_at front (part ++ behind) n long) ∙ drop_at part behind (length part) refl

module _ (law : TextsAreRead def) (leads : ChainsLead def) (c : Content) (t : IsText c) (id : StmtId) where
  located_is : statements_of (text_of c) ≡ placed_pieces 0 (bytes_of (standing c.table)) t.recs
  located_is = (law Top After (bytes_of (standing c.table)) t.recs c.tail t.chained t.apart t.ends).1

  numbered_is : look_up id (numbered_statements c) ≡ look_up id (zip (ids_of c.table) (placed_pieces 0 (bytes_of (standing c.table)) t.recs))
  numbered_is = ap (λ (l : List (List Token × Record)). look_up id (zip (ids_of c.table) l)) located_is

  pub not_lent : start_in c.table.slots 0 id (ids_of c.table) ≡ None → look_up id (numbered_statements c) ≡ None
  not_lent none = numbered_is ∙ none_found c.table.slots id c.tail 0 Top After (ids_of c.table) t.recs t.chained none

  pub lent : (n : ℕ) → start_in c.table.slots 0 id (ids_of c.table) ≡ Some n → IsLent c id (kept_at c.table.slots id).mode (kept_at c.table.slots id).bytes n
  lent n is =
      let b = (kept_at c.table.slots id).bytes in
      let f = find c.table.slots id c.tail leads 0 n Top After (ids_of c.table) t.recs is t.chained t.modes t.apart in
      let long : length f.front ≡ n = omega (arith, f.long) in
      let sum : length (text_of c) ≡ length f.front + (length b + length f.behind) = omega (arith, ap length f.split, length-append f.front (b ++ f.behind), length-append b f.behind) in
      record {
        rec = f.rec;
        after = f.after;
        piece = f.piece;
        numbered = numbered_is ∙ f.numbered;
        within = omega (arith, sum, long);
        lies = ap (λ (u : List ℕ). take (length b) (drop n u)) f.split ∙ lies_there f.front b f.behind n long;
        apart = subst BeginsApart (sym (ap (drop (n + length b)) f.split ∙ behind_it f.front b f.behind n long)) f.apart;
      }
