-- Exchanges of statements that are kept.
use Rattle.std.proofs.Common.{◌≡◌, List, [], ◌∷◌, ◌++◌, map, Option, Some, refl, sym, ap, ap₂, subst, ◌∙◌}
use Rattle.design_model.specs.declared.identifier.StmtId.{StmtId}
use Rattle.def_grammar.specs.Records.{Record, def}
use Rattle.piece_laws.specs.Pieces.{IsPiece}
use Rattle.text_pieces.specs.Changes.{IsBetween, Prepared}
use Rattle.text_pieces.specs.Content as pieces
use Rattle.text_pieces.specs.KeptRecords.{AreKept, AreParted, HasPiece, HavePieces, record_of, records_under}
use Rattle.text_pieces.specs.Lasting.{Leads}
use Rattle.text_pieces.specs.Storing.{StaysKept}
use Rattle.text_pieces.specs.Tables.{Kept, ids_of, kept_at, kept_or}
use Rattle.design_text.specs.DesignTexts.{Content}
use Rattle.design_text.specs.Exchanges.{AreExchanges, Exchanged, IsExchange, exchanged_by, records_in}
use Rattle.design_text.specs.Steps.{Both}
use Rattle.design_text.proofs.StepLemmas.{still_records}

pub pieces-append : (slots : List (Option Kept)) (a b : List StmtId) → HavePieces slots a → HavePieces slots b → HavePieces slots (a ++ b)
pieces-append slots [] b pa pb = pb
pieces-append slots (i ∷ a) b pa pb = (pa.0, pieces-append slots a b pa.1 pb)

pieces-front : (slots : List (Option Kept)) (a b : List StmtId) → HavePieces slots (a ++ b) → HavePieces slots a
pieces-front slots [] b p = tt
pieces-front slots (i ∷ a) b p = (p.0, pieces-front slots a b p.1)

pieces-behind : (slots : List (Option Kept)) (a b : List StmtId) → HavePieces slots (a ++ b) → HavePieces slots b
pieces-behind slots [] b p = p
pieces-behind slots (i ∷ a) b p = pieces-behind slots a b p.1

firsts_under : (slots : List (Option Kept)) (ids : List StmtId) → map (λ x. x.0) (records_under slots ids) ≡ ids
firsts_under slots [] = refl
firsts_under slots (i ∷ ids) = ap (λ (l : List StmtId). i ∷ l) (firsts_under slots ids)

-- numbers under which the same statements are kept
standing_pieces : (slots : List (Option Kept)) (records : List (StmtId × Record)) (a b : List StmtId) → records ≡ records_under slots a → records ≡ records_under slots b → HavePieces slots a → HavePieces slots b
standing_pieces slots records a b is also kept =
    let same : a ≡ b = sym (firsts_under slots a) ∙ ap (map (λ x. x.0)) (sym is ∙ also) ∙ firsts_under slots b in
    subst (HavePieces slots) same kept

-- what a change says that was made, and leads back
pub exchange_is : (old new : Content) (change : Both) → Leads new.pieces change.text old.pieces → AreKept new.pieces
    → ((base other : pieces.Content) → IsBetween new.pieces change.text base other → AreParted new.pieces.table.slots change.text base other)
    → IsExchange new.pieces.table.slots (records_in old) (records_in new) (exchanged_by change)
exchange_is old new change l kept law =
    let slots = new.pieces.table.slots in
    let parted = law new.pieces l.other l.between in
    let all = standing_pieces slots (records_in new) (ids_of new.pieces.table) (parted.front ++ (change.text.out ++ parted.rest)) kept.says parted.goes kept.pieces in
    record {
      front = parted.front;
      rest = parted.rest;
      old_is = sym (still_records old.pieces l.other l.still) ∙ parted.comes;
      new_is = parted.goes;
      in_front = pieces-front slots parted.front (change.text.out ++ parted.rest) all;
      behind = pieces-behind slots change.text.out parted.rest (pieces-behind slots parted.front (change.text.out ++ parted.rest) all);
      went = parted.put;
      came = parted.out;
    }

-- what is kept stays where a change is made that leads back
pub kept_where_it_leads : (old new : pieces.Content) (change : Prepared) → Leads new change old → StaysKept old.table.slots new.table.slots
kept_where_it_leads old new change l =
    let same : new.table.slots ≡ l.other.table.slots = ap (λ (d : pieces.Content). d.table.slots) l.between.other_is in
    subst (λ (s : List (Option Kept)). StaysKept old.table.slots s) (sym same) l.still.kept

-- what is kept stays, and more is kept
module _ (slots later : List (Option Kept)) (stays : StaysKept slots later) where
  same_kept : (id : StmtId) → HasPiece slots id → kept_at later id ≡ kept_at slots id
  same_kept id p = ap kept_or (stays id.0 (kept_at slots id) p.held ∙ sym p.held)

  pieces_stay : (ids : List StmtId) → HavePieces slots ids → HavePieces later ids
  pieces_stay [] p = tt
  pieces_stay (id ∷ ids) p = (one p.0, pieces_stay ids p.1)
    where
      one : HasPiece slots id → HasPiece later id
      one h =
          let same = same_kept id h in
          record {
            held = stays id.0 (kept_at slots id) h.held ∙ ap (λ (k : Kept). Some k) (sym same);
            after = h.after;
            piece = subst (λ (k : Kept). IsPiece def k.mode k.bytes (record_of k) h.after) (sym same) h.piece;
          }

  records_stay : (ids : List StmtId) → HavePieces slots ids → records_under slots ids ≡ records_under later ids
  records_stay [] p = refl
  records_stay (id ∷ ids) p = ap₂ (λ (k : Kept) (rs : List (StmtId × Record)). (id, record_of k) ∷ rs) (sym (same_kept id p.0)) (records_stay ids p.1)

  pub exchange_stays : (old new : List (StmtId × Record)) (x : Exchanged) → IsExchange slots old new x → IsExchange later old new x
  exchange_stays old new x e = record {
    front = e.front;
    rest = e.rest;
    old_is = e.old_is ∙ records_stay (e.front ++ (x.went ++ e.rest)) (pieces-append slots e.front (x.went ++ e.rest) e.in_front (pieces-append slots x.went e.rest e.went e.behind));
    new_is = e.new_is ∙ records_stay (e.front ++ (x.came ++ e.rest)) (pieces-append slots e.front (x.came ++ e.rest) e.in_front (pieces-append slots x.came e.rest e.came e.behind));
    in_front = pieces_stay e.front e.in_front;
    behind = pieces_stay e.rest e.behind;
    went = pieces_stay x.went e.went;
    came = pieces_stay x.came e.came;
  }

pub one_exchange : (slots : List (Option Kept)) (old begun new : List (StmtId × Record)) (x : Exchanged) → begun ≡ old → IsExchange slots begun new x → AreExchanges slots old (x ∷ []) new
one_exchange slots old begun new x same e = (new, subst (λ (rs : List (StmtId × Record)). IsExchange slots rs new x) same e, refl)

-- two that were made one after the other, between which a change was prepared
pub two_exchanges : (slots between later : List (Option Kept)) (old begun mid again new : List (StmtId × Record)) (x y : Exchanged) → begun ≡ old → again ≡ mid → StaysKept slots between → StaysKept between later
    → IsExchange slots begun mid x → IsExchange later again new y → AreExchanges later old (x ∷ y ∷ []) new
two_exchanges slots between later old begun mid again new x y first second stays more e f = (
  mid,
  subst (λ (rs : List (StmtId × Record)). IsExchange later rs mid x) first (exchange_stays between later more begun mid x (exchange_stays slots between stays begun mid x e)),
  one_exchange later mid again new y second f,
)
