-- What doesn't stand in a text is let go.
use Rattle.std.proofs.Common.{◌≡◌, ◌≢◌, ℕ, suc, List, [], ◌∷◌, ◌++◌, length, get_or, map, Option, Some, None, refl, sym, ap, ap₂, ◌∙◌, subst, inl, inr, ⊎_elim, arith}
use Rattle.std.specs.List.{concat}
use Rattle.std.specs.Option.{is_some}
use Rattle.std.specs.Prelude.{MatchOption, false, option_map}
use Rattle.std.proofs.lemmas.Bool.{cases_eq}
use Rattle.slab.specs.Slab.{Slab, Updates}
use Rattle.design_model.specs.declared.identifier.StmtId.{StmtId}
use Rattle.text_pieces.specs.Chunks.{IsAbsent, Numbers, all_ids}
use Rattle.text_pieces.specs.Content.{IsText, bytes_of, text_of}
use Rattle.text_pieces.specs.LettingGo.{AreLetGo, AreSame, IsLetGo, KeepsStanding, StayFree}
use Rattle.text_pieces.specs.Tables.{AreChunks, AreHome, IsTable, Kept, Stands, Table, ids_of, kept, kept_at, kept_or, slot, standing, weight}
use Rattle.text_pieces.specs.declared.table.Piece.{Piece}
use Rattle.text_pieces.proofs.Slots.{slot_map}

-- a number that isn't one of some can be emptied
pub others_same : (old new : List (Option Kept)) (id : StmtId) (ids : List StmtId) → ((n : ℕ) → n ≢ id.0 → get_or new n None ≡ get_or old n None) → IsAbsent id ids → AreSame old new ids
others_same old new id [] same absent = tt
others_same old new id (x ∷ xs) same absent = (same x.0 (λ e. absent.0 (sym e)), others_same old new id xs same absent.1)

pub same_refl : (slots : List (Option Kept)) (ids : List StmtId) → AreSame slots slots ids
same_refl slots [] = tt
same_refl slots (x ∷ xs) = (refl, same_refl slots xs)

pub same_on : (a b c : List (Option Kept)) (ids : List StmtId) → AreSame a b ids → AreSame b c ids → AreSame a c ids
same_on a b c [] h k = tt
same_on a b c (x ∷ xs) h k = (k.0 ∙ h.0, same_on a b c xs h.1 k.1)

module _ (old new : List (Option Kept)) where
  same_front : (xs ys : List StmtId) → AreSame old new (xs ++ ys) → AreSame old new xs
  same_front [] ys h = tt
  same_front (x ∷ xs) ys h = (h.0, same_front xs ys h.1)

  same_behind : (xs ys : List StmtId) → AreSame old new (xs ++ ys) → AreSame old new ys
  same_behind [] ys h = h
  same_behind (x ∷ xs) ys h = same_behind xs ys h.1

  kept_same : (x : StmtId) → slot new x ≡ slot old x → kept_at new x ≡ kept_at old x
  kept_same x e = ap kept_or e

  all_same : (ids : List StmtId) → AreSame old new ids → map (kept_at new) ids ≡ map (kept_at old) ids
  all_same [] h = refl
  all_same (x ∷ xs) h = ap₂ (λ (p : Kept) (ps : List Kept). p ∷ ps) (kept_same x h.0) (all_same xs h.1)

  home_same : (k : ℕ) (ids : List StmtId) → AreHome old k ids → AreSame old new ids → AreHome new k ids
  home_same k [] h s = tt
  home_same k (x ∷ xs) h s =
      let e = kept_same x s.0 in
      (s.0 ∙ h.0 ∙ ap (λ (p : Kept). Some p) (sym e), ap (λ (p : Kept). p.chunk) e ∙ h.1, home_same k xs h.2 s.1)

  pub weight_same : (ids : List StmtId) → AreSame old new ids → weight new ids ≡ weight old ids
  weight_same [] h = refl
  weight_same (x ∷ xs) h = let e = ap (λ (p : Kept). length p.bytes) (kept_same x h.0) in omega (arith, e, weight_same xs h.1)

  chunks_same : (k : ℕ) (cs : List Numbers) → AreChunks old k cs → AreSame old new (all_ids cs) → AreChunks new k cs
  chunks_same k [] h s = tt
  chunks_same k (c ∷ cs) h s =
      let front = same_front c.ids (all_ids cs) s in
      (home_same k c.ids h.0 front, h.1 ∙ sym (weight_same c.ids front), chunks_same (suc k) cs h.2 (same_behind c.ids (all_ids cs) s))

  table_there : (cs : List Numbers) → IsTable (record { chunks = cs; slots = old }) → AreSame old new (all_ids cs) → IsTable (record { chunks = cs; slots = new })
  table_there cs t s = record { chunks = chunks_same 0 cs t.chunks s; once = t.once; fits = let e = weight_same (all_ids cs) s in rw e t.fits }

pub table_same : (old new : Table) → IsTable old → KeepsStanding old new → IsTable new
table_same old new t k = subst (λ (cs : List Numbers). IsTable (record { chunks = cs; slots = new.slots })) (sym k.chunks) (table_there old.slots new.slots old.chunks t k.slots)

pub standing_same : (old new : Table) → KeepsStanding old new → standing new ≡ standing old
standing_same old new k = ap (λ (cs : List Numbers). map (kept_at new.slots) (all_ids cs)) k.chunks ∙ all_same old.slots new.slots (ids_of old) k.slots

pub keeps_refl : (t : Table) → KeepsStanding t t
keeps_refl t = record { chunks = refl; slots = same_refl t.slots (ids_of t) }

pub keeps_on : (a b c : Table) → KeepsStanding a b → KeepsStanding b c → KeepsStanding a c
keeps_on a b c h k = record {
  chunks = k.chunks ∙ h.chunks;
  slots = same_on a.slots b.slots c.slots (ids_of a) h.slots (subst (λ (cs : List Numbers). AreSame b.slots c.slots (all_ids cs)) h.chunks k.slots);
}

-- a text whose standing pieces are kept
module _ (old new : Table) (tail : List ℕ) (len : ℕ) (k : KeepsStanding old new) where
  pub text_left : text_of (record { table = new; tail = tail; len = len }) ≡ text_of (record { table = old; tail = tail; len = len })
  text_left = ap (λ (ks : List Kept). concat (bytes_of ks) ++ tail) (standing_same old new k)

  pub is_text_left : IsText (record { table = old; tail = tail; len = len }) → IsText (record { table = new; tail = tail; len = len })
  is_text_left t = let e = standing_same old new k in record {
    table = table_same old new t.table k;
    recs = t.recs;
    chained = rw e t.chained;
    modes = rw e t.modes;
    apart = rw e t.apart;
    ends = t.ends;
    whole = t.whole ∙ ap (λ (l : List ℕ). length l) (sym text_left);
    fits = let f = text_left in rw f t.fits;
  }

-- a slot of a slab is emptied
module _ {A : Type 0} (old new : Slab (Piece A)) (key : ℕ) (updates : Updates old new key None) where
  pub others_left : (n : ℕ) → n ≢ key → get_or (map (option_map kept) new.slots) n None ≡ get_or (map (option_map kept) old.slots) n None
  others_left n apart = slot_map kept new.slots n ∙ ap (option_map kept) (updates.others n apart) ∙ sym (slot_map kept old.slots n)

  pub emptied : get_or (map (option_map kept) new.slots) key None ≡ None
  emptied = slot_map kept new.slots key ∙ ap (option_map kept) updates.changed

  pub free_left : StayFree (map (option_map kept) old.slots) (map (option_map kept) new.slots)
  free_left id free = ⊎_elim (λ (e : id.0 ≡ key). ap (λ (n : ℕ). get_or (map (option_map kept) new.slots) n None) e ∙ emptied) (λ (apart : id.0 ≢ key). others_left id.0 apart ∙ free) (cases_eq id.0 key)

pub is_let_go_on : (a b : Table) (id : StmtId) → KeepsStanding a b → StayFree a.slots b.slots → IsLetGo a id → IsLetGo b id
is_let_go_on a b id k free g = ⊎_elim (λ (s : Stands id (ids_of a)). inl (subst (λ (cs : List Numbers). Stands id (all_ids cs)) (sym k.chunks) s)) (λ (none : slot a.slots id ≡ None). inr (free id none)) g

pub let_go_on : (a b : Table) (ids : List StmtId) → KeepsStanding a b → StayFree a.slots b.slots → AreLetGo a ids → AreLetGo b ids
let_go_on a b [] k free g = tt
let_go_on a b (x ∷ xs) k free g = (is_let_go_on a b x k free g.0, let_go_on a b xs k free g.1)

pub let_go_more : (t : Table) (ids : List StmtId) (id : StmtId) → AreLetGo t ids → IsLetGo t id → AreLetGo t (ids ++ id ∷ [])
let_go_more t [] id g one = (one, tt)
let_go_more t (x ∷ xs) id g one = (g.0, let_go_more t xs id g.1 one)

pub where_none : {X : Type 0} (o : Option X) (P : Type 0) (Q : X → Type 0) → is_some o ≡ false → MatchOption o P Q → P
where_none None P Q e h = h
where_none (Some x) P Q e h = absurd (cc)
