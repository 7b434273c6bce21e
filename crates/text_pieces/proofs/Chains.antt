-- Kept statements one after the other, each in the mode to which the one before it leads.
use Rattle.std.proofs.Common.{◌≡◌, ◌≤◌, ℕ, zero, suc, List, [], ◌∷◌, ◌++◌, length, map, drop, Some, refl, sym, ap, ap₂, ◌∙◌, subst, append_assoc, arith}
use Rattle.std.specs.List.{concat, slice_get}
use Rattle.std.proofs.lemmas.List.Folds.{concat-append}
use Rattle.design_model.specs.declared.mode.Mode.{Mode}
use Rattle.design_model.specs.declared.mode.Mode.TheVariants.{After}
use Rattle.lefdef_tokens.specs.Laws.{BeginsApart}
use Rattle.def_grammar.specs.Records.{Record, def}
use Rattle.piece_laws.specs.Pieces.{AreApart, AreChained, IsPiece, modes_from}
use Rattle.piece_laws.proofs.Chaining.{piece_leads}
use Rattle.rereading.specs.Segments.{OldBytes}
use Rattle.text_pieces.specs.Behind.{old_bytes, segments}
use Rattle.text_pieces.specs.Content.{bytes_of}
use Rattle.text_pieces.specs.Stretches.{IsChain}
use Rattle.text_pieces.specs.Tables.{Kept}

chain_more : (m after last : Mode) (k : Kept) (ks : List Kept) (r : Record) → IsPiece def m k.bytes r after → k.mode ≡ m → IsChain after ks last → IsChain m (k ∷ ks) last
chain_more m after last k ks r piece mode c = record {
  recs = r ∷ c.recs;
  chained = (after, piece, c.chained);
  modes = ap₂ (λ (n : Mode) (ns : List Mode). n ∷ ns) mode (c.modes ∙ ap (λ (n : Mode). modes_from def n c.recs) (piece_leads def m after k.bytes r piece));
}

-- the first statement and the others
pub record Parted (m : Mode) (k : Kept) (ks : List Kept) (last : Mode) : Type 0 where
  pub after : Mode
  pub rec : Record
  pub piece : IsPiece def m k.bytes rec after
  pub mode : k.mode ≡ m
  pub later : IsChain after ks last

parted_by : (m last : Mode) (k : Kept) (ks : List Kept) (recs : List Record) → AreChained def m (k.bytes ∷ bytes_of ks) recs last → k.mode ∷ map (λ k. k.mode) ks ≡ modes_from def m recs → Parted m k ks last
parted_by m last k ks [] chain modes = absurd chain
parted_by m last k ks (r ∷ rs) chain modes =
    let leads = piece_leads def m chain.0 k.bytes r chain.1 in
    let rest : map (λ k. k.mode) ks ≡ modes_from def (def.after m r) rs = cc in
    record {
      after = chain.0;
      rec = r;
      piece = chain.1;
      mode = cc;
      later = record { recs = rs; chained = chain.2; modes = rest ∙ ap (λ (n : Mode). modes_from def n rs) (sym leads) };
    }

pub parted : (m last : Mode) (k : Kept) (ks : List Kept) → IsChain m (k ∷ ks) last → Parted m k ks last
parted m last k ks c = parted_by m last k ks c.recs c.chained c.modes

pub none_chained : (m last : Mode) (recs : List Record) → AreChained def m [] recs last → m ≡ last
none_chained m last [] chain = chain
none_chained m last (r ∷ rs) chain = absurd chain

pub chain_join : (m mid last : Mode) (ks ls : List Kept) → IsChain m ks mid → IsChain mid ls last → IsChain m (ks ++ ls) last
chain_join m mid last [] ls c d = subst (λ (n : Mode). IsChain n ls last) (sym (none_chained m mid c.recs c.chained)) d
chain_join m mid last (k ∷ ks) ls c d =
    let p = parted m mid k ks c in
    chain_more m p.after last k (ks ++ ls) p.rec p.piece p.mode (chain_join p.after mid last ks ls p.later d)

-- two parts of them
pub chain_part : (m last : Mode) (ks ls : List Kept) → IsChain m (ks ++ ls) last → (mid : Mode) × IsChain m ks mid × IsChain mid ls last
chain_part m last [] ls c = (m, record { recs = []; chained = refl; modes = refl }, c)
chain_part m last (k ∷ ks) ls c =
    let p = parted m last k (ks ++ ls) c in
    let later = chain_part p.after last ks ls p.later in
    (later.0, chain_more m p.after later.0 k ks p.rec p.piece p.mode later.1, later.2)

-- where an old statement goes on, in the mode in which it stands, so do all behind it
pub goes_on : (m : Mode) (ks : List Kept) (tail : List ℕ) (used : ℕ) (s : OldBytes) → IsChain m ks After → used ≤ length ks → slice_get (segments ks tail) used ≡ Some s
    → (mid : Mode) × (s.mode ≡ Some mid) × IsChain mid (drop used ks) After
goes_on m [] tail zero s c low at =
    let is : record { bytes = tail; mode = Some After } ≡ s = cc in
    let here = none_chained m After c.recs c.chained in
    (m, ap (λ (o : OldBytes). o.mode) (sym is) ∙ ap (λ (n : Mode). Some n) (sym here), c)
goes_on m [] tail (suc used) s c low at = absurd (omega (arith, low))
goes_on m (k ∷ ks) tail zero s c low at =
    let is : old_bytes k ≡ s = cc in
    let p = parted m After k ks c in
    (m, ap (λ (o : OldBytes). o.mode) (sym is) ∙ ap (λ (n : Mode). Some n) p.mode, c)
goes_on m (k ∷ ks) tail (suc used) s c low at = let p = parted m After k ks c in goes_on p.after ks tail used s p.later (omega (arith, low)) at

-- pieces that stand apart, and others behind them
pub apart_join : (ps qs : List (List ℕ)) (t : List ℕ) → AreApart ps (concat qs ++ t) → AreApart qs t → AreApart (ps ++ qs) t
apart_join [] qs t h k = k
apart_join (p ∷ ps) qs t h k =
    let same : concat ps ++ (concat qs ++ t) ≡ concat (ps ++ qs) ++ t = sym (append_assoc (concat ps) (concat qs) t) ∙ ap (λ (u : List ℕ). u ++ t) (sym (concat-append ps qs)) in
    (subst BeginsApart same h.0, apart_join ps qs t h.1 k)

pub apart_behind : (ps qs : List (List ℕ)) (t : List ℕ) → AreApart (ps ++ qs) t → AreApart qs t
apart_behind [] qs t h = h
apart_behind (p ∷ ps) qs t h = apart_behind ps qs t h.1

pub apart_front : (ps qs : List (List ℕ)) (t : List ℕ) → AreApart (ps ++ qs) t → AreApart ps (concat qs ++ t)
apart_front [] qs t h = tt
apart_front (p ∷ ps) qs t h =
    let same : concat (ps ++ qs) ++ t ≡ concat ps ++ (concat qs ++ t) = ap (λ (u : List ℕ). u ++ t) (concat-append ps qs) ∙ append_assoc (concat ps) (concat qs) t in
    (subst BeginsApart same h.0, apart_front ps qs t h.1)
