-- Statements that are read again take the place of others.
use Rattle.std.proofs.Common.{◌≡◌, ◌<◌, ◌≤◌, ℕ, zero, suc, List, [], ◌∷◌, ◌++◌, length, map, take, drop, Some, None, refl, sym, ap, ◌∙◌, subst, append_assoc, append-nil, arith}
use Rattle.std.specs.List.{concat, slice_get}
use Rattle.std.proofs.lemmas.List.{drop_all, map-append, take-append-drop, take_all}
use Rattle.std.proofs.lemmas.List.Folds.{concat-append}
use Rattle.design_model.specs.declared.mode.Mode.{Mode}
use Rattle.design_model.specs.declared.mode.Mode.TheVariants.{Top, After}
use Rattle.lefdef_tokens.specs.Laws.{BeginsApart}
use Rattle.def_grammar.specs.Records.{def}
use Rattle.piece_laws.specs.PieceLaws.{TailsMayEnd}
use Rattle.piece_laws.specs.Pieces.{AreApart, AreChained, IsTail}
use Rattle.rereading.specs.Rereading.{IsReread, new_bytes, new_modes}
use Rattle.rereading.specs.Segments.{OldBytes}
use Rattle.rereading.specs.Segments as behind_edit
use Rattle.rereading.specs.declared.pieces.NewPiece.{NewPiece}
use Rattle.rereading.specs.declared.pieces.Reread.{Reread}
use Rattle.text_pieces.specs.Behind.{segments}
use Rattle.text_pieces.specs.Content.{bytes_of}
use Rattle.text_pieces.specs.Storing.{news_of}
use Rattle.text_pieces.specs.Stretches.{EndsText, IsChain}
use Rattle.text_pieces.specs.Tables.{Kept}
use Rattle.text_pieces.proofs.Chains.{apart_join, chain_join, goes_on}
use Rattle.text_pieces.proofs.Opened.{after_is}

pub bytes_new : (A : Type 0) (chunk : ℕ) (ps : List (NewPiece A)) → bytes_of (news_of chunk ps) ≡ new_bytes ps
bytes_new A chunk [] = refl
bytes_new A chunk (p ∷ ps) = ap (λ (l : List (List ℕ)). p.bytes.items ∷ l) (bytes_new A chunk ps)

modes_new : (A : Type 0) (chunk : ℕ) (ps : List (NewPiece A)) → map (λ k. k.mode) (news_of chunk ps) ≡ new_modes ps
modes_new A chunk [] = refl
modes_new A chunk (p ∷ ps) = ap (λ (l : List Mode). p.mode ∷ l) (modes_new A chunk ps)

pub segment_bytes : (ks : List Kept) (tail : List ℕ) → behind_edit.bytes_of (segments ks tail) ≡ concat (bytes_of ks) ++ tail
segment_bytes [] tail = append-nil tail
segment_bytes (k ∷ ks) tail = ap (λ (l : List ℕ). k.bytes ++ l) (segment_bytes ks tail) ∙ sym (append_assoc k.bytes (concat (bytes_of ks)) tail)

pub segments_from : (ks : List Kept) (tail : List ℕ) (n : ℕ) → n ≤ length ks → drop n (segments ks tail) ≡ segments (drop n ks) tail
segments_from ks tail zero low = refl
segments_from [] tail (suc n) low = absurd (omega (arith, low))
segments_from (k ∷ ks) tail (suc n) low = segments_from ks tail n (omega (arith, low))

pub segments_up_to : (ks : List Kept) (tail : List ℕ) (n : ℕ) → n ≤ length ks → behind_edit.bytes_of (take n (segments ks tail)) ≡ concat (bytes_of (take n ks))
segments_up_to ks tail zero low = refl
segments_up_to [] tail (suc n) low = absurd (omega (arith, low))
segments_up_to (k ∷ ks) tail (suc n) low = ap (λ (l : List ℕ). k.bytes ++ l) (segments_up_to ks tail n (omega (arith, low)))

pub parts_joined : (ks : List Kept) (n : ℕ) → concat (bytes_of ks) ≡ concat (bytes_of (take n ks)) ++ concat (bytes_of (drop n ks))
parts_joined ks n =
    ap (λ (l : List Kept). concat (bytes_of l)) (sym (take-append-drop n ks))
    ∙ ap concat (map-append (λ (k : Kept). k.bytes) (take n ks) (drop n ks))
    ∙ concat-append (bytes_of (take n ks)) (bytes_of (drop n ks))

pub apart_from : (ks : List Kept) (n : ℕ) (t : List ℕ) → AreApart (bytes_of ks) t → AreApart (bytes_of (drop n ks)) t
apart_from ks zero t h = h
apart_from [] (suc n) t h = tt
apart_from (k ∷ ks) (suc n) t h = apart_from ks n t h.1

begins_other : (front rest other : List ℕ) → BeginsApart (front ++ rest) → BeginsApart other → BeginsApart (front ++ other)
begins_other [] rest other h k = k
begins_other (b ∷ bs) rest other h k = h

-- pieces stand apart from what comes after them, whatever it is, if it begins apart or there are none
pub apart_other : (ps : List (List ℕ)) (rest other : List ℕ) → AreApart ps rest → (0 < length ps → BeginsApart other) → AreApart ps other
apart_other [] rest other h k = tt
apart_other (p ∷ ps) rest other h k = let begins = k (omega arith) in (begins_other (concat ps) rest other h.0 begins, apart_other ps rest other h.1 (λ u. begins))

pub none_left : (ss : List OldBytes) (n : ℕ) → slice_get ss n ≡ None → length ss ≤ n
none_left [] n e = omega arith
none_left (s ∷ ss) zero e = absurd (cc)
none_left (s ∷ ss) (suc n) e = omega (arith, none_left ss n e)

module _ (A : Type 0) (chunk : ℕ) (mid : Mode) (raw : List ℕ) (behind : List Kept) (tail : List ℕ) (x : Reread A) (is : IsReread mid raw (segments behind tail) x) where
  news : List Kept
  news = news_of chunk x.pieces.items

  new_chain : IsChain mid (news_of chunk x.pieces.items) x.mode
  new_chain = record {
    recs = is.recs;
    chained = rw (bytes_new A chunk x.pieces.items) is.chained;
    modes = modes_new A chunk x.pieces.items ∙ is.modes;
  }

  abbrev pub Later : List Kept → List ℕ → Type 0
  Later ks t = EndsText mid (news_of chunk x.pieces.items ++ ks) t × (concat (bytes_of (news_of chunk x.pieces.items ++ ks)) ++ t ≡ raw ++ (concat (bytes_of behind) ++ tail))

  joined_new : (ks : List Kept) (t : List ℕ) → concat (bytes_of (news_of chunk x.pieces.items ++ ks)) ++ t ≡ concat (new_bytes x.pieces.items) ++ (concat (bytes_of ks) ++ t)
  joined_new ks t =
      ap (λ (l : List (List ℕ)). concat l ++ t) (map-append (λ (k : Kept). k.bytes) (news_of chunk x.pieces.items) ks)
      ∙ ap (λ (u : List ℕ). u ++ t) (concat-append (bytes_of (news_of chunk x.pieces.items)) (bytes_of ks))
      ∙ append_assoc (concat (bytes_of (news_of chunk x.pieces.items))) (concat (bytes_of ks)) t
      ∙ ap (λ (l : List (List ℕ)). concat l ++ (concat (bytes_of ks) ++ t)) (bytes_new A chunk x.pieces.items)

  apart_new : (ks : List Kept) (t : List ℕ) → AreApart (new_bytes x.pieces.items) (concat (bytes_of ks) ++ t) → AreApart (bytes_of ks) t → AreApart (bytes_of (news_of chunk x.pieces.items ++ ks)) t
  apart_new ks t h k =
      subst (λ (l : List (List ℕ)). AreApart l t) (sym (map-append (λ (q : Kept). q.bytes) (news_of chunk x.pieces.items) ks ∙ ap (λ (l : List (List ℕ)). l ++ bytes_of ks) (bytes_new A chunk x.pieces.items)))
      (apart_join (new_bytes x.pieces.items) (bytes_of ks) t h k)

  -- an old statement goes on, or what is behind them all
  pub landed : EndsText After [] tail → (m : Mode) → IsChain m behind After → AreApart (bytes_of behind) tail → x.used ≤ length behind → (s : OldBytes) → slice_get (segments behind tail) x.used ≡ Some s
      → Later (drop x.used behind) tail
  landed end m old apart low s at =
      let lands = rw at at is.lands in
      let on = goes_on m behind tail x.used s old low at in
      let same : on.0 ≡ x.mode = let e : Some on.0 ≡ Some x.mode = sym on.1 ∙ lands.1 in cc in
      let left = drop x.used behind in
      let rest_none : x.rest.items ≡ [] = lands.0 in
      let later : x.rest.items ++ behind_edit.bytes_of (drop x.used (segments behind tail)) ≡ concat (bytes_of left) ++ tail =
      ap (λ (u : List ℕ). u ++ behind_edit.bytes_of (drop x.used (segments behind tail))) rest_none
      ∙ ap behind_edit.bytes_of (segments_from behind tail x.used low)
      ∙ segment_bytes left tail in
      let whole : concat (new_bytes x.pieces.items) ≡ raw ++ concat (bytes_of (take x.used behind)) =
      sym (append-nil (concat (new_bytes x.pieces.items))) ∙ ap (λ (u : List ℕ). concat (new_bytes x.pieces.items) ++ u) (sym rest_none) ∙ is.whole
      ∙ ap (λ (u : List ℕ). raw ++ u) (segments_up_to behind tail x.used low) in (
        record {
          chain = chain_join mid x.mode After (news_of chunk x.pieces.items) left new_chain (subst (λ (n : Mode). IsChain n left After) same on.2);
          apart = apart_new left tail (subst (AreApart (new_bytes x.pieces.items)) later is.apart) (apart_from behind x.used tail apart);
          ends = end.ends;
        },
        joined_new left tail
            ∙ ap (λ (u : List ℕ). u ++ (concat (bytes_of left) ++ tail)) whole
            ∙ append_assoc raw (concat (bytes_of (take x.used behind))) (concat (bytes_of left) ++ tail)
            ∙ ap (λ (u : List ℕ). raw ++ u) (sym (append_assoc (concat (bytes_of (take x.used behind))) (concat (bytes_of left)) tail) ∙ ap (λ (u : List ℕ). u ++ tail) (sym (parts_joined behind x.used))),
      )

-- all is read
module _ (A : Type 0) (chunk : ℕ) (mid : Mode) (raw : List ℕ) (ss : List OldBytes) (x : Reread A) (is : IsReread mid raw ss x) where
  pub read_out : TailsMayEnd def → slice_get ss x.used ≡ None → EndsText mid (news_of chunk x.pieces.items) x.rest.items × (concat (bytes_of (news_of chunk x.pieces.items)) ++ x.rest.items ≡ raw ++ behind_edit.bytes_of ss)
  read_out may_end at =
      let past = none_left ss x.used at in
      let tail_is : IsTail def x.mode x.rest.items = rw at at is.lands in
      let last : x.mode ≡ After = after_is x.mode (may_end x.mode x.rest.items tail_is) in
      let bytes = bytes_new A chunk x.pieces.items in
      let later : x.rest.items ++ behind_edit.bytes_of (drop x.used ss) ≡ x.rest.items =
      ap (λ (l : List OldBytes). x.rest.items ++ behind_edit.bytes_of l) (drop_all x.used ss past) ∙ append-nil x.rest.items in (
        record {
          chain = record { recs = is.recs; chained = rw bytes (subst (λ (n : Mode). AreChained def mid (new_bytes x.pieces.items) is.recs n) last is.chained); modes = modes_new A chunk x.pieces.items ∙ is.modes };
          apart = rw bytes (subst (AreApart (new_bytes x.pieces.items)) later is.apart);
          ends = subst (λ (n : Mode). IsTail def n x.rest.items) last tail_is;
        },
        ap (λ (l : List (List ℕ)). concat l ++ x.rest.items) bytes ∙ is.whole ∙ ap (λ (l : List OldBytes). raw ++ behind_edit.bytes_of l) (take_all x.used ss past),
      )

-- statements in front of an edit stay
pub front_stays : (front later : List Kept) (mid : Mode) (tail : List ℕ) → IsChain Top front mid → AreApart (bytes_of front) (concat (bytes_of later) ++ tail) → EndsText mid later tail → EndsText Top (front ++ later) tail
front_stays front later mid tail chain apart ends = record {
  chain = chain_join Top mid After front later chain ends.chain;
  apart = subst (λ (l : List (List ℕ)). AreApart l tail) (sym (map-append (λ (q : Kept). q.bytes) front later)) (apart_join (bytes_of front) (bytes_of later) tail apart ends.apart);
  ends = ends.ends;
}
