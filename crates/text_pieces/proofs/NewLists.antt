-- New lists of chunks, one after the other.
use Rattle.std.proofs.Common.{◌≡◌, ◌≢◌, ◌<◌, ◌≤◌, ◌+◌, ◌-◌, ℕ, zero, suc, List, [], ◌∷◌, ◌++◌, length, set, take, drop, min, ⊎_elim, Option, refl, sym, ap, ap₂, ◌∙◌, subst, append_assoc, append-nil, arith}
use Rattle.std.proofs.lemmas.List.{drop-append-le, drop-drop, drop-set-lt, drop_all, drop_at, length-drop, take_all, take_more_set}
use Rattle.std.proofs.lemmas.Bool.{cases_eq}
use Rattle.design_model.specs.declared.identifier.StmtId.{StmtId}
use Rattle.text_pieces.specs.Chunks.{Numbers, Replacement, all_ids, exchanged, ids_at, ArePlaces, IsElsewhere}
use Rattle.text_pieces.specs.Lists.{AreLists, ids_left}
use Rattle.text_pieces.specs.Tables.{Kept, weight, AreChunks, AreHome}
use Rattle.text_pieces.proofs.Exchanges.{length-exchanged}
use Rattle.text_pieces.proofs.FromPlaces.{later_from}
use Rattle.text_pieces.proofs.Ids.{all_ids_append, cut_at}
use Rattle.text_pieces.proofs.Slots.{home_at}
use Rattle.text_pieces.proofs.StoredPieces.{home_append}
use Rattle.text_pieces.proofs.Weights.{weight_append}

-- a change more takes its place in what others lead to
exchanged_more : (cs : List Numbers) (rs : List Replacement) (r : Replacement) → (exchanged cs (rs ++ r ∷ [])).0 ≡ set (exchanged cs rs).0 r.0 r.1
exchanged_more cs [] r = refl
exchanged_more cs (s ∷ rs) r = exchanged_more (set cs s.0 s.1) rs r

-- all places are before one
abbrev pub AreBelow : ℕ → List Replacement → Type 0
AreBelow k [] = Unit {0}
AreBelow k (r ∷ rs) = (r.0 < k) × AreBelow k rs

below_more : (k : ℕ) (rs : List Replacement) (r : Replacement) → r.0 ≡ k → AreBelow k rs → AreBelow (k + 1) (rs ++ r ∷ [])
below_more k [] r is h = (omega (arith, is), tt)
below_more k (s ∷ rs) r is h = (omega (arith, h.0), below_more k rs r is h.1)

elsewhere_more : (p : ℕ) (rs : List Replacement) (r : Replacement) → IsElsewhere p rs → p ≢ r.0 → IsElsewhere p (rs ++ r ∷ [])
elsewhere_more p [] r h apart = (apart, tt)
elsewhere_more p (s ∷ rs) r h apart = (h.0, elsewhere_more p rs r h.1 apart)

places_more : (n k : ℕ) (rs : List Replacement) (r : Replacement) → r.0 ≡ k → k < n → AreBelow k rs → ArePlaces n rs → ArePlaces n (rs ++ r ∷ [])
places_more n k [] r is low below h = (omega (arith, is, low), tt, tt)
places_more n k (s ∷ rs) r is low below h = (h.0, elsewhere_more s.0 rs r h.1 (λ e. absurd (omega (arith, e, is, below.0))), places_more n k rs r is low below.1 h.2)

-- what is dropped of numbers and then others is more than the first
pub dropped_past : (xs ys : List StmtId) (n m : ℕ) → n ≡ length xs + m → drop n (xs ++ ys) ≡ drop m ys
dropped_past xs ys n m is =
    ap (λ (i : ℕ). drop i (xs ++ ys)) is ∙ sym (drop-drop m (length xs) (xs ++ ys)) ∙ ap (drop m) (drop_at xs ys (length xs) refl)

module _ (slots : List (Option Kept)) where
  chunks_set : (j : ℕ) (cs : List Numbers) (k : ℕ) (n : Numbers) → AreChunks slots j cs → AreHome slots (j + k) n.ids → n.len ≡ weight slots n.ids → AreChunks slots j (set cs k n)
  chunks_set j [] k n h home len = tt
  chunks_set j (c ∷ cs) zero n h home len = let e : j + 0 ≡ j = omega arith in (rw e at home, len, h.2)
  chunks_set j (c ∷ cs) (suc k) n h home len =
      let e : j + suc k ≡ suc j + k = omega arith in
      (h.0, h.1, chunks_set (suc j) cs k n h.2 (rw e at home) len)

  pub home_drop : (k : ℕ) (ids : List StmtId) (i : ℕ) → AreHome slots k ids → AreHome slots k (drop i ids)
  home_drop k ids zero h = h
  home_drop k [] (suc i) h = tt
  home_drop k (x ∷ xs) (suc i) h = home_drop k xs i h.2

  -- the lists up to a chunk, and the numbers with which the list of that chunk begins
  pub record Going (cs : List Numbers) (front rest : List StmtId) (rs : List Replacement) (k place left : ℕ) (ids : List StmtId) : Type 0 where
    pub old : AreChunks slots 0 cs
    pub places : ArePlaces (length cs) rs
    pub below : AreBelow k rs
    pub before : all_ids (take k (exchanged cs rs).0) ++ ids ≡ front
    pub behind : drop k (exchanged cs rs).0 ≡ drop k cs
    pub kept : AreChunks slots 0 (exchanged cs rs).0
    pub home : AreHome slots k ids
    pub inside : place ≤ length (ids_at cs k)
    pub still : ids_left cs k place left ≡ rest

  module _ (cs : List Numbers) (front rest : List StmtId) (rs : List Replacement) (k place left : ℕ) (ids : List StmtId) (g : Going cs front rest rs k place left ids) (below : k < length cs) (gone : ℕ) where
    abbrev last : List StmtId
    last = drop (place + gone) (ids_at cs k)

    abbrev later : List StmtId
    later = all_ids (drop (k + 1) cs)

    -- what goes out of this chunk, and what is left
    left_here : gone ≡ min left (length (ids_at cs k) - place) → gone ≡ left → rest ≡ last ++ later
    left_here is all =
        let room : left ≤ length (drop place (ids_at cs k)) = omega (arith, is, all, length-drop place (ids_at cs k)) in
        sym g.still ∙ drop-append-le left (drop place (ids_at cs k)) later room
        ∙ ap (λ (l : List StmtId). l ++ later) (drop-drop left place (ids_at cs k) ∙ ap (λ (n : ℕ). drop (place + n) (ids_at cs k)) (sym all))

    none_here : gone ≡ min left (length (ids_at cs k) - place) → gone ≢ left → last ≡ []
    none_here is some = drop_all (place + gone) (ids_at cs k) (omega (arith, is, some, g.inside))

    left_later : gone ≡ min left (length (ids_at cs k) - place) → gone ≢ left → ids_left cs (k + 1) 0 (left - gone) ≡ rest
    left_later is some =
        let long = length-drop place (ids_at cs k) in
        ap (drop (left - gone)) (sym (later_from cs (k + 1)))
        ∙ sym (dropped_past (drop place (ids_at cs k)) later left (left - gone) (omega (arith, is, some, long)))
        ∙ g.still

    pub home_here : AreHome slots k (ids ++ last)
    home_here = let e : 0 + k ≡ k = omega arith in home_append slots k ids last g.home (home_drop k (ids_at cs k) (place + gone) (rw e at (home_at slots 0 cs k g.old below)))

    -- the list of this chunk
    module _ (n : Numbers) (are : n.ids ≡ ids ++ last) (heavy : n.len ≡ weight slots n.ids) where
      abbrev all : List Replacement
      all = rs ++ (k, n) ∷ []

      long : length (exchanged cs rs).0 ≡ length cs
      long = length-exchanged cs rs

      set_here : (exchanged cs all).0 ≡ set (exchanged cs rs).0 k n
      set_here = exchanged_more cs rs (k, n)

      ids_here : all_ids (take (k + 1) (exchanged cs all).0) ≡ front ++ last
      ids_here =
          ap (λ (l : List Numbers). all_ids (take (k + 1) l)) set_here
          ∙ ap all_ids (take_more_set (exchanged cs rs).0 k n (omega (arith, long, below)))
          ∙ all_ids_append (take k (exchanged cs rs).0) (n ∷ [])
          ∙ ap (λ (l : List StmtId). all_ids (take k (exchanged cs rs).0) ++ l) (append-nil n.ids ∙ are)
          ∙ sym (append_assoc (all_ids (take k (exchanged cs rs).0)) ids last)
          ∙ ap (λ (l : List StmtId). l ++ last) g.before

      behind_here : drop (k + 1) (exchanged cs all).0 ≡ drop (k + 1) cs
      behind_here =
          ap (λ (l : List Numbers). drop (k + 1) l) set_here
          ∙ drop-set-lt (k + 1) (exchanged cs rs).0 k n (omega arith)
          ∙ sym (drop-drop 1 k (exchanged cs rs).0) ∙ ap (drop 1) g.behind ∙ drop-drop 1 k cs

      kept_here : AreChunks slots 0 (exchanged cs all).0
      kept_here =
          let e : 0 + k ≡ k = omega arith in
          subst (AreChunks slots 0) (sym set_here) (chunks_set 0 (exchanged cs rs).0 k n g.kept (rw e (subst (AreHome slots k) (sym are) home_here)) heavy)

      places_here : ArePlaces (length cs) all
      places_here = places_more (length cs) k rs (k, n) refl below g.below g.places

      pub ended : gone ≡ min left (length (ids_at cs k) - place) → gone ≡ left → AreLists slots cs (front ++ rest) all
      ended is done = record {
        places = places_here;
        are = cut_at (exchanged cs all).0 (k + 1) ∙ ap₂ (λ (l m : List StmtId). l ++ m) ids_here (ap all_ids behind_here) ∙ append_assoc front last later ∙ ap (λ (l : List StmtId). front ++ l) (sym (left_here is done));
        kept = kept_here;
      }

      pub goes_on : gone ≡ min left (length (ids_at cs k) - place) → gone ≢ left → Going cs front rest all (k + 1) 0 (left - gone) []
      goes_on is some = record {
        old = g.old;
        places = places_here;
        below = below_more k rs (k, n) refl g.below;
        before = append-nil (all_ids (take (k + 1) (exchanged cs all).0)) ∙ ids_here ∙ ap (λ (l : List StmtId). front ++ l) (none_here is some) ∙ append-nil front;
        behind = behind_here;
        kept = kept_here;
        home = tt;
        inside = omega arith;
        still = left_later is some;
      }

    -- how many bytes the pieces of the list of this chunk have
    pub fits_here : gone ≡ min left (length (ids_at cs k) - place) → weight slots (ids ++ last) ≤ weight slots (front ++ rest)
    fits_here is =
        let first = ap (weight slots) g.before in
        let parts = weight_append slots (all_ids (take k (exchanged cs rs).0)) ids in
        let whole = weight_append slots front rest in
        let here = weight_append slots ids last in
        ⊎_elim
        (λ (all_out : gone ≡ left). let r = ap (weight slots) (left_here is all_out) in omega (arith, first, parts, whole, here, r, weight_append slots last later))
        (λ (some : gone ≢ left). let r = ap (weight slots) (none_here is some) in omega (arith, first, parts, whole, here, r))
        (cases_eq gone left)

  -- all chunks have their lists
  pub ends : (cs : List Numbers) (front rest : List StmtId) (rs : List Replacement) (k left : ℕ) → length cs ≤ k → Going cs front rest rs k 0 left [] → AreLists slots cs (front ++ rest) rs
  ends cs front rest rs k left past g =
      let long = length-exchanged cs rs in
      let none : rest ≡ [] = sym g.still ∙ ap (drop left) (sym (later_from cs k) ∙ ap all_ids (drop_all k cs past)) ∙ drop_all left [] (omega arith) in
      let whole : all_ids (exchanged cs rs).0 ≡ front = ap all_ids (sym (take_all k (exchanged cs rs).0 (omega (arith, long, past)))) ∙ sym (append-nil (all_ids (take k (exchanged cs rs).0))) ∙ g.before in
      record { places = g.places; are = whole ∙ sym (append-nil front) ∙ ap (λ (l : List StmtId). front ++ l) (sym none); kept = g.kept }
