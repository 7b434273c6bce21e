-- Cuts of a text in one.
use Rattle.std.proofs.Common.{◌≡◌, ◌<◌, ◌≤◌, ◌+◌, ◌-◌, ℕ, List, [], ◌∷◌, ◌++◌, length, get_or, map, take, drop, Some, Result, Ok, Err, sym, ap, ap₂, ◌∙◌, subst, arith, slice_range}
use Rattle.std.specs.List.{slice_get}
use Rattle.std.proofs.lemmas.List.{drop_more}
use Rattle.statement_model.specs.Cuts.{Cut, cut_from, with_cuts}
use Rattle.text_pieces.specs.Changes.{Prepared}
use Rattle.text_pieces.specs.Content.{Content, text_of}
use Rattle.text_pieces.specs.Covering.{AreInOrder, IsCover, PreparesAll, cover_of, cut_of}
use Rattle.text_pieces.specs.Preparing.{IsPrepared, Prepares}
use Rattle.text_pieces.specs.Stretches.{cut_text}
use Rattle.text_pieces.specs.declared.prepared.PrepareError.{PrepareError}
use Rattle.text_pieces.specs.declared.prepared.TextCut.{TextCut}
use Rattle.text_pieces.specs.declared.prepared.PrepareError.TheVariants.{Fault, Memory, Range, TooLong}

pub order_below : (at : ℕ) (cs : List Cut) (n : ℕ) → AreInOrder at cs n → at ≤ n
order_below at [] n h = h
order_below at (c ∷ cs) n h = omega (arith, h.0, h.1, order_below c.hi cs n h.2)

-- the next of some cuts, where they stand in order
pub next_follows : (cuts : List TextCut) (i : ℕ) (d : TextCut) (at n : ℕ) → i < length cuts → AreInOrder at (map cut_of (drop i cuts)) n
    → (at ≤ (get_or cuts i d).lo) × ((get_or cuts i d).lo ≤ (get_or cuts i d).hi) × ((get_or cuts i d).hi ≤ n)
next_follows cuts i d at n below h =
    let k = subst (λ (l : List TextCut). AreInOrder at (map cut_of l) n) (drop_more cuts i d below) h in
    (k.0, k.1, order_below (get_or cuts i d).hi (map cut_of (drop (i + 1) cuts)) n k.2)

-- the first of some cuts, and the others
pub first_and_others : (cuts : List TextCut) (c : TextCut) → slice_get cuts 0 ≡ Some c → cuts ≡ c ∷ drop 1 cuts
first_and_others [] c e = absurd (cc)
first_and_others (d ∷ ds) c e = let s : d ≡ c = cc in ap (λ (x : TextCut). x ∷ ds) s

-- cuts the first of which stands past a length
pub past_first : (cuts : List TextCut) (c : TextCut) (n : ℕ) → slice_get cuts 0 ≡ Some c → n < c.lo → AreInOrder 0 (map cut_of cuts) n → ⊥
past_first cuts c n at past h =
    let k = subst (λ (l : List TextCut). AreInOrder 0 (map cut_of l) n) (first_and_others cuts c at) h in
    let end = order_below c.hi (map cut_of (drop 1 cuts)) n k.2 in
    absurd (omega (arith, past, k.1, end))

-- the cut that covers all
pub covered : (c : Cut) (cs : List Cut) (text put : List ℕ) (end : ℕ) → IsCover text c.lo (c ∷ cs) put end → with_cuts (record { lo = c.lo; hi = end; put = put } ∷ []) text ≡ with_cuts (c ∷ cs) text
covered c cs text put end h =
    let none : c.lo - c.lo ≡ 0 = omega arith in
    ap (λ (l : List ℕ). slice_range text 0 c.lo ++ l) (h.is ∙ ap (λ (n : ℕ). take n (drop c.lo text) ++ (c.put ++ cut_from c.hi cs text)) none)

module _ (old new : Content) (c : Cut) (cs : List Cut) (put : List ℕ) (end : ℕ) (h : IsCover (text_of old) c.lo (c ∷ cs) put end) where
  abbrev all : List Cut
  all = c ∷ cs

  abbrev one : Cut
  one = record { lo = c.lo; hi = end; put = put }

  same : cut_text old one ≡ with_cuts (c ∷ cs) (text_of old)
  same = covered c cs (text_of old) put end h

  pub prepared_all : (r : Result Prepared PrepareError) → Prepares old new one r → PreparesAll old new (c ∷ cs) r
  prepared_all (Ok p) k = subst (λ (l : List ℕ). IsPrepared old new l p) same k
  prepared_all (Err Range) k = λ u. absurd (omega (arith, k h.low, h.high))
  prepared_all (Err TooLong) k = ((omega arith, h.order.1, h.order.2), omega (arith, k.2, ap (λ (l : List ℕ). length l) same))
  prepared_all (Err Fault) k = (k.0, rw (sym same) k.1)
  prepared_all (Err Memory) k = tt

-- it is the cut that covers all
cover_first : (text : List ℕ) (c : TextCut) (cuts : List TextCut) (put : List ℕ) (end : ℕ) → IsCover text c.lo (map cut_of (c ∷ cuts)) put end
    → record { lo = c.lo; hi = end; put = put } ≡ cover_of text (map cut_of (c ∷ cuts))
cover_first text c cuts put end h = ap₂ (λ (n : ℕ) (l : List ℕ). record { lo = c.lo; hi = n; put = l }) h.last h.exact

pub cover_is : (text : List ℕ) (cuts : List TextCut) (c : TextCut) (put : List ℕ) (end : ℕ) → slice_get cuts 0 ≡ Some c → IsCover text c.lo (map cut_of cuts) put end
    → record { lo = c.lo; hi = end; put = put } ≡ cover_of text (map cut_of cuts)
cover_is text cuts c put end at h =
    let e = first_and_others cuts c at in
    let own = cover_first text c (drop 1 cuts) put end (subst (λ (l : List TextCut). IsCover text c.lo (map cut_of l) put end) e h) in
    own ∙ ap (λ (l : List TextCut). cover_of text (map cut_of l)) (sym e)

pub prepared_cuts : (old new : Content) (cuts : List TextCut) (c : TextCut) (put : List ℕ) (end : ℕ) (r : Result Prepared PrepareError) → slice_get cuts 0 ≡ Some c → IsCover (text_of old) c.lo (map cut_of cuts) put end
    → Prepares old new (record { lo = c.lo; hi = end; put = put }) r → PreparesAll old new (map cut_of cuts) r
prepared_cuts old new cuts c put end r at h k =
    let e = first_and_others cuts c at in
    subst (λ (l : List TextCut). PreparesAll old new (map cut_of l) r) (sym e)
    (prepared_all old new (cut_of c) (map cut_of (drop 1 cuts)) put end (subst (λ (l : List TextCut). IsCover (text_of old) c.lo (map cut_of l) put end) e h) r k)
