-- Pieces that an edit touches.
use Rattle.std.proofs.Common.{◌≡◌, ◌<◌, ◌≤◌, ◌+◌, ℕ, zero, suc, List, [], ◌∷◌, ◌++◌, length, get_or, map, take, drop, Option, Some, refl, sym, ap, ap₂, ◌∙◌, ⊎_elim, arith}
use Rattle.std.specs.List.{concat, slice_get}
use Rattle.std.proofs.lemmas.Bool.{cases_lt}
use Rattle.std.proofs.lemmas.List.{append-nil, drop_all, length-drop, map-append, take_all, take_more}
use Rattle.std.proofs.lemmas.List.Folds.{concat-append}
use Rattle.std.proofs.lemmas.Option.{get_or_from_slice_get, slice_get_past, slice_get_within}
use Rattle.design_model.specs.declared.identifier.StmtId.{StmtId}
use Rattle.rereading.specs.Segments.{OldBytes}
use Rattle.rereading.specs.Segments as behind_edit
use Rattle.text_pieces.specs.Behind.{ids_from}
use Rattle.text_pieces.specs.Chunks.{Numbers, all_ids, ids_at}
use Rattle.text_pieces.specs.Tables.{Kept, ids_before, kept_at, weight}
use Rattle.text_pieces.specs.Touched.{BeginsAt}
use Rattle.text_pieces.proofs.Ids.{ids_up_to}
use Rattle.text_pieces.proofs.Weights.{weight_append}

-- one segment more
pub segment_more : (ss : List OldBytes) (n : ℕ) (s : OldBytes) → slice_get ss n ≡ Some s → (n < length ss) × (behind_edit.bytes_of (take (n + 1) ss) ≡ behind_edit.bytes_of (take n ss) ++ s.bytes)
segment_more ss n s at =
    let below = slice_get_within ss n s at in
    let own : get_or ss n s ≡ s = get_or_from_slice_get ss n s s at in (
      below,
      ap behind_edit.bytes_of (take_more ss n s below)
          ∙ ap concat (map-append (λ (o : OldBytes). o.bytes) (take n ss) (get_or ss n s ∷ []))
          ∙ concat-append (map (λ (o : OldBytes). o.bytes) (take n ss)) ((get_or ss n s).bytes ∷ [])
          ∙ ap (λ (l : List ℕ). behind_edit.bytes_of (take n ss) ++ l) (append-nil (get_or ss n s).bytes ∙ ap (λ (o : OldBytes). o.bytes) own),
    )

-- one number more
pub id_more : (ids : List StmtId) (n : ℕ) (id : StmtId) → slice_get ids n ≡ Some id → take (n + 1) ids ≡ take n ids ++ id ∷ []
id_more ids n id at = take_more ids n id (slice_get_within ids n id at) ∙ ap (λ (x : StmtId). take n ids ++ x ∷ []) (get_or_from_slice_get ids n id id at)

-- segments from one on
pub segment_from : (ss : List OldBytes) (p k : ℕ) → slice_get (drop p ss) k ≡ slice_get ss (p + k)
segment_from ss zero k = ap (slice_get ss) (omega arith)
segment_from [] (suc p) k = slice_get_past [] k (omega arith) ∙ sym (slice_get_past [] (suc p + k) (omega arith))
segment_from (s ∷ ss) (suc p) k = segment_from ss p k ∙ ap (slice_get (s ∷ ss)) (let e : suc (p + k) ≡ suc p + k = omega arith in e)

first_of : (xs ys : List StmtId) → 0 < length xs → take 1 (xs ++ ys) ≡ take 1 xs
first_of [] ys some = absurd (omega (arith, some))
first_of (x ∷ xs) ys some = refl

module _ (slots : List (Option Kept)) where
  -- one piece more
  pub heavier : (ids : List StmtId) (i : ℕ) (d : StmtId) → i < length ids → weight slots (take (i + 1) ids) ≡ weight slots (take i ids) + length (kept_at slots (get_or ids i d)).bytes
  heavier ids i d below =
      let x = get_or ids i d in
      let e = ap (weight slots) (take_more ids i d below) in
      omega (arith, e, weight_append slots (take i ids) (x ∷ []))

  none_before : (cs : List Numbers) (k i : ℕ) → k ≡ 0 → i ≡ 0 → length (ids_before cs k i) ≡ 0
  none_before cs k i a b = rw (a, b) refl

  pub begins : (cs : List Numbers) (pos k i from start : ℕ) (ids : List StmtId) → k < length cs → ids ≡ ids_at cs k → from ≡ weight slots (all_ids (take k cs)) → (0 < k → from < pos) → (k + 1 < length cs → pos ≤ weight slots (all_ids (take (k + 1) cs)))
      → i ≤ length ids → start ≡ from + weight slots (take i ids) → (0 < i → start < pos) → (i < length ids → pos ≤ start + weight slots (take 1 (drop i ids))) → BeginsAt (record { chunks = cs; slots = slots }) pos (record { chunk = k; index = i; start = start })
  begins cs pos k i from start ids below is at low higher inside here lower high =
      let long = ap (λ (l : List StmtId). length l) is in
      let own = ap (λ (l : List StmtId). weight slots (take i l)) is in
      record {
        within = below;
        inside = omega (arith, inside, long);
        bytes = omega (arith, at, here, own, weight_append slots (all_ids (take k cs)) (take i (ids_at cs k)));
        low = λ some. low_at i k refl refl some;
        high = λ some. high_at some;
      }
    where
      high_at : 0 < length (ids_from cs k i) → pos ≤ start + weight slots (take 1 (ids_from cs k i))
      high_at some = ⊎_elim
          (λ (there : i < length ids).
          let own : take 1 (ids_from cs k i) ≡ take 1 (drop i ids) =
          ap (λ (l : List StmtId). take 1 (drop i l ++ all_ids (drop (k + 1) cs))) (sym is) ∙ first_of (drop i ids) (all_ids (drop (k + 1) cs)) (omega (arith, there, length-drop i ids)) in
          omega (arith, high there, ap (weight slots) own))
          (λ (past : length ids ≤ i). ⊎_elim
          (λ (more : k + 1 < length cs).
          let whole = ap (weight slots) (take_all i ids past) in
          let up = ap (weight slots) (ids_up_to cs k below) in
          let own = ap (weight slots) is in
          omega (arith, higher more, up, own, whole, here, at, weight_append slots (all_ids (take k cs)) (ids_at cs k)))
          (λ (last : length cs ≤ k + 1).
          let none : ids_from cs k i ≡ [] =
          ap (λ (l : List StmtId). drop i l ++ all_ids (drop (k + 1) cs)) (sym is) ∙ ap₂ (λ (l : List StmtId) (ds : List Numbers). l ++ all_ids ds) (drop_all i ids past) (drop_all (k + 1) cs last) in
          absurd (omega (arith, some, ap (λ (l : List StmtId). length l) none)))
          (cases_lt (k + 1) (length cs)))
          (cases_lt i (length ids))

      low_at : (j l : ℕ) → j ≡ i → l ≡ k → 0 < length (ids_before cs k i) → start < pos
      low_at (suc j) l e f some = lower (omega (arith, e))
      low_at zero (suc l) e f some =
          let none : start ≡ from = omega (arith, here, ap (λ (n : ℕ). weight slots (take n ids)) (sym e)) in
          omega (arith, none, low (omega (arith, f)))
      low_at zero zero e f some = absurd (omega (arith, some, none_before cs k i (sym f) (sym e)))
