-- The numbers beside one.
use Rattle.std.proofs.Common.{◌≡◌, ◌<◌, ◌≤◌, ◌+◌, ◌-◌, ℕ, List, ◌∷◌, ◌++◌, length, get_or, take, drop, Some, sym, ap, ◌∙◌, subst, arith}
use Rattle.std.proofs.lemmas.List.{append-nil}
use Rattle.design_model.specs.declared.identifier.StmtId.{StmtId}
use Rattle.text_pieces.specs.Chunks.{Numbers, all_ids, ids_at, AreOnce, first_id, last_id, id_after, id_before}
use Rattle.text_pieces.specs.Tables.{ids_before, ids_after}
use Rattle.text_pieces.proofs.Ids.{absent_after, absent_before, after_is, before_is, first_at, first_past, last_at}

module _ (cs : List Numbers) (k i : ℕ) (id : StmtId) (stands : all_ids cs ≡ ids_before cs k i ++ id ∷ ids_after cs k i) (once : AreOnce (all_ids cs)) where
  alone : AreOnce (ids_before cs k i ++ id ∷ ids_after cs k i)
  alone = subst (λ (l : List StmtId). AreOnce l) stands once

  next_is : id_after id (all_ids cs) ≡ first_id (ids_after cs k i)
  next_is = ap (id_after id) stands ∙ after_is id (ids_before cs k i) (ids_after cs k i) (absent_before id (ids_before cs k i) (ids_after cs k i) alone)

  prev_is : id_before id (all_ids cs) ≡ last_id (ids_before cs k i)
  prev_is =
      ap (id_before id) stands
      ∙ before_is id (ids_before cs k i) (ids_after cs k i) (absent_before id (ids_before cs k i) (ids_after cs k i) alone) (absent_after id (ids_before cs k i) (ids_after cs k i) alone)

  -- in its chunk, or in another
  pub next_inside : (ids : List StmtId) (d : StmtId) → ids ≡ ids_at cs k → i + 1 < length ids → Some (get_or ids (i + 1) d) ≡ id_after id (all_ids cs)
  next_inside ids d is below =
      let more = all_ids (drop (k + 1) cs) in
      sym (first_at ids (i + 1) d more below) ∙ ap (λ (l : List StmtId). first_id (drop (i + 1) l ++ more)) is ∙ sym next_is

  pub next_outside : (ids : List StmtId) → ids ≡ ids_at cs k → length ids ≤ i + 1 → first_id (all_ids (drop (k + 1) cs)) ≡ id_after id (all_ids cs)
  next_outside ids is past =
      let more = all_ids (drop (k + 1) cs) in
      sym (first_past ids (i + 1) more past) ∙ ap (λ (l : List StmtId). first_id (drop (i + 1) l ++ more)) is ∙ sym next_is

  pub prev_inside : (ids : List StmtId) (d : StmtId) → ids ≡ ids_at cs k → 0 < i → i < length (ids_at cs k) → Some (get_or ids (i - 1) d) ≡ id_before id (all_ids cs)
  prev_inside ids d is some below =
      let front = all_ids (take k cs) in
      let long = ap (λ (l : List StmtId). length l) is in
      let up : (i - 1) + 1 ≡ i = omega (arith, some) in
      sym (last_at front ids (i - 1) d (omega (arith, long, below, some)))
      ∙ ap (λ (l : List StmtId). last_id (front ++ take ((i - 1) + 1) l)) is ∙ ap (λ (j : ℕ). last_id (front ++ take j (ids_at cs k))) up ∙ sym prev_is

  pub prev_outside : i ≤ 0 → last_id (all_ids (take k cs)) ≡ id_before id (all_ids cs)
  prev_outside none =
      let front = all_ids (take k cs) in
      let zero : 0 ≡ i = omega (arith, none) in
      ap last_id (sym (append-nil front)) ∙ ap (λ (j : ℕ). last_id (front ++ take j (ids_at cs k))) zero ∙ sym prev_is
