-- How many bytes the pieces of numbers have, and where they begin.
use Rattle.std.proofs.Common.{◌≡◌, ◌<◌, ◌≤◌, ◌+◌, ℕ, true, false, List, [], ◌∷◌, ◌++◌, length, get_or, take, drop, Option, Some, None, refl, sym, ap, ◌∙◌, ⊎_elim, arith}
use Rattle.std.specs.Prelude.{nat_lt}
use Rattle.std.proofs.lemmas.Bool.{cases_lt}
use Rattle.std.proofs.lemmas.List.{take-append-drop}
use Rattle.design_model.specs.declared.identifier.StmtId.{StmtId}
use Rattle.text_pieces.specs.Chunks.{Numbers, no_numbers, all_ids, ids_at, IsAbsent}
use Rattle.text_pieces.specs.Tables.{Kept, kept_at, weight, start_in, piece_at, AreChunks}
use Rattle.text_pieces.proofs.Ids.{same, differ, cut_at, ids_from, ids_up_to}
use Rattle.text_pieces.proofs.Slots.{len_at}

pub below_is : (a b : ℕ) → a < b → nat_lt a b ≡ true
below_is a b h = grind arith

pub above_is : (a b : ℕ) → b ≤ a → nat_lt a b ≡ false
above_is a b h = grind arith

module _ (slots : List (Option Kept)) where
  pub weight_append : (xs ys : List StmtId) → weight slots (xs ++ ys) ≡ weight slots xs + weight slots ys
  weight_append [] ys = omega arith
  weight_append (x ∷ xs) ys = omega (arith, weight_append xs ys)

  -- some of the numbers of chunks have no more bytes than all
  pub weight_up_to : (cs : List Numbers) (k : ℕ) → weight slots (all_ids (take k cs)) ≤ weight slots (all_ids cs)
  weight_up_to cs k = let e = ap (weight slots) (cut_at cs k) in omega (arith, e, weight_append (all_ids (take k cs)) (all_ids (drop k cs)))

  pub weight_within : (ids : List StmtId) (i : ℕ) → weight slots (take i ids) ≤ weight slots ids
  weight_within ids i = let e = ap (weight slots) (take-append-drop i ids) in omega (arith, e, weight_append (take i ids) (drop i ids))

  pub start_is : (start : ℕ) (id : StmtId) (xs ys : List StmtId) → IsAbsent id xs → start_in slots start id (xs ++ id ∷ ys) ≡ Some (start + weight slots xs)
  start_is start id [] ys h = let e : start + 0 ≡ start = omega arith in rw (same id.0, e) refl
  start_is start id (x ∷ xs) ys h =
      let n = length (kept_at slots x).bytes in
      let e : start + n + weight slots xs ≡ start + (n + weight slots xs) = omega arith in
      rw (differ x.0 id.0 (λ f. h.0 (sym f))) (start_is (start + n) id xs ys h.1 ∙ ap (λ (m : ℕ). Some m) e)

  pub no_start : (start : ℕ) (id : StmtId) (xs : List StmtId) → IsAbsent id xs → start_in slots start id xs ≡ None
  no_start start id [] h = refl
  no_start start id (x ∷ xs) h = rw (differ x.0 id.0 (λ f. h.0 (sym f))) (no_start (start + length (kept_at slots x).bytes) id xs h.1)

  -- pieces that end before a position don't have it
  pub passed : (start pos : ℕ) (xs ys : List StmtId) → start + weight slots xs ≤ pos → piece_at slots start pos (xs ++ ys) ≡ piece_at slots (start + weight slots xs) pos ys
  passed start pos [] ys h = let e : start + 0 ≡ start = omega arith in rw e refl
  passed start pos (x ∷ xs) ys h =
      let n = length (kept_at slots x).bytes in
      let e : start + n + weight slots xs ≡ start + (n + weight slots xs) = omega arith in
      rw (above_is pos (start + n) (omega (arith, h))) (passed (start + n) pos xs ys (omega (arith, h)) ∙ ap (λ (m : ℕ). piece_at slots m pos ys) e)

  -- and where these end after it, one of them has it
  pub reached : (start pos : ℕ) (xs ys : List StmtId) → pos < start + weight slots xs → start ≤ pos → piece_at slots start pos (xs ++ ys) ≡ piece_at slots start pos xs
  reached start pos [] ys h low = absurd (omega (arith, h, low))
  reached start pos (x ∷ xs) ys h low =
      let n = length (kept_at slots x).bytes in
      ⊎_elim (λ here. rw (below_is pos (start + n) here) refl)
      (λ past. rw (above_is pos (start + n) past) (reached (start + n) pos xs ys (omega (arith, h)) past))
      (cases_lt pos (start + n))

  -- a chunk more
  pub weight_more : (cs : List Numbers) (k : ℕ) (n : Numbers) → AreChunks slots 0 cs → k < length cs → get_or cs k no_numbers ≡ n
      → weight slots (all_ids (take (k + 1) cs)) ≡ weight slots (all_ids (take k cs)) + n.len
  weight_more cs k n h below is =
      ap (weight slots) (ids_up_to cs k below) ∙ weight_append (all_ids (take k cs)) (ids_at cs k)
      ∙ ap (λ (m : ℕ). weight slots (all_ids (take k cs)) + m) (sym (len_at slots 0 cs k h below) ∙ ap (λ (m : Numbers). m.len) is)

  -- the piece that has a position is in the chunk at a place, or in those behind it
  pub chunk_passed : (cs : List Numbers) (k start pos n : ℕ) → k < length cs → n ≡ weight slots (ids_at cs k) → start + n ≤ pos
      → piece_at slots start pos (all_ids (drop k cs)) ≡ piece_at slots (start + n) pos (all_ids (drop (k + 1) cs))
  chunk_passed cs k start pos n below is past =
      ap (piece_at slots start pos) (ids_from cs k below) ∙ passed start pos (ids_at cs k) (all_ids (drop (k + 1) cs)) (omega (arith, is, past))
      ∙ ap (λ (m : ℕ). piece_at slots (start + m) pos (all_ids (drop (k + 1) cs))) (sym is)

  pub chunk_reached : (cs : List Numbers) (k start pos n : ℕ) → k < length cs → n ≡ weight slots (ids_at cs k) → pos < start + n → start ≤ pos
      → piece_at slots start pos (all_ids (drop k cs)) ≡ piece_at slots start pos (ids_at cs k)
  chunk_reached cs k start pos n below is before low =
      ap (piece_at slots start pos) (ids_from cs k below) ∙ reached start pos (ids_at cs k) (all_ids (drop (k + 1) cs)) (omega (arith, is, before)) low

  pub head_has : (start pos : ℕ) (x : StmtId) (xs : List StmtId) → pos < start + length (kept_at slots x).bytes → piece_at slots start pos (x ∷ xs) ≡ Some (x, start)
  head_has start pos x xs here = rw (below_is pos (start + length (kept_at slots x).bytes) here) refl

  pub head_passed : (start pos : ℕ) (x : StmtId) (xs : List StmtId) → start + length (kept_at slots x).bytes ≤ pos → piece_at slots start pos (x ∷ xs) ≡ piece_at slots (start + length (kept_at slots x).bytes) pos xs
  head_passed start pos x xs past = rw (above_is pos (start + length (kept_at slots x).bytes) past) refl
