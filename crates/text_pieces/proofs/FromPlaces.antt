-- Numbers from a place of a chunk on.
use Rattle.std.proofs.Common.{◌≡◌, ◌<◌, ◌≤◌, ◌+◌, ◌-◌, ℕ, zero, suc, List, [], ◌∷◌, ◌++◌, length, map, take, drop, Option, Some, refl, sym, ap, ◌∙◌, subst, ⊎_elim, append_assoc, append-nil, arith, length-append}
use Rattle.std.specs.Prelude.{option_map, slice_get}
use Rattle.std.proofs.lemmas.Bool.{cases_lt}
use Rattle.std.proofs.lemmas.List.{drop_all, get_or_past, length-drop, length-map, take-append-drop}
use Rattle.std.proofs.lemmas.Option.{slice_get-map, slice_get_within}
use Rattle.design_model.specs.declared.identifier.StmtId.{StmtId}
use Rattle.design_model.specs.declared.mode.Mode.TheVariants.{After}
use Rattle.text_pieces.specs.Behind.{ids_from, old_bytes, segments}
use Rattle.text_pieces.specs.Chunks.{Numbers, no_numbers, all_ids, ids_at}
use Rattle.text_pieces.specs.Tables.{Kept, kept_at, AreChunks}
use Rattle.text_pieces.proofs.Found.{AreHeld, IsHeld, chunks_held}
use Rattle.text_pieces.proofs.Ids.{cut_at, ids_from as chunks_from}

pub get_front : {X : Type 0} (xs ys : List X) (n : ℕ) → n < length xs → slice_get (xs ++ ys) n ≡ slice_get xs n
get_front [] ys n h = absurd (omega (arith, h))
get_front (x ∷ xs) ys zero h = refl
get_front (x ∷ xs) ys (suc n) h = get_front xs ys n (omega (arith, h))

pub get_behind : {X : Type 0} (xs ys : List X) (n : ℕ) → length xs ≤ n → slice_get (xs ++ ys) n ≡ slice_get ys (n - length xs)
get_behind [] ys n h = ap (slice_get ys) (omega arith)
get_behind (x ∷ xs) ys zero h = absurd (omega (arith, h))
get_behind (x ∷ xs) ys (suc n) h = get_behind xs ys n (omega (arith, h)) ∙ ap (slice_get ys) (omega arith)

-- the numbers from a chunk on, where there is one
pub later_from : (cs : List Numbers) (k : ℕ) → all_ids (drop k cs) ≡ ids_from cs k 0
later_from cs k = ⊎_elim (λ below. chunks_from cs k below)
    (λ past.
    let none : drop k cs ≡ [] = drop_all k cs past in
    let gone : drop (k + 1) cs ≡ [] = drop_all (k + 1) cs (omega (arith, past)) in
    let empty : ids_at cs k ≡ [] = ap (λ (n : Numbers). n.ids) (get_or_past cs k no_numbers past) in
    ap all_ids none ∙ sym (ap (λ (l : List StmtId). l ++ all_ids (drop (k + 1) cs)) empty ∙ ap all_ids gone))
    (cases_lt k (length cs))

pub passed_from : (cs : List Numbers) (k i n : ℕ) (ids : List StmtId) → ids ≡ ids_at cs k → length ids - i ≤ n → slice_get (ids_from cs k i) n ≡ slice_get (ids_from cs (k + 1) 0) (n - (length ids - i))
passed_from cs k i n ids is past =
    let more = all_ids (drop (k + 1) cs) in
    ap (λ (l : List StmtId). slice_get (drop i l ++ more) n) (sym is) ∙ get_behind (drop i ids) more n (omega (arith, past, length-drop i ids))
    ∙ ap (λ (m : ℕ). slice_get more (n - m)) (length-drop i ids) ∙ ap (λ (l : List StmtId). slice_get l (n - (length ids - i))) (later_from cs (k + 1))

-- how many numbers stand from a chunk on, where there is one or none
pub many_from : (cs : List Numbers) (k : ℕ) → length (all_ids (drop k cs)) ≡ length (ids_at cs k) + length (all_ids (drop (k + 1) cs))
many_from cs k = ap (λ (l : List StmtId). length l) (later_from cs k) ∙ length-append (ids_at cs k) (all_ids (drop (k + 1) cs))

-- all numbers are those before a place, and those from it on
pub parted_at : (cs : List Numbers) (k i : ℕ) → i ≤ length (ids_at cs k) → (front : List StmtId) × (all_ids cs ≡ front ++ ids_from cs k i)
parted_at cs k i low = ⊎_elim
    (λ below.
    let ids = ids_at cs k in
    let more = all_ids (drop (k + 1) cs) in (
      all_ids (take k cs) ++ take i ids,
      cut_at cs k ∙ ap (λ (l : List StmtId). all_ids (take k cs) ++ l) (chunks_from cs k below ∙ ap (λ (l : List StmtId). l ++ more) (sym (take-append-drop i ids)) ∙ append_assoc (take i ids) (drop i ids) more)
          ∙ sym (append_assoc (all_ids (take k cs)) (take i ids) (drop i ids ++ more)),
    ))
    (λ past.
    let empty : ids_at cs k ≡ [] = ap (λ (n : Numbers). n.ids) (get_or_past cs k no_numbers past) in
    let gone : drop (k + 1) cs ≡ [] = drop_all (k + 1) cs (omega (arith, past)) in
    let none : ids_from cs k i ≡ [] = ap (λ (l : List StmtId). drop i l ++ all_ids (drop (k + 1) cs)) empty ∙ ap (λ (l : List StmtId). l ++ all_ids (drop (k + 1) cs)) (drop_all i [] (omega arith)) ∙ ap all_ids gone in
    (all_ids cs, sym (append-nil (all_ids cs)) ∙ ap (λ (l : List StmtId). all_ids cs ++ l) (sym none)))
    (cases_lt k (length cs))

pub few_from : (cs : List Numbers) (k i : ℕ) → i ≤ length (ids_at cs k) → length (ids_from cs k i) ≤ length (all_ids cs)
few_from cs k i low =
    let p = parted_at cs k i low in
    let all = ap (λ (l : List StmtId). length l) p.1 in
    omega (arith, all, length-append p.0 (ids_from cs k i))

module _ (slots : List (Option Kept)) where
  held_behind : (xs ys : List StmtId) → AreHeld slots (xs ++ ys) → AreHeld slots ys
  held_behind [] ys h = h
  held_behind (x ∷ xs) ys h = held_behind xs ys h.1

  held_get : (ids : List StmtId) (n : ℕ) (id : StmtId) → AreHeld slots ids → slice_get ids n ≡ Some id → IsHeld slots id
  held_get [] n id h e = absurd (cc)
  held_get (x ∷ xs) zero id h e = let s : x ≡ id = cc in rw (← s) h.0
  held_get (x ∷ xs) (suc n) id h e = held_get xs n id h.1 e

  pub held_from : (cs : List Numbers) (k i n : ℕ) (id : StmtId) → AreChunks slots 0 cs → i ≤ length (ids_at cs k) → slice_get (ids_from cs k i) n ≡ Some id → IsHeld slots id
  held_from cs k i n id h low e =
      let p = parted_at cs k i low in
      held_get (ids_from cs k i) n id (held_behind p.0 (ids_from cs k i) (subst (AreHeld slots) p.1 (chunks_held slots 0 cs h))) e

-- the segment of a number
pub segment_at : (slots : List (Option Kept)) (ids : List StmtId) (tail : List ℕ) (n : ℕ) (id : StmtId) → slice_get ids n ≡ Some id → slice_get (segments (map (kept_at slots) ids) tail) n ≡ Some (old_bytes (kept_at slots id))
segment_at slots ids tail n id e =
    let ks = map (kept_at slots) ids in
    let below : n < length ids = slice_get_within ids n id e in
    let long : length (map old_bytes ks) ≡ length ids = length-map ks old_bytes ∙ length-map ids (kept_at slots) in
    get_front (map old_bytes ks) (record { bytes = tail; mode = Some After } ∷ []) n (omega (arith, below, long))
    ∙ slice_get-map old_bytes ks n
    ∙ ap (option_map old_bytes) (slice_get-map (kept_at slots) ids n ∙ ap (option_map (kept_at slots)) e)
