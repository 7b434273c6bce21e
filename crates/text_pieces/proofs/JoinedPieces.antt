-- The bytes of the pieces of numbers, one after the other.
use Rattle.std.proofs.Common.{◌≡◌, ◌<◌, ◌+◌, ℕ, List, [], ◌∷◌, ◌++◌, length, get_or, map, take, drop, Option, sym, ap, ◌∙◌, append-nil}
use Rattle.std.specs.List.{concat}
use Rattle.std.proofs.lemmas.List.{map-append, take_more, take-append-drop}
use Rattle.std.proofs.lemmas.List.Folds.{concat-append}
use Rattle.design_model.specs.declared.identifier.StmtId.{StmtId}
use Rattle.text_pieces.specs.Chunks.{Numbers, all_ids, ids_at}
use Rattle.text_pieces.specs.Content.{bytes_of}
use Rattle.text_pieces.specs.Tables.{Kept, kept_at}
use Rattle.text_pieces.proofs.Ids.{cut_at, ids_up_to}

module _ (slots : List (Option Kept)) where
  abbrev pub joined : List StmtId → List ℕ
  joined ids = concat (bytes_of (map (kept_at slots) ids))

  pub joined_append : (xs ys : List StmtId) → joined (xs ++ ys) ≡ joined xs ++ joined ys
  joined_append xs ys =
      ap (λ (l : List Kept). concat (bytes_of l)) (map-append (kept_at slots) xs ys)
      ∙ ap concat (map-append (λ (k : Kept). k.bytes) (map (kept_at slots) xs) (map (kept_at slots) ys))
      ∙ concat-append (bytes_of (map (kept_at slots) xs)) (bytes_of (map (kept_at slots) ys))

  -- up to a place of some numbers, and all of them
  pub joined_more : (ids : List StmtId) (i : ℕ) (d : StmtId) → i < length ids → joined (take (i + 1) ids) ≡ joined (take i ids) ++ (kept_at slots (get_or ids i d)).bytes
  joined_more ids i d below =
      let x = get_or ids i d in
      ap joined (take_more ids i d below) ∙ joined_append (take i ids) (x ∷ []) ∙ ap (λ (l : List ℕ). joined (take i ids) ++ l) (append-nil (kept_at slots x).bytes)

  pub joined_split : (ids : List StmtId) (i : ℕ) → joined ids ≡ joined (take i ids) ++ joined (drop i ids)
  joined_split ids i = ap joined (sym (take-append-drop i ids)) ∙ joined_append (take i ids) (drop i ids)

  -- and up to a chunk
  pub joined_chunk : (cs : List Numbers) (k : ℕ) → k < length cs → joined (all_ids (take (k + 1) cs)) ≡ joined (all_ids (take k cs)) ++ joined (ids_at cs k)
  joined_chunk cs k below = ap joined (ids_up_to cs k below) ∙ joined_append (all_ids (take k cs)) (ids_at cs k)

  pub joined_cut : (cs : List Numbers) (k : ℕ) → joined (all_ids cs) ≡ joined (all_ids (take k cs)) ++ joined (all_ids (drop k cs))
  joined_cut cs k = ap joined (cut_at cs k) ∙ joined_append (all_ids (take k cs)) (all_ids (drop k cs))
