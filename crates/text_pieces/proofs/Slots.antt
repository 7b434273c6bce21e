-- What is kept under numbers.
use Rattle.std.proofs.Common.{◌≡◌, ◌≢◌, ◌<◌, ◌+◌, ℕ, zero, suc, List, [], ◌∷◌, length, get_or, take, map, Option, Some, None, refl, sym, ap, ◌∙◌, subst, ⊎_elim, arith}
use Rattle.std.specs.Prelude.{option_map}
use Rattle.std.proofs.lemmas.Bool.{cases_eq}
use Rattle.design_model.specs.declared.identifier.StmtId.{StmtId}
use Rattle.text_pieces.specs.Chunks.{Numbers, no_numbers, all_ids, ids_at, IsAbsent}
use Rattle.text_pieces.specs.Tables.{Kept, slot, kept_at, weight, AreHome, AreChunks}
use Rattle.text_pieces.proofs.Ids.{absent_append}

pub slot_map : {X Y : Type 0} (f : X → Y) (xs : List (Option X)) (i : ℕ) → get_or (map (option_map f) xs) i None ≡ option_map f (get_or xs i None)
slot_map f [] i = refl
slot_map f (x ∷ xs) zero = refl
slot_map f (x ∷ xs) (suc i) = slot_map f xs i

module _ (slots : List (Option Kept)) where
  pub same_slot : (id x : StmtId) → id.0 ≡ x.0 → slot slots id ≡ slot slots x
  same_slot id x e = ap (λ (n : ℕ). get_or slots n None) e

  -- a number of another chunk isn't one of this chunk
  absent_home : (k : ℕ) (ids : List StmtId) (id : StmtId) (p : Kept) → AreHome slots k ids → slot slots id ≡ Some p → (p.chunk ≢ k) → IsAbsent id ids
  absent_home k [] id p h held apart = tt
  absent_home k (x ∷ xs) id p h held apart = (
    λ e. let s : Some p ≡ Some (kept_at slots x) = sym held ∙ same_slot id x e ∙ h.0 in let t : p ≡ kept_at slots x = cc in apart (ap (λ (q : Kept). q.chunk) t ∙ h.1),
    absent_home k xs id p h.2 held apart,
  )

  pub unheld_home : (k : ℕ) (ids : List StmtId) (id : StmtId) → AreHome slots k ids → slot slots id ≡ None → IsAbsent id ids
  unheld_home k [] id h none = tt
  unheld_home k (x ∷ xs) id h none = (
    λ e. let s : None ≡ Some (kept_at slots x) = sym none ∙ same_slot id x e ∙ h.0 in absurd (cc),
    unheld_home k xs id h.2 none,
  )

  -- a number under which nothing is kept doesn't stand
  pub unheld : (k : ℕ) (cs : List Numbers) (id : StmtId) → AreChunks slots k cs → slot slots id ≡ None → IsAbsent id (all_ids cs)
  unheld k [] id h none = tt
  unheld k (c ∷ cs) id h none = absent_append id c.ids (all_ids cs) (unheld_home k c.ids id h.0 none) (unheld (suc k) cs id h.2 none)

  -- nor does one that isn't in its own chunk
  pub absent_elsewhere : (k : ℕ) (cs : List Numbers) (id : StmtId) (p : Kept) → AreChunks slots k cs → slot slots id ≡ Some p
      → ((j : ℕ) → k + j ≡ p.chunk → IsAbsent id (ids_at cs j)) → IsAbsent id (all_ids cs)
  absent_elsewhere k [] id p h held none = tt
  absent_elsewhere k (c ∷ cs) id p h held none =
      absent_append id c.ids (all_ids cs)
      (⊎_elim (λ own. none 0 (omega (arith, own))) (λ other. absent_home k c.ids id p h.0 held other) (cases_eq p.chunk k))
      (absent_elsewhere (suc k) cs id p h.2 held (λ j e. none (suc j) (omega (arith, e))))

  -- what the chunk at a place has
  pub home_at : (k : ℕ) (cs : List Numbers) (j : ℕ) → AreChunks slots k cs → j < length cs → AreHome slots (k + j) (ids_at cs j)
  home_at k [] j h below = absurd (omega (arith, below))
  home_at k (c ∷ cs) zero h below = let e : k + 0 ≡ k = omega arith in rw e h.0
  home_at k (c ∷ cs) (suc j) h below = let e : k + suc j ≡ suc k + j = omega arith in rw e (home_at (suc k) cs j h.2 (omega (arith, below)))

  pub len_at : (k : ℕ) (cs : List Numbers) (j : ℕ) → AreChunks slots k cs → j < length cs → (get_or cs j no_numbers).len ≡ weight slots (ids_at cs j)
  len_at k [] j h below = absurd (omega (arith, below))
  len_at k (c ∷ cs) zero h below = h.1
  len_at k (c ∷ cs) (suc j) h below = len_at (suc k) cs j h.2 (omega (arith, below))

  pub held_at : (k : ℕ) (ids : List StmtId) (i : ℕ) (d : StmtId) → AreHome slots k ids → i < length ids → slot slots (get_or ids i d) ≡ Some (kept_at slots (get_or ids i d))
  held_at k [] i d h below = absurd (omega (arith, below))
  held_at k (x ∷ xs) zero d h below = h.0
  held_at k (x ∷ xs) (suc i) d h below = held_at k xs i d h.2 (omega (arith, below))

  pub home_take : (k : ℕ) (ids : List StmtId) (i : ℕ) → AreHome slots k ids → AreHome slots k (take i ids)
  home_take k ids zero h = tt
  home_take k [] (suc i) h = tt
  home_take k (x ∷ xs) (suc i) h = (h.0, h.1, home_take k xs i h.2)

  pub absent_own : (cs : List Numbers) (id : StmtId) (p : Kept) → AreChunks slots 0 cs → slot slots id ≡ Some p → IsAbsent id (ids_at cs p.chunk) → IsAbsent id (all_ids cs)
  absent_own cs id p h held none =
      absent_elsewhere 0 cs id p h held (λ j e. let same : p.chunk ≡ j = omega (arith, e) in subst (λ (n : ℕ). IsAbsent id (ids_at cs n)) same none)

-- a chunk that has a number is one
pub some_in : (cs : List Numbers) (k i : ℕ) → i < length (ids_at cs k) → k < length cs
some_in [] zero i h = absurd (omega (arith, h))
some_in [] (suc k) i h = absurd (omega (arith, h))
some_in (c ∷ cs) zero i h = omega arith
some_in (c ∷ cs) (suc k) i h = omega (arith, some_in cs k i h)
