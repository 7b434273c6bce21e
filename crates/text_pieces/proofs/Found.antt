-- Numbers that are found among those that stand.
use Rattle.std.proofs.Common.{◌≡◌, ◌<◌, ◌≤◌, ◌+◌, ℕ, suc, List, [], ◌∷◌, ◌++◌, length, Option, Some, sym, ap, ◌∙◌, ⊎_elim, arith}
use Rattle.std.proofs.lemmas.Bool.{cases_eq, cases_lt}
use Rattle.design_model.specs.declared.identifier.StmtId.{StmtId}
use Rattle.text_pieces.specs.Chunks.{Numbers, all_ids}
use Rattle.text_pieces.specs.Tables.{Kept, slot, kept_at, kept_or, weight, start_in, piece_at, AreHome, AreChunks}
use Rattle.text_pieces.proofs.Ids.{same, differ}
use Rattle.text_pieces.proofs.Slots.{same_slot}
use Rattle.text_pieces.proofs.Weights.{above_is, below_is}

module _ (slots : List (Option Kept)) where
  abbrev pub IsHeld : StmtId → Type 0
  IsHeld id = slot slots id ≡ Some (kept_at slots id)

  abbrev pub AreHeld : List StmtId → Type 0
  AreHeld [] = Unit {0}
  AreHeld (x ∷ xs) = IsHeld x × AreHeld xs

  held_append : (xs ys : List StmtId) → AreHeld xs → AreHeld ys → AreHeld (xs ++ ys)
  held_append [] ys h k = k
  held_append (x ∷ xs) ys h k = (h.0, held_append xs ys h.1 k)

  home_held : (k : ℕ) (ids : List StmtId) → AreHome slots k ids → AreHeld ids
  home_held k [] h = tt
  home_held k (x ∷ xs) h = (h.0, home_held k xs h.2)

  pub chunks_held : (k : ℕ) (cs : List Numbers) → AreChunks slots k cs → AreHeld (all_ids cs)
  chunks_held k [] h = tt
  chunks_held k (c ∷ cs) h = held_append c.ids (all_ids cs) (home_held k c.ids h.0) (chunks_held (suc k) cs h.2)

  held_as : (x id : StmtId) → x.0 ≡ id.0 → IsHeld x → IsHeld id
  held_as x id e h = same_slot slots id x (sym e) ∙ h ∙ ap (λ (o : Option Kept). Some (kept_or o)) (same_slot slots x id e)

  -- what begins at a place, by its number, is kept and ends within all bytes
  pub start_held : (start n : ℕ) (id : StmtId) (ids : List StmtId) → AreHeld ids → start_in slots start id ids ≡ Some n → IsHeld id
  start_held start n id [] h e = absurd (cc)
  start_held start n id (x ∷ xs) h e =
      ⊎_elim (λ s. held_as x id s h.0)
      (λ apart. start_held (start + length (kept_at slots x).bytes) n id xs h.1 (rw (differ x.0 id.0 apart) at e))
      (cases_eq x.0 id.0)

  start_first : (start n : ℕ) (id x : StmtId) (xs : List StmtId) → x.0 ≡ id.0 → start_in slots start id (x ∷ xs) ≡ Some n → start ≡ n
  start_first start n id x xs s e = let t : Some start ≡ Some n = rw (s, same id.0) at e in cc

  pub start_fits : (start n : ℕ) (id : StmtId) (ids : List StmtId) → start_in slots start id ids ≡ Some n → n + length (kept_at slots id).bytes ≤ start + weight slots ids
  start_fits start n id [] e = absurd (cc)
  start_fits start n id (x ∷ xs) e =
      ⊎_elim
      (λ s.
      let same_bytes : length (kept_at slots x).bytes ≡ length (kept_at slots id).bytes = ap (λ (o : Option Kept). length (kept_or o).bytes) (same_slot slots x id s) in
      let first = start_first start n id x xs s e in
      omega (arith, same_bytes, first))
      (λ apart.
      let later = start_fits (start + length (kept_at slots x).bytes) n id xs (rw (differ x.0 id.0 apart) at e) in
      omega (arith, later))
      (cases_eq x.0 id.0)

  piece_first : (start n pos : ℕ) (id x : StmtId) (xs : List StmtId) → pos < start + length (kept_at slots x).bytes → piece_at slots start pos (x ∷ xs) ≡ Some (id, n) → (x ≡ id) × (start ≡ n)
  piece_first start n pos id x xs here e =
      let a : StmtId × ℕ = (x, start) in
      let b : StmtId × ℕ = (id, n) in
      let t : Some a ≡ Some b = rw (below_is pos (start + length (kept_at slots x).bytes) here) at e in
      let u : a ≡ b = cc in
      (ap (λ (y : StmtId × ℕ). y.0) u, ap (λ (y : StmtId × ℕ). y.1) u)

  -- the same of what has a position
  pub piece_held : (start n pos : ℕ) (id : StmtId) (ids : List StmtId) → AreHeld ids → piece_at slots start pos ids ≡ Some (id, n) → IsHeld id
  piece_held start n pos id [] h e = absurd (cc)
  piece_held start n pos id (x ∷ xs) h e =
      let end = start + length (kept_at slots x).bytes in
      ⊎_elim (λ here. let f = piece_first start n pos id x xs here e in rw (← f.0) h.0)
      (λ past. piece_held end n pos id xs h.1 (rw (above_is pos end past) at e))
      (cases_lt pos end)

  pub piece_fits : (start n pos : ℕ) (id : StmtId) (ids : List StmtId) → piece_at slots start pos ids ≡ Some (id, n) → n + length (kept_at slots id).bytes ≤ start + weight slots ids
  piece_fits start n pos id [] e = absurd (cc)
  piece_fits start n pos id (x ∷ xs) e =
      let end = start + length (kept_at slots x).bytes in
      ⊎_elim
      (λ here.
      let f = piece_first start n pos id x xs here e in
      let same_bytes : length (kept_at slots x).bytes ≡ length (kept_at slots id).bytes = ap (λ (y : StmtId). length (kept_at slots y).bytes) f.0 in
      omega (arith, same_bytes, f.1))
      (λ past. let later = piece_fits end n pos id xs (rw (above_is pos end past) at e) in omega (arith, later))
      (cases_lt pos end)
