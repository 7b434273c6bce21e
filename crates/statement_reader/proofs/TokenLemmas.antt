-- Where a token of a run begins.
use Rattle.std.proofs.Common.{◌≡◌, ℕ, zero, suc, ◌-◌, List, [], ◌∷◌, length, drop, map, refl, sym, ap, ◌∙◌, Some, None}
use Rattle.std.specs.List.{slice_get}
use Rattle.std.proofs.lemmas.List.{length-map}
use Rattle.statement_model.specs.Tokens.{Token}
use Rattle.statement_model.specs.Reading.{pos_of, pos_with_left}

pos_found : (ps : List Token) (n : ℕ) (p : Token) → slice_get ps n ≡ Some p → pos_of (drop n ps) ≡ p.pos
pos_found [] n p h = cc
pos_found (q ∷ ps) zero p h = let same : q ≡ p = cc in ap (λ (r : Token). r.pos) same
pos_found (q ∷ ps) (suc n) p h = pos_found ps n p h

pos_past : (ps : List Token) (n : ℕ) → slice_get ps n ≡ None → pos_of (drop n ps) ≡ 0
pos_past [] n h = drop_none n where
  drop_none : (n : ℕ) → pos_of (drop n []) ≡ 0
  drop_none zero = refl
  drop_none (suc n) = refl
pos_past (q ∷ ps) zero h = cc
pos_past (q ∷ ps) (suc n) h = pos_past ps n h

-- with the number of tokens counted by their words
pub left_found : (ps : List Token) (left n : ℕ) (p : Token) → n ≡ length (map (λ (q : Token). q.bytes) ps) → slice_get ps (n - left) ≡ Some p → p.pos ≡ pos_with_left left ps
left_found ps left n p count h =
    let k : n ≡ length ps = count ∙ length-map ps (λ (q : Token). q.bytes) in
    sym (pos_found ps (length ps - left) p (rw (← k) h))

pub left_past : (ps : List Token) (left n : ℕ) → n ≡ length (map (λ (q : Token). q.bytes) ps) → slice_get ps (n - left) ≡ None → 0 ≡ pos_with_left left ps
left_past ps left n count h =
    let k : n ≡ length ps = count ∙ length-map ps (λ (q : Token). q.bytes) in
    sym (pos_past ps (length ps - left) (rw (← k) h))
