-- Splices in order.
use Rattle.std.proofs.Common.{◌≡◌, ◌≤◌, ◌<◌, ◌+◌, ℕ, List, [], ◌∷◌, arith, length, drop, get_or, subst, sym}
use Rattle.std.proofs.lemmas.List.{drop_more}
use Rattle.def_splice.specs.SpliceViews.{AreInOrder}
use Rattle.edit_model.specs.declared.edit.Splice.{Splice}

-- splices in order from a place leave room for that place
pub in_order-start : {A : Type 0} (at : ℕ) (ss : List (Splice A)) (n : ℕ) → AreInOrder at ss n → at ≤ n
in_order-start at [] n h = h
in_order-start at (s ∷ ss) n h = let e = in_order-start s.hi ss n h.2 in omega (arith, h.0, h.1)

-- the splice at an index is in order with those behind it
pub in_order-step : {A : Type 0} (ss : List (Splice A)) (k : ℕ) (s : Splice A) (at n : ℕ) → k < length ss → s ≡ get_or ss k s → AreInOrder at (drop k ss) n → (at ≤ s.lo) × (s.lo ≤ s.hi) × (s.hi ≤ n)
in_order-step {A} ss k s at n k< is h =
    let P : List (Splice A) → Type 0 = λ xs. AreInOrder at xs n in
    let e = subst P (drop_more ss k s k<) h in
    let Q : Splice A → Type 0 = λ x. (at ≤ x.lo) × (x.lo ≤ x.hi) × (x.hi ≤ n) in
    subst Q (sym is) (e.0, e.1, in_order-start _ (drop (k + 1) ss) n e.2)
