-- How long a text is with splices made.
use Rattle.std.proofs.Common.{◌≡◌, ◌≤◌, ◌<◌, ◌+◌, ◌-◌, ◌++◌, ℕ, true, List, ◌∷◌, arith, length, drop, get_or, map, subst, sym, ap, ◌∙◌, inl, inr, length-append, length-drop, nat_lt}
use Rattle.std.specs.List.{slice_range}
use Rattle.std.proofs.lemmas.Bool.{cases_Bool, lt-ltb, le-ltb, ltb-true, ltb-false}
use Rattle.std.proofs.lemmas.List.{drop_more, length-take-le}
use Rattle.statement_model.specs.Cuts.{cut_from}
use Rattle.edit_model.specs.declared.edit.Splice.{Splice}
use Rattle.def_splice.specs.SpliceViews.{AreInOrder, cut_view}
use Rattle.def_splice.proofs.SpliceLemmas.{in_order-step}

slice_length : (text : List ℕ) (at lo : ℕ) → at ≤ lo → lo ≤ length text → length (slice_range text at lo) ≡ lo - at
slice_length text at lo low high =
    let left = length-drop at text in
    length-take-le (lo - at) (drop at text) (omega (arith, left))

kept_and_put : (text put later : List ℕ) (at lo : ℕ) → at ≤ lo → lo ≤ length text → length (slice_range text at lo ++ (put ++ later)) ≡ (lo - at) + (length put + length later)
kept_and_put text put later at lo low high =
    let a = length-append (slice_range text at lo) (put ++ later) in
    let b = length-append put later in
    let c = slice_length text at lo low high in
    omega (arith, a, b, c)

module _ {A : Type 0} (ss : List (Splice A)) (k : ℕ) (s : Splice A) (at : ℕ) (text : List ℕ) (some : k < length ss) (is : s ≡ get_or ss k s) (order : AreInOrder at (drop k ss) (length text)) where
  abbrev pub later : List ℕ
  later = cut_from s.hi (map cut_view (drop (k + 1) ss)) text

  pub left_length : length (cut_from at (map cut_view (drop k ss)) text) ≡ (s.lo - at) + (length s.put + length later)
  left_length =
      let step = in_order-step ss k s at (length text) some is order in
      let here : drop k ss ≡ s ∷ drop (k + 1) ss = drop_more ss k s some ∙ ap (λ (x : Splice A). x ∷ drop (k + 1) ss) (sym is) in
      ap (λ (xs : List (Splice A)). length (cut_from at (map cut_view xs) text)) here ∙ kept_and_put text s.put later at s.lo step.0 (omega (arith, step.1, step.2))

pub order_later : {A : Type 0} (ss : List (Splice A)) (k : ℕ) (s : Splice A) (at n : ℕ) → k < length ss → s ≡ get_or ss k s → AreInOrder at (drop k ss) n → AreInOrder s.hi (drop (k + 1) ss) n
order_later {A} ss k s at n some is order =
    let P : List (Splice A) → Type 0 = λ xs. AreInOrder at xs n in
    let e = subst P (drop_more ss k s some) order in
    let Q : Splice A → Type 0 = λ x. AreInOrder x.hi (drop (k + 1) ss) n in
    subst Q (sym is) e.2

-- room that so many bytes don't fit in
pub overfull : (room a b n : ℕ) → room < a + b → nat_lt room (a + (b + n)) ≡ true
overfull room a b n over = lt-ltb room (a + (b + n)) (omega arith)

-- and what is left of it behind those that fit
pub room_left : (room a b n : ℕ) → a + b ≤ room → nat_lt room (a + (b + n)) ≡ nat_lt ((room - a) - b) n
room_left room a b n fits = elim (cases_Bool (nat_lt ((room - a) - b) n)) [
  | inl less ↦ let k = ltb-true ((room - a) - b) n less in lt-ltb room (a + (b + n)) (omega arith) ∙ sym less
  | inr more ↦ let k = ltb-false ((room - a) - b) n more in le-ltb room (a + (b + n)) (omega arith) ∙ sym more
]
