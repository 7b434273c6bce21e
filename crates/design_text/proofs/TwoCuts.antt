-- Two cuts made one after the other, the later one first.
use Rattle.std.proofs.Common.{◌≡◌, ◌+◌, ◌-◌, ℕ, List, [], ◌∷◌, ◌++◌, length, take, drop, refl, sym, ap, ap₂, ◌∙◌, arith, slice_range}
use Rattle.std.proofs.Math.Seq.{take-add}
use Rattle.std.proofs.lemmas.List.{drop-append-le, drop-take, length-append, length-take-le, take-append-le}
use Rattle.statement_model.specs.Cuts.{Cut, with_cuts}
use Rattle.splicing_laws.specs.KeepingLaws.{AreInOrder}

module _ (t : List ℕ) (f l : Cut) (order : AreInOrder 0 (f ∷ l ∷ []) (length t)) where
  abbrev rest : List ℕ
  rest = l.put ++ drop l.hi t

  abbrev once : List ℕ
  once = with_cuts (l ∷ []) t

  none_less : (n : ℕ) → n - 0 ≡ n
  none_less n = omega arith

  once_is : once ≡ take l.lo t ++ rest
  once_is = ap (λ n. take n t ++ rest) (none_less l.lo)

  front_long : length (take l.lo t) ≡ l.lo
  front_long = length-take-le l.lo t (omega (arith, order.2.1, order.2.2))

  front : take f.lo (take l.lo t ++ rest) ≡ take f.lo t
  front =
      let within : l.lo ≡ f.lo + (l.lo - f.lo) = omega (arith, order.1, order.2.0) in
      let long : length (take f.lo t) ≡ f.lo = length-take-le f.lo t (omega (arith, order.1, order.2.0, order.2.1, order.2.2)) in
      take-append-le f.lo (take l.lo t) rest (omega (arith, front_long, order.1, order.2.0))
      ∙ ap (λ n. take f.lo (take n t)) within
      ∙ ap (take f.lo) (take-add f.lo (l.lo - f.lo) t)
      ∙ take-append-le f.lo (take f.lo t) (take (l.lo - f.lo) (drop f.lo t)) (omega (arith, long))
      ∙ ap (λ n. take n (take f.lo t)) (sym long)
      ∙ all_taken (take f.lo t)
    where
      all_taken : (xs : List ℕ) → take (length xs) xs ≡ xs
      all_taken [] = refl
      all_taken (x ∷ xs) = ap (λ ys. x ∷ ys) (all_taken xs)

  behind : drop f.hi (take l.lo t ++ rest) ≡ slice_range t f.hi l.lo ++ rest
  behind =
      let within : l.lo ≡ f.hi + (l.lo - f.hi) = omega (arith, order.2.0) in
      drop-append-le f.hi (take l.lo t) rest (omega (arith, front_long, order.2.0))
      ∙ ap (λ xs. xs ++ rest) (ap (λ n. drop f.hi (take n t)) within ∙ drop-take f.hi (l.lo - f.hi) t)

  -- the text with the later cut made, and then the first, has both made
  pub both_made : with_cuts (f ∷ []) (with_cuts (l ∷ []) t) ≡ with_cuts (f ∷ l ∷ []) t
  both_made =
      ap (λ xs. with_cuts (f ∷ []) xs) once_is
      ∙ ap (λ n. take n (take l.lo t ++ rest) ++ (f.put ++ drop f.hi (take l.lo t ++ rest))) (none_less f.lo)
      ∙ ap₂ (λ (a b : List ℕ). a ++ (f.put ++ b)) front behind
      ∙ ap (λ n. take n t ++ (f.put ++ (slice_range t f.hi l.lo ++ rest))) (sym (none_less f.lo))

  pub last_in_order : AreInOrder 0 (l ∷ []) (length t)
  last_in_order = (omega arith, order.2.1, order.2.2)

  -- the first stands in the text with the later one made
  pub first_in_order : AreInOrder 0 (f ∷ []) (length once)
  first_in_order =
      let long = ap length once_is ∙ length-append (take l.lo t) rest in
      (omega arith, order.1, omega (arith, long, front_long, order.2.0))
