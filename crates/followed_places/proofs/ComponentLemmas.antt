-- Things without their order, of which those of a list are taken out one after the other.
use Rattle.std.proofs.Common.{◌≡◌, ◌<◌, ◌+◌, ◌∙◌, ℕ, List, ◌∷◌, ◌++◌, ap, arith, drop, get_or, length, map, subst, sym}
use Rattle.std.proofs.lemmas.List.{drop_more}
use Rattle.std.proofs.lemmas.List.Sums.{sum_by-append, sum_by-cons}
use Rattle.line_laws.specs.Lines.{SameThings}

-- one more is taken out
one_taken : {A : Type 0} (x : A) (rest old all now new : List A) → SameThings ((x ∷ rest) ++ old) (all ++ now) → SameThings now (x ∷ new) → SameThings (rest ++ old) (all ++ new)
one_taken x rest old all now new h k = record {
  sums = λ w.
      let a = h.sums w in
      let b = k.sums w in
      omega (arith, a, b, sum_by-append w (x ∷ rest) old, sum_by-append w rest old, sum_by-append w all now, sum_by-append w all new, sum_by-cons w x rest, sum_by-cons w x new);
}

-- the one that a loop is at is taken out
pub taken_at : {A B : Type 0} (f : A → B) (xs : List A) (i : ℕ) (x : A) (old all now new : List B) → i < length xs → x ≡ get_or xs i x
    → SameThings (map f (drop i xs) ++ old) (all ++ now) → SameThings now (f x ∷ new) → SameThings (map f (drop (i + 1) xs) ++ old) (all ++ new)
taken_at f xs i x old all now new below is h k =
    let left = drop_more xs i x below ∙ ap (λ y. y ∷ drop (i + 1) xs) (sym is) in
    one_taken (f x) (map f (drop (i + 1) xs)) old all now new (subst (λ l. SameThings (map f l ++ old) (all ++ now)) left h) k
