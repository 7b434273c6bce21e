-- A list in two parts, as what a function gives of its elements is: the words of tokens, or the tokens at other places.
use Rattle.std.proofs.Common.{◌≡◌, List, [], ◌∷◌, ◌++◌, map, refl, ap, ap₂}

pub record Parts {A B : Type 0} (f : A → B) (xs : List A) (a b : List B) : Type 0 where
  pub front : List A
  pub rest : List A
  pub is : xs ≡ front ++ rest
  pub front_is : map f front ≡ a
  pub rest_is : map f rest ≡ b

pub parts_of : {A B : Type 0} (f : A → B) (xs : List A) (a b : List B) → map f xs ≡ a ++ b → Parts f xs a b
parts_of f xs [] b e = record { front = []; rest = xs; is = refl; front_is = refl; rest_is = e }
parts_of f [] (y ∷ a) b e = absurd (cc)
parts_of {A = A} {B = B} f (x ∷ xs) (y ∷ a) b e =
    let first : f x ≡ y = cc in
    let later : map f xs ≡ a ++ b = cc in
    let p = parts_of f xs a b later in
    record {
      front = x ∷ p.front;
      rest = p.rest;
      is = ap (λ (l : List A). x ∷ l) p.is;
      front_is = ap₂ (λ (z : B) (l : List B). z ∷ l) first p.front_is;
      rest_is = p.rest_is;
    }
