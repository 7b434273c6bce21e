-- Lists that are kept with names of their own stand in the order of those that they were copied from.
use Rattle.std.proofs.Common.{◌<◌, ◌+◌, List, [], ◌∷◌, length, map, ap₂, sym, ◌∙◌, arith, IsSortedByKey}
use Rattle.std.specs.declared.cmp.Ordering.{Ordering}
use Rattle.std.specs.Ordering.{is_lt}
use Rattle.std.proofs.lemmas.List.{get_or-map, length-map}

-- by what is seen of each, a list is in the order that it is in itself
module _ {X Y K : Type 0} (see : X → Y) (key : Y → K) (cmp : K → K → Ordering) where
  pub seen_in_order : (xs : List X) → IsSortedByKey (λ x. key (see x)) cmp xs → IsSortedByKey key cmp (map see xs)
  seen_in_order [] up = λ k d low high. absurd (omega arith)
  seen_in_order (x ∷ xs) up = λ k d low high.
      let inside : k + 1 < length (x ∷ xs) = omega (arith, length-map (x ∷ xs) see) in
      ap₂ (λ a b. is_lt (cmp (key a) (key b))) (get_or-map see (x ∷ xs) (k + 1) x d inside) (get_or-map see (x ∷ xs) k x d (omega arith)) ∙ up k x low inside

  pub in_order_as_seen : (xs : List X) → IsSortedByKey key cmp (map see xs) → IsSortedByKey (λ x. key (see x)) cmp xs
  in_order_as_seen xs up = λ k d low high.
      ap₂ (λ a b. is_lt (cmp (key a) (key b))) (sym (get_or-map see xs (k + 1) d (see d) high)) (sym (get_or-map see xs k d (see d) (omega arith)))
      ∙ up k (see d) low (omega (arith, length-map xs see))
