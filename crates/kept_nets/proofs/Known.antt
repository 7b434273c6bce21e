-- What is known of the parts of a net, of which one goes or comes.
use Rattle.std.proofs.Common.{◌≡◌, ◌∙◌, List, [], ◌∷◌, ◌++◌, Option, Some, None, sym, ap, arith, map, subst, sum_by}
use Rattle.std.specs.Prelude.{IfSome}
use Rattle.std.proofs.lemmas.List.{map-append}
use Rattle.std.proofs.lemmas.List.Sums.{sum_by-append, sum_by-cons}
use Rattle.line_laws.specs.Lines.{SameThings}

-- what holds of a thing that may be there, where it is
pub at_some : {X : Type 0} (P : X → Type 0) (o : Option X) (x : X) → o ≡ Some x → IfSome o P → P x
at_some P o x is h = subst (λ o. IfSome o P) is h

-- and where it isn't there
pub at_none : {X : Type 0} (P : X → Type 0) (o : Option X) → o ≡ None → IfSome o P
at_none P o is = subst (λ o. IfSome o P) (sym is) tt

-- one is put behind others
pub pushed_behind : {A B : Type 0} (f : A → B) (xs new : List A) (x : A) → new ≡ xs ++ x ∷ [] → SameThings (map f new) (f x ∷ map f xs)
pushed_behind f xs new x is = record {
  sums = λ w. ap (λ l. sum_by w (map f l)) is ∙ ap (sum_by w) (map-append f xs (x ∷ [])) ∙ omega (arith, sum_by-append w (map f xs) (f x ∷ []), sum_by-cons w (f x) [], sum_by-cons w (f x) (map f xs));
}

-- the last of those that are left is put in
pub popped : {A B : Type 0} (f : A → B) (xs rest : List A) (x : A) (now new total : List B) → xs ≡ rest ++ x ∷ [] → SameThings (map f xs ++ now) total → SameThings new (f x ∷ now) → SameThings (map f rest ++ new) total
popped f xs rest x now new total is h k = record {
  sums = λ w.
      let a = h.sums w in
      let b = k.sums w in
      let c = (pushed_behind f rest xs x is).sums w in
      omega (arith, a, b, c, sum_by-append w (map f xs) now, sum_by-append w (map f rest) new, sum_by-cons w (f x) now, sum_by-cons w (f x) (map f rest));
}

-- the other way round
pub turned : {A : Type 0} (xs ys : List A) → SameThings xs ys → SameThings ys xs
turned xs ys h = record { sums = λ w. sym (h.sums w) }
