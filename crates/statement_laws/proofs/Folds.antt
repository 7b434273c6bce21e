-- The law of going over a list.
use Rattle.std.proofs.Common.{◌≡◌, List, [], ◌∷◌, ◌++◌, Result, Ok, Err, refl, sym, ap, ◌∙◌}
use Rattle.statement_model.specs.Folds.{◌>>◌, all_from, FoldsJoin}

pub same_bind : {A B F : Type 0} (r : Result A F) (f g : A → Result B F) → ((x : A) → f x ≡ g x) → (r >> f) ≡ (r >> g)
same_bind (Ok x) f g h = h x
same_bind (Err e) f g h = refl

pub bind_bind : {A B C F : Type 0} (r : Result A F) (f : A → Result B F) (g : B → Result C F) → ((r >> f) >> g) ≡ (r >> λ x. (f x >> g))
bind_bind (Ok x) f g = refl
bind_bind (Err e) f g = refl

pub bind_ok : {A F : Type 0} (r : Result A F) → (r >> λ x. Ok x) ≡ r
bind_ok (Ok x) = refl
bind_ok (Err e) = refl

module _ {M T R F : Type 0} (step : M → T → Result (R × M) F) where
  pub folds_join : FoldsJoin step
  unfolding all_from
  folds_join m [] ys = sym (bind_ok (all_from step m ys))
  folds_join m (t ∷ xs) ys =
      same_bind (step m t) _ _ (λ x.
      ap (λ (r : Result (List R × M) F). r >> λ y. Ok (x.0 ∷ y.0, y.1)) (folds_join x.1 xs ys)
      ∙ bind_bind (all_from step x.1 xs) (λ y. (all_from step y.1 ys >> λ z. Ok (y.0 ++ z.0, z.1))) (λ y. Ok (x.0 ∷ y.0, y.1))
      ∙ same_bind (all_from step x.1 xs) _ _ (λ y. bind_bind (all_from step y.1 ys) (λ z. Ok (y.0 ++ z.0, z.1)) (λ z. Ok (x.0 ∷ z.0, z.1)))
      ∙ sym (bind_bind (all_from step x.1 xs) (λ y. Ok (x.0 ∷ y.0, y.1)) (λ y. (all_from step y.1 ys >> λ z. Ok (y.0 ++ z.0, z.1)))))
      ∙ sym (bind_bind (step m t) (λ x. (all_from step x.1 xs >> λ y. Ok (x.0 ∷ y.0, y.1))) (λ y. (all_from step y.1 ys >> λ z. Ok (y.0 ++ z.0, z.1))))
