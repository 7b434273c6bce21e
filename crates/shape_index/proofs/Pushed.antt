-- What a search pushes, call by call.
use Rattle.std.proofs.Common.{◌≡◌, List, [], ◌∷◌, ◌++◌, Result, Ok, Err, ap, ◌∙◌}
use Rattle.std.specs.Prelude.{IfOk, sum_by}
use Rattle.line_laws.specs.Lines.{SameThings}
use Rattle.shape_index.specs.Pushing.{Pushes}

abbrev pub Holds : {V E X : Type 0} → (V → List X) → List X → Result V E → Type 0
Holds items xs (Ok v) = items v ≡ xs
Holds items xs (Err e) = Unit {0}

pub pushed : {V E X : Type 0} (items : V → List X) (q r : Result V E) (x : X) (xs : List X) → Holds items xs q → IfOk r (λ v. Pushes items q x (items v)) → Holds items (xs ++ x ∷ []) r
pushed items (Ok v) (Ok w) x xs h k = k ∙ ap (λ l. l ++ x ∷ []) h
pushed items (Ok v) (Err e) x xs h k = tt
pushed items (Err d) (Ok w) x xs h k = absurd k
pushed items (Err d) (Err e) x xs h k = tt

pub found : {V E X : Type 0} (items : V → List X) (r : Result V E) (met zs : List X) → Holds items met r → SameThings met zs → IfOk r (λ v. SameThings (items v) zs)
found items (Ok v) met zs h s = record { sums = λ w. ap (λ (l : List _). sum_by w l) h ∙ s.sums w }
found items (Err e) met zs h s = tt
