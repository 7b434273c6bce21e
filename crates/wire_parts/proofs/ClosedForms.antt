-- Reading a form that ends where a stop is next, as the first of what stands second.
use Rattle.std.proofs.Common.{◌≡◌, ◌⊎◌, inl, inr, true, false, Option, Some, None, if◌then◌else◌, refl, sym, ap, subst}
use Rattle.form_meanings.specs.Words.{◌>>=◌, Rest, is_stop, next_passes}
use Rattle.statement_model.specs.Form.{Form, closed, left, read, right}

abbrev among : {A B C : Type 0} → Option (A × Rest) → Option ((C ⊎ (A ⊎ B)) × Rest)
among {A = A} {B = B} {C = C} o = ◌>>=◌ {A = (A ⊎ B) × Rest} {B = (C ⊎ (A ⊎ B)) × Rest} (◌>>=◌ {A = A × Rest} {B = (A ⊎ B) × Rest} o (λ a. Some (inl a.0, a.1))) (λ b. Some (inr b.0, b.1))

abbrev ended : {A : Type 0} → Option (A × Rest) → Option (A × Rest)
ended {A = A} o = ◌>>=◌ {A = A × Rest} {B = A × Rest} o (λ a. (if next_passes is_stop a.1 then Some a else None))

-- what is left after a reading
abbrev rest_or : {V : Type 0} → Rest → Option (V × Rest) → Rest
rest_or r None = r
rest_or r (Some x) = x.1

ended_some : {A B C : Type 0} (o : Option (A × Rest)) (x : (C ⊎ (A ⊎ B)) × Rest) → among {B = B} {C = C} o ≡ Some x → next_passes is_stop x.1 ≡ true → among {B = B} {C = C} (ended o) ≡ Some x
ended_some None x e h = absurd (cc)
ended_some (Some a) x e h =
    let stop : next_passes is_stop a.1 ≡ true = subst (λ z. next_passes is_stop z ≡ true) (sym (ap (λ o. rest_or a.1 o) e)) h in
    rw (stop) e

ended_none : {A B C : Type 0} (o : Option (A × Rest)) (x : (C ⊎ (A ⊎ B)) × Rest) → among {B = B} {C = C} o ≡ Some x → next_passes is_stop x.1 ≡ false → among {B = B} {C = C} (ended o) ≡ None
ended_none None x e h = absurd (cc)
ended_none (Some a) x e h =
    let goes_on : next_passes is_stop a.1 ≡ false = subst (λ z. next_passes is_stop z ≡ false) (sym (ap (λ o. rest_or a.1 o) e)) h in
    rw (goes_on) refl

none_ended : {A B C : Type 0} (o : Option (A × Rest)) → among {B = B} {C = C} o ≡ None → among {B = B} {C = C} (ended o) ≡ None
none_ended None e = refl
none_ended (Some a) e = absurd (cc)

-- where a stop is next, where none is, and where the form isn't read
pub closed_some : {A B C : Type 0} (f : Form A) (r : Rest) (x : (C ⊎ (A ⊎ B)) × Rest) → read (right {A = C} (left {B = B} f)) r ≡ Some x → next_passes is_stop x.1 ≡ true → read (right {A = C} (left {B = B} (closed is_stop f))) r ≡ Some x
closed_some {B = B} {C = C} f r x e h = ended_some {B = B} {C = C} (read f r) x e h

pub closed_none : {A B C : Type 0} (f : Form A) (r : Rest) (x : (C ⊎ (A ⊎ B)) × Rest) → read (right {A = C} (left {B = B} f)) r ≡ Some x → next_passes is_stop x.1 ≡ false → read (right {A = C} (left {B = B} (closed is_stop f))) r ≡ None
closed_none {B = B} {C = C} f r x e h = ended_none {B = B} {C = C} (read f r) x e h

pub none_closed : {A B C : Type 0} (f : Form A) (r : Rest) → read (right {A = C} (left {B = B} f)) r ≡ None → read (right {A = C} (left {B = B} (closed is_stop f))) r ≡ None
none_closed {B = B} {C = C} f r e = none_ended {B = B} {C = C} (read f r) e
