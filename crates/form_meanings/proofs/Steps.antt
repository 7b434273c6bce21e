-- Steps of reading: cases of tests, and what a reading came from.
use Rattle.std.proofs.Common.{◌≡◌, Bool, true, false, Option, Some, None, refl, sym, ap, ◌∙◌, if◌then◌else◌}
use Rattle.std.specs.Option.{option_or}
use Rattle.form_meanings.specs.Words.{◌>>=◌}

pub some_same : {A : Type 0} (x y : A) → Some x ≡ Some y → x ≡ y
some_same x y e = cc

-- what a reading with another behind it came from
pub both_read : {A B : Type 0} (o : Option A) (f : A → Option B) (b : B) → (o >>= f) ≡ Some b → (a : A) × (o ≡ Some a) × (f a ≡ Some b)
both_read (Some a) f b e = (a, refl, e)
both_read None f b e = absurd (cc)

-- a reading goes on with what was read
pub then_reads : {A B : Type 0} (o : Option A) (f : A → Option B) (a : A) → o ≡ Some a → (o >>= f) ≡ f a
then_reads {A = A} o f a e = ap (λ (x : Option A). x >>= f) e

-- a choice by a test
pub if_cases : {A : Type 0} (b : Bool) (x y : Option A) (p : A) (P : Type 0) → (b ≡ true → x ≡ Some p → P) → (b ≡ false → y ≡ Some p → P) → (if b then x else y) ≡ Some p → P
if_cases true x y p P is others e = is refl e
if_cases false x y p P is others e = others refl e

pub or_none : {A : Type 0} (x : Option A) → option_or x None ≡ x
or_none None = refl
or_none (Some x) = refl

pub or_assoc : {A : Type 0} (x y z : Option A) → option_or (option_or x y) z ≡ option_or x (option_or y z)
or_assoc None y z = refl
or_assoc (Some x) y z = refl
