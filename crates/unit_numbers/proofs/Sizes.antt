-- Digits before and behind a point.
use Rattle.std.proofs.Common.{◌≡◌, ℕ, ◌+◌, ◌*◌, ◌^◌, ◌<◌, ◌≤◌, true, false, min, List, [], ◌∷◌, ◌++◌, length, Err, Ok, arith, length-append, refl, ap}
use Rattle.std.specs.Prelude.{fold, nat_lt, nat_le, Bool, Some, None, if◌then◌else◌}
use Rattle.std.specs.List.{list_all}
use Rattle.std.specs.Char.{is_ascii_digit}
use Rattle.std.proofs.lemmas.Bool.{lt-ltb, le-leb, lt-leb}
use Rattle.std.proofs.lemmas.List.Sums.{fold-append}
use Rattle.std.proofs.lemmas.List.Folds.{list_all-append}
use Rattle.design_model.specs.declared.number.NumFault.TheVariants.{Range}
use Rattle.design_model.specs.Units.{one_more, decimal_value}
use Rattle.unit_numbers.specs.Distances.{sized}

-- a cap on the way changes nothing
capped_step : (x y d c : ℕ) → min x c ≡ min y c → min (one_more x d) c ≡ min (one_more y d) c
capped_step x y d c same = omega arith

capped : (xs : List ℕ) (x y c : ℕ) → min x c ≡ min y c → min (fold one_more x xs) c ≡ min (fold one_more y xs) c
capped [] x y c same = same
capped (d ∷ xs) x y c same = capped xs (one_more x d) (one_more y d) c (capped_step x y d c same)

-- digits spelled in two parts
pub spelled_twice : (a b : List ℕ) (front size c : ℕ) → front ≡ min (fold one_more 0 a) c → size ≡ min (fold one_more front b) c → size ≡ min (decimal_value (a ++ b)) c
spelled_twice a b front size c first second =
    let h : min front c ≡ min (fold one_more 0 a) c = omega arith in
    let e = capped b front (fold one_more 0 a) c h in
    rw (fold-append one_more 0 a b) cc

pub all_digits : (a b : List ℕ) → list_all is_ascii_digit a ≡ true → list_all is_ascii_digit b ≡ true → list_all is_ascii_digit (a ++ b) ≡ true
all_digits a b first second = rw (list_all-append is_ascii_digit a b, first, second) refl

pub too_large : (a b : List ℕ) (size p : ℕ) → size ≡ min (decimal_value (a ++ b)) 1000000000000000001 → list_all is_ascii_digit (a ++ b) ≡ true → 0 < length a + length b → length b ≤ 12 → p ≡ 10 ^ length b → p ≤ 1000000000000 → 1000000 * p < size
    → Err Range ≡ sized a b
too_large a b size p is digits some few power bound large =
    let any : nat_lt 0 (length (a ++ b)) ≡ true = lt-ltb _ _ (omega (arith, length-append a b)) in
    let within : nat_le (length b) 12 ≡ true = le-leb _ _ few in
    let over : nat_le (decimal_value (a ++ b)) (1000000 * 10 ^ length b) ≡ false = lt-leb _ _ (omega arith) in
    rw (any, digits, within, over) refl

pub small : (a b : List ℕ) (size p : ℕ) → size ≡ min (decimal_value (a ++ b)) 1000000000000000001 → list_all is_ascii_digit (a ++ b) ≡ true → 0 < length a + length b → length b ≤ 12 → p ≡ 10 ^ length b → p ≤ 1000000000000 → size ≤ 1000000 * p
    → Ok (size, length b) ≡ sized a b
small a b size p is digits some few power bound low =
    let any : nat_lt 0 (length (a ++ b)) ≡ true = lt-ltb _ _ (omega (arith, length-append a b)) in
    let within : nat_le (length b) 12 ≡ true = le-leb _ _ few in
    let exact : size ≡ decimal_value (a ++ b) = omega arith in
    let under : nat_le (decimal_value (a ++ b)) (1000000 * 10 ^ length b) ≡ true = le-leb _ _ (omega arith) in
    rw (any, digits, within, under) (ap (λ (n : ℕ). Ok (n, length b)) exact)

-- what a test that passed says
pub passed : (b : Bool) (n m : ℕ) → Some n ≡ (if b then Some m else None) → (b ≡ true) × (n ≡ m)
passed true n m is = (refl, cc)
passed false n m is = absurd cc
