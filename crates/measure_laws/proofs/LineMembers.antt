-- The members of lines, and neighbours by their places.
use Rattle.std.proofs.Common.{◌≡◌, ℕ, zero, suc, Bool, true, false, not, ◌||◌, List, [], ◌∷◌, Some, ℤ, refl, sym, ◌∙◌, subst, arith}
use Rattle.std.specs.Prelude.{int_lt}
use Rattle.std.specs.List.{Contains, list_any, slice_get}
use Rattle.std.proofs.Common.{add-one}
use Rattle.std.proofs.lemmas.Int.{ints}
use Rattle.std.proofs.lemmas.List.Folds.{Any-from_list_any, list_any-from_Any}
use Rattle.form_meanings.specs.Words.{◌>>=◌}
use Rattle.measure_rules.specs.GridCells.{between}
use Rattle.measure_laws.specs.LineLaws.{HasSameLines, SameByMembers, NeighboursAreNext}

-- a line is the one
abbrev is_line : ℤ → ℤ → Bool
is_line z l = not (int_lt z l || int_lt l z)

own_line : (z : ℤ) → is_line z z ≡ true
own_line z = grind (arith, ints)

one_line : (z l : ℤ) → is_line z l ≡ true → l ≡ z
one_line z l h = grind (arith, ints)

-- a member passes its own test
member_passes : (ls : List ℤ) (z : ℤ) → Contains ls z → list_any (is_line z) ls ≡ true
member_passes ls z c = list_any-from_Any (is_line z) ls (c.0, z, c.1, c.2, own_line z)

passing_member : (ls : List ℤ) (z : ℤ) → list_any (is_line z) ls ≡ true → Contains ls z
passing_member ls z h =
    let a = Any-from_list_any (is_line z) ls h in
    let P : ℤ → Type 0 = λ x. Contains ls x in
    subst P (one_line z a.1 a.4) (a.0, a.2, a.3)

to_members : (ls ms : List ℤ) → HasSameLines ls ms → (z : ℤ) → Contains ls z → Contains ms z
to_members ls ms same z c = passing_member ms z (sym (same.any (is_line z)) ∙ member_passes ls z c)

any_there : (ls ms : List ℤ) → ((z : ℤ) → Contains ls z → Contains ms z) → (test : ℤ → Bool) → list_any test ls ≡ true → list_any test ms ≡ true
any_there ls ms to test h =
    let a = Any-from_list_any test ls h in
    let c = to a.1 (a.0, a.2, a.3) in
    list_any-from_Any test ms (c.0, a.1, c.1, c.2, a.4)

same_answers : (b c : Bool) → (b ≡ true → c ≡ true) → (c ≡ true → b ≡ true) → b ≡ c
same_answers true c to from = sym (to refl)
same_answers false true to from = from refl
same_answers false false to from = refl

pub same_by_members : SameByMembers
same_by_members ls ms = (
  λ same z. (to_members ls ms same z, to_members ms ls (record { any = λ test. sym (same.any test) }) z),
  λ members. record { any = λ test. same_answers (list_any test ls) (list_any test ms) (any_there ls ms (λ z. (members z).0) test) (any_there ms ls (λ z. (members z).1) test) },
)

next_by : (ls : List ℤ) (n : ℕ) → between ls n ≡ (slice_get ls n >>= λ l. (slice_get ls (suc n) >>= λ m. Some (l, m)))
unfolding between
next_by [] n = refl
next_by (l ∷ []) zero = refl
next_by (l ∷ []) (suc n) = refl
next_by (l ∷ m ∷ ls) zero = refl
next_by (l ∷ m ∷ ls) (suc n) = next_by (m ∷ ls) n

pub neighbours_are_next : NeighboursAreNext
neighbours_are_next ls n = rw add-one (next_by ls n)
