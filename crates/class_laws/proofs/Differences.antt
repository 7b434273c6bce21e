-- How many different numbers there are, of which some pass a test.
use Rattle.std.proofs.Common.{◌≡◌, ◌<◌, ◌+◌, ℕ, suc, Bool, true, false, not, cond, ◌||◌, List, [], ◌∷◌, ◌++◌, map, filter, refl, sym, ap, ap₂, ◌∙◌, arith}
use Rattle.std.specs.Prelude.{◌==◌}
use Rattle.shape_rules.specs.Classes.{distinct}
use Rattle.part_classes.proofs.CountLaws.{distinct_push, in_push, is_in, or_false, or_true, with_one}
use Rattle.part_classes.proofs.LabelLaws.{split}

pub itself : (n : ℕ) → (n == n) ≡ true
itself n = grind arith

not_nothing : (n : ℕ) → (0 == suc n) ≡ false
not_nothing n = split (0 == suc n) (λ t. let e : 0 ≡ suc n = grind (arith, t) in absurd (omega (arith, e))) (λ t. t)

both_more : (m n : ℕ) → (suc m == suc n) ≡ (m == n)
both_more m n =
    split (m == n)
    (λ t. let e : suc m ≡ suc n = grind (arith, t) in let u : (suc m == suc n) ≡ true = grind (arith, e) in u ∙ sym t)
    (λ t. split (suc m == suc n) (λ u. let e : suc m ≡ suc n = grind (arith, u) in absurd (grind (arith, t, e))) (λ u. u ∙ sym t))

one_plus : (b : Bool) (m n : ℕ) → with_one b m + n ≡ with_one b (m + n)
one_plus true m n = refl
one_plus false m n = omega arith

plus_one : (b : Bool) (m n : ℕ) → m + with_one b n ≡ with_one b (m + n)
plus_one true m n = refl
plus_one false m n = omega arith

one_behind : (b : Bool) (n : ℕ) → with_one b (suc n) ≡ suc (with_one b n)
one_behind true n = refl
one_behind false n = refl

-- a number that passes is among those that pass where it is in the list,
pub in_filter : (test : ℕ → Bool) (k : ℕ) → test k ≡ true → (xs : List ℕ) → is_in k (filter test xs) ≡ is_in k xs
in_filter test k h [] = refl
in_filter test k h (x ∷ xs) =
    split (test x)
    (λ t. rw t (ap (λ b. (x == k) || b) (in_filter test k h xs)))
    (λ t. let other : (x == k) ≡ false = split (x == k) (λ u. let e : x ≡ k = grind (arith, u) in absurd (let f : test x ≡ true = ap test e ∙ h in cc)) (λ u. u) in
    rw t (in_filter test k h xs ∙ sym (ap (λ b. b || is_in k xs) other)))

-- and what is among them passes
pub passes : (test : ℕ → Bool) (k : ℕ) (xs : List ℕ) → is_in k (filter test xs) ≡ true → (test k ≡ true) × (is_in k xs ≡ true)
passes test k [] h = absurd (cc)
passes test k (x ∷ xs) h =
    split (test x)
    (λ t. let g = rw t at h in
    split (x == k)
    (λ u. let e : x ≡ k = grind (arith, u) in (sym (ap test e) ∙ t, ap (λ b. b || is_in k xs) u))
    (λ u. let r = passes test k xs (rw u at g) in (r.0, ap (λ b. (x == k) || b) r.1 ∙ or_true (x == k))))
    (λ t. let r = passes test k xs (rw t at h) in (r.0, ap (λ b. (x == k) || b) r.1 ∙ or_true (x == k)))

module _ (test : ℕ → Bool) where
  abbrev pub fails : ℕ → Bool
  fails k = not (test k)

  -- those that pass and those that don't are all
  pub both_parts : (xs : List ℕ) → distinct (filter test xs) + distinct (filter fails xs) ≡ distinct xs
  unfolding distinct
  both_parts [] = refl
  both_parts (x ∷ xs) =
      let r = both_parts xs in
      let yes = distinct (filter test xs) in
      let no = distinct (filter fails xs) in
      split (test x)
      (λ t. rw t (ap (λ b. with_one b yes + no) (in_filter test x t xs) ∙ one_plus (is_in x xs) yes no ∙ ap (with_one (is_in x xs)) r))
      (λ t. rw t (ap (λ b. yes + with_one b no) (in_filter fails x (ap not t) xs) ∙ plus_one (is_in x xs) yes no ∙ ap (with_one (is_in x xs)) r))

  -- those that pass are made 0, and room is made for it
  abbrev pub folded : ℕ → ℕ
  folded k = cond (test k) 0 (suc k)

  in_folded : (k : ℕ) → (xs : List ℕ) → test k ≡ false → is_in (suc k) (map folded xs) ≡ is_in k (filter fails xs)
  in_folded k [] f = refl
  in_folded k (x ∷ xs) f =
      split (test x)
      (λ t. rw t (ap (λ b. b || is_in (suc k) (map folded xs)) (not_nothing k) ∙ in_folded k xs f))
      (λ t. rw t (ap₂ (λ a b. a || b) (both_more x k) (in_folded k xs f)))

  before_nothing : (xs : List ℕ) → distinct (map folded xs ++ 0 ∷ []) ≡ suc (distinct (filter fails xs))
  unfolding distinct
  before_nothing [] = refl
  before_nothing (x ∷ xs) =
      let r = before_nothing xs in
      let zs = map folded xs ++ 0 ∷ [] in
      split (test x)
      (λ t. let there : is_in 0 zs ≡ true = in_push 0 0 (map folded xs) ∙ or_true (is_in 0 (map folded xs)) in
      rw t (ap (λ b. with_one b (distinct zs)) there ∙ r))
      (λ t. let same : is_in (suc x) zs ≡ is_in x (filter fails xs) =
      in_push (suc x) 0 (map folded xs) ∙ ap (λ b. is_in (suc x) (map folded xs) || b) (not_nothing x) ∙ or_false (is_in (suc x) (map folded xs)) ∙ in_folded x xs t in
      rw t (ap (λ b. with_one b (distinct zs)) same ∙ ap (with_one (is_in x (filter fails xs))) r ∙ one_behind (is_in x (filter fails xs)) (distinct (filter fails xs))))

  -- so with 0 there is one more than there are that don't pass
  pub with_nothing : (xs : List ℕ) → distinct (0 ∷ map folded xs) ≡ suc (distinct (filter fails xs))
  unfolding distinct
  with_nothing xs = sym (distinct_push (map folded xs) 0) ∙ before_nothing xs

-- a number stands in a list, and no other does
pub record StandsAlone (xs : List ℕ) (c : ℕ) : Type 0 where
  pub stands : is_in c xs ≡ true
  pub alone : (k : ℕ) → is_in k xs ≡ true → k ≡ c

some : (x : ℕ) (xs : List ℕ) → 0 < distinct (x ∷ xs)
unfolding distinct
some x [] = omega arith
some x (y ∷ ys) =
    let r = some y ys in
    split (is_in x (y ∷ ys))
    (λ t. let e : distinct (x ∷ (y ∷ ys)) ≡ distinct (y ∷ ys) = ap (λ b. with_one b (distinct (y ∷ ys))) t in omega (arith, r, e))
    (λ t. let e : distinct (x ∷ (y ∷ ys)) ≡ suc (distinct (y ∷ ys)) = ap (λ b. with_one b (distinct (y ∷ ys))) t in omega (arith, e))

first_alone : (x : ℕ) (xs : List ℕ) → distinct (x ∷ xs) ≡ 1 → (k : ℕ) → is_in k (x ∷ xs) ≡ true → k ≡ x
unfolding distinct
first_alone x [] one k h = split (x == k) (λ t. grind (arith, t)) (λ t. absurd (let g = rw t at h in cc))
first_alone x (y ∷ ys) one k h =
    split (is_in x (y ∷ ys))
    (λ t. let fewer : distinct (y ∷ ys) ≡ 1 = sym (ap (λ b. with_one b (distinct (y ∷ ys))) t) ∙ one in
    let e : x ≡ y = first_alone y ys fewer x t in
    split (x == k)
    (λ u. grind (arith, u))
    (λ u. first_alone y ys fewer k (sym (ap (λ b. b || is_in k (y ∷ ys)) u) ∙ h) ∙ sym e))
    (λ t. let more : suc (distinct (y ∷ ys)) ≡ 1 = sym (ap (λ b. with_one b (distinct (y ∷ ys))) t) ∙ one in
    let r = some y ys in
    absurd (omega (arith, more, r)))

-- that is so where there is one different number,
pub one_stands : (xs : List ℕ) → distinct xs ≡ 1 → (c : ℕ) × StandsAlone xs c
unfolding distinct
one_stands [] one = absurd (omega (arith, one))
one_stands (x ∷ xs) one = (x, record { stands = ap (λ b. b || is_in x xs) (itself x); alone = first_alone x xs one })

-- and only there
pub one_is_one : (xs : List ℕ) (c : ℕ) → StandsAlone xs c → distinct xs ≡ 1
unfolding distinct
one_is_one [] c s = absurd (let h = s.stands in cc)
one_is_one (x ∷ []) c s = refl
one_is_one (x ∷ (y ∷ ys)) c s =
    let e : x ≡ c = s.alone x (ap (λ b. b || is_in x (y ∷ ys)) (itself x)) in
    let f : y ≡ c = s.alone y (ap (λ b. (x == y) || (b || is_in y ys)) (itself y) ∙ or_true (x == y)) in
    let same : (y == x) ≡ true = grind (arith, e, f) in
    let is_c : (y == c) ≡ true = grind (arith, f) in
    ap (λ b. with_one (b || is_in x ys) (distinct (y ∷ ys))) same
    ∙ one_is_one (y ∷ ys) c (record { stands = ap (λ b. b || is_in c ys) is_c; alone = λ k h. s.alone k (ap (λ b. (x == k) || b) h ∙ or_true (x == k)) })
