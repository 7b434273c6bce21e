-- Counts of different numbers.
use Rattle.std.proofs.Common.{◌≡◌, ◌≢◌, ◌≤◌, ℕ, suc, Bool, true, false, not, cond, ◌||◌, List, [], ◌∷◌, ◌++◌, refl, sym, ap, ◌∙◌, arith}
use Rattle.std.specs.Prelude.{◌==◌, if◌then◌else◌}
use Rattle.std.specs.List.{list_any, filter}
use Rattle.std.proofs.lemmas.List.Folds.{list_any-append}
use Rattle.shape_rules.specs.Classes.{distinct, marked, holding}
use Rattle.part_classes.specs.Laws.{CountsAreAll}
use Rattle.part_classes.proofs.LabelLaws.{split}

-- whether a number is among these
abbrev pub is_in : ℕ → List ℕ → Bool
is_in x ls = list_any (λ k. k == x) ls

-- how many different ones there are with one more, by whether it is among them
abbrev pub with_one : Bool → ℕ → ℕ
with_one known n = if known then n else suc n

abbrev without : ℕ → List ℕ → List ℕ
without x ls = filter (λ k. not (k == x)) ls

swapped : (s t : Bool) (n : ℕ) → with_one s (with_one t n) ≡ with_one t (with_one s n)
swapped true true n = refl
swapped true false n = refl
swapped false true n = refl
swapped false false n = refl

once : (s : Bool) (n : ℕ) → with_one s (with_one (not s) n) ≡ suc n
once true n = refl
once false n = refl

pub or_false : (b : Bool) → (b || false) ≡ b
or_false true = refl
or_false false = refl

pub or_true : (b : Bool) → (b || true) ≡ true
or_true true = refl
or_true false = refl

other : {P : Type 0} → true ≡ false → P
other h = grind (arith, h)

same_number : (n : ℕ) → (n == n) ≡ true
same_number n = grind arith

pub in_push : (x y : ℕ) (ls : List ℕ) → is_in x (ls ++ y ∷ []) ≡ (is_in x ls || (y == x))
in_push x y ls = list_any-append (λ k. k == x) ls (y ∷ []) ∙ ap (λ (t : Bool). is_in x ls || t) (or_false (y == x))

-- one more number behind the others
pub distinct_push : (ls : List ℕ) (x : ℕ) → distinct (ls ++ x ∷ []) ≡ with_one (is_in x ls) (distinct ls)
unfolding distinct
distinct_push [] x = refl
distinct_push (l ∷ ls) x =
    split (x == l)
    (λ t. let e : x ≡ l = grind (arith, t) in
    let left : is_in l (ls ++ x ∷ []) ≡ true = in_push l x ls ∙ ap (λ (t : Bool). is_in l ls || t) t ∙ or_true (is_in l ls) in
    let right : (l == x) ≡ true = grind (arith, e) in
    ap (λ (t : Bool). with_one t (distinct (ls ++ x ∷ []))) left ∙ distinct_push ls x ∙ ap (λ (k : ℕ). with_one (is_in k ls) (distinct ls)) e
    ∙ sym (ap (λ (t : Bool). with_one (t || is_in x ls) (distinct (l ∷ ls))) right))
    (λ t. let left : is_in l (ls ++ x ∷ []) ≡ is_in l ls = in_push l x ls ∙ ap (λ (t : Bool). is_in l ls || t) t ∙ or_false (is_in l ls) in
    let right : (l == x) ≡ false = grind (arith, t) in
    ap (λ (t : Bool). with_one t (distinct (ls ++ x ∷ []))) left ∙ ap (with_one (is_in l ls)) (distinct_push ls x) ∙ swapped (is_in l ls) (is_in x ls) (distinct ls)
    ∙ sym (ap (λ (t : Bool). with_one (t || is_in x ls) (distinct (l ∷ ls))) right))

in_without : (x l : ℕ) (ls : List ℕ) → l ≢ x → is_in l (without x ls) ≡ is_in l ls
in_without x l [] h = refl
in_without x l (k ∷ ls) h =
    split (k == x)
    (λ t. let other : (k == l) ≡ false = split (k == l) (λ u. absurd (h (grind (arith, t, u)))) (λ u. u) in
    ap (λ (t : Bool). is_in l (cond (not t) (k ∷ without x ls) (without x ls))) t ∙ in_without x l ls h ∙ sym (ap (λ (t : Bool). t || is_in l ls) other))
    (λ t. ap (λ (t : Bool). is_in l (cond (not t) (k ∷ without x ls) (without x ls))) t ∙ ap (λ (t : Bool). (k == l) || t) (in_without x l ls h))

-- all but one, and that one where it is among them
distinct_without : (x : ℕ) (ls : List ℕ) → distinct ls ≡ with_one (not (is_in x ls)) (distinct (without x ls))
unfolding distinct
distinct_without x [] = refl
distinct_without x (l ∷ ls) =
    let rest = distinct_without x ls in
    split (l == x)
    (λ t. let e : l ≡ x = grind (arith, t) in
    let known : is_in x (l ∷ ls) ≡ true = ap (λ (t : Bool). t || is_in x ls) t in
    let gone : without x (l ∷ ls) ≡ without x ls = ap (λ (t : Bool). cond (not t) (l ∷ without x ls) (without x ls)) t in
    ap (λ (k : ℕ). with_one (is_in k ls) (distinct ls)) e ∙ ap (with_one (is_in x ls)) rest ∙ once (is_in x ls) (distinct (without x ls))
    ∙ sym (ap (λ (t : Bool). with_one (not t) (distinct (without x (l ∷ ls)))) known ∙ ap (λ (ks : List ℕ). suc (distinct ks)) gone))
    (λ t. let apart : l ≢ x = λ e. grind (arith, t, e) in
    let stays : without x (l ∷ ls) ≡ l ∷ without x ls = ap (λ (t : Bool). cond (not t) (l ∷ without x ls) (without x ls)) t in
    ap (with_one (is_in l ls)) rest ∙ swapped (is_in l ls) (not (is_in x ls)) (distinct (without x ls))
    ∙ sym (ap (λ (t : Bool). with_one (not (t || is_in x ls)) (distinct (without x (l ∷ ls)))) t ∙ ap (λ (ks : List ℕ). with_one (not (is_in x ls)) (distinct ks)) stays
    ∙ ap (λ (t : Bool). with_one (not (is_in x ls)) (with_one t (distinct (without x ls)))) (in_without x l ls apart)))

distinct_within : (xs ys : List ℕ) → ((k : ℕ) → is_in k xs ≡ true → is_in k ys ≡ true) → distinct xs ≤ distinct ys
unfolding distinct
distinct_within [] ys within = omega arith
distinct_within (x ∷ xs) ys within =
    let later : (k : ℕ) → is_in k xs ≡ true → is_in k ys ≡ true = λ k h. within k (ap (λ (t : Bool). (x == k) || t) h ∙ or_true (x == k)) in
    let here : is_in x ys ≡ true = within x (ap (λ (t : Bool). t || is_in x xs) (same_number x)) in
    split (is_in x xs)
    (λ t. let e : distinct (x ∷ xs) ≡ distinct xs = ap (λ (t : Bool). with_one t (distinct xs)) t in
    let r = distinct_within xs ys later in omega (arith, e, r))
    (λ t. let e : distinct (x ∷ xs) ≡ suc (distinct xs) = ap (λ (t : Bool). with_one t (distinct xs)) t in
    let apart : (k : ℕ) → is_in k xs ≡ true → k ≢ x = λ k h q. other (sym h ∙ ap (λ (k : ℕ). is_in k xs) q ∙ t) in
    let r = distinct_within xs (without x ys) (λ k h. in_without x k ys (apart k h) ∙ later k h) in
    let f : distinct ys ≡ suc (distinct (without x ys)) = distinct_without x ys ∙ ap (λ (t : Bool). with_one (not t) (distinct (without x ys))) here in
    omega (arith, e, r, f))

in_marked : (marks : List Bool) (ls : List ℕ) (k : ℕ) → is_in k (marked marks ls) ≡ true → is_in k ls ≡ true
in_marked marks [] k h = h
in_marked [] (l ∷ ls) k h = absurd (other (sym h))
in_marked (true ∷ marks) (l ∷ ls) k h =
    split (l == k)
    (λ t. ap (λ (t : Bool). t || is_in k ls) t)
    (λ t. ap (λ (t : Bool). t || is_in k ls) t ∙ in_marked marks ls k (sym (ap (λ (t : Bool). t || is_in k (marked marks ls)) t) ∙ h))
in_marked (false ∷ marks) (l ∷ ls) k h = ap (λ (t : Bool). (l == k) || t) (in_marked marks ls k h) ∙ or_true (l == k)

pub holding_few : (marks : List Bool) (ls : List ℕ) → holding marks ls ≤ distinct ls
holding_few marks ls = distinct_within (marked marks ls) ls (in_marked marks ls)

pub counts_are_all : CountsAreAll
counts_are_all marks ls = let h = holding_few marks ls in omega (arith, h)
