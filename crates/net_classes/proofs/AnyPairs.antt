-- Whether something of a list, or some pair of a list, passes a test.
use Rattle.std.proofs.Common.{◌≡◌, ℕ, Bool, true, false, not, cond, eqb, ◌&&◌, ◌||◌, List, [], ◌∷◌, ◌++◌, map, filter, refl, sym, ap, ap₂, ◌∙◌}
use Rattle.std.specs.List.{list_any, list_all}
use Rattle.std.proofs.lemmas.List.Folds.{list_any-append, sum_by-zero}
use Rattle.shape_rules.specs.Meeting.{pairs_of}
use Rattle.line_laws.specs.Lines.{SameThings}
use Rattle.part_classes.proofs.LabelLaws.{split}

regroup : (a b c d : Bool) → ((a || b) || (c || d)) ≡ ((a || c) || (b || d))
regroup true b c d = refl
regroup false true true d = refl
regroup false true false d = refl
regroup false false c d = refl

pub and_false : (b : Bool) → (b && false) ≡ false
and_false true = refl
and_false false = refl

pub any_map : {A B : Type 0} (test : B → Bool) (f : A → B) (xs : List A) → list_any test (map f xs) ≡ list_any (λ x. test (f x)) xs
any_map test f [] = refl
any_map test f (x ∷ xs) = ap (λ (t : Bool). test (f x) || t) (any_map test f xs)

pub any_filter : {A : Type 0} (test keep : A → Bool) (xs : List A) → list_any test (filter keep xs) ≡ list_any (λ x. keep x && test x) xs
any_filter test keep [] = refl
any_filter test keep (x ∷ xs) =
    let r = any_filter test keep xs in
    split (keep x) (λ t. rw t (ap (λ (b : Bool). test x || b) r)) (λ t. rw t r)

pub any_same : {A : Type 0} (f g : A → Bool) → ((x : A) → f x ≡ g x) → (xs : List A) → list_any f xs ≡ list_any g xs
any_same f g h [] = refl
any_same f g h (x ∷ xs) = ap₂ (λ (a b : Bool). a || b) (h x) (any_same f g h xs)

pub any_or : {A : Type 0} (f g : A → Bool) (xs : List A) → list_any (λ x. f x || g x) xs ≡ (list_any f xs || list_any g xs)
any_or f g [] = refl
any_or f g (x ∷ xs) = ap (λ (t : Bool). (f x || g x) || t) (any_or f g xs) ∙ regroup (f x) (g x) (list_any f xs) (list_any g xs)

both_and : (a b c : Bool) → ((a && c) || (b && c)) ≡ ((a || b) && c)
both_and true true true = refl
both_and true true false = refl
both_and true false true = refl
both_and true false false = refl
both_and false b c = refl

pub any_and : {A : Type 0} (f : A → Bool) (b : Bool) (xs : List A) → list_any (λ x. f x && b) xs ≡ (list_any f xs && b)
any_and f b [] = refl
any_and f b (x ∷ xs) = ap (λ (t : Bool). (f x && b) || t) (any_and f b xs) ∙ both_and (f x) (list_any f xs) b

pub any_never : {A : Type 0} (f : A → Bool) → ((x : A) → f x ≡ false) → (xs : List A) → list_any f xs ≡ false
any_never f h [] = refl
any_never f h (x ∷ xs) = ap (λ (t : Bool). t || list_any f xs) (h x) ∙ any_never f h xs

any_not_all : {A : Type 0} (test : A → Bool) (xs : List A) → list_any test xs ≡ not (list_all (λ x. eqb (cond {A = ℕ} (test x) 1 0) 0) xs)
any_not_all test [] = refl
any_not_all test (x ∷ xs) =
    let r = any_not_all test xs in
    split (test x) (λ t. rw t refl) (λ t. rw t r)

-- lists of the same things
pub any_of_same : {A : Type 0} (test : A → Bool) (xs ys : List A) → SameThings xs ys → list_any test xs ≡ list_any test ys
any_of_same {A} test xs ys h =
    let one : A → ℕ = λ x. cond {A = ℕ} (test x) 1 0 in
    any_not_all test xs
    ∙ ap not (sym (sum_by-zero one xs) ∙ ap (λ (n : ℕ). eqb n 0) (h.sums one) ∙ sum_by-zero one ys)
    ∙ sym (any_not_all test ys)

-- whether some pair does, the earlier thing first
abbrev pub pairs_any : {A : Type 0} → (A → A → Bool) → List A → Bool
pairs_any f [] = false
pairs_any f (x ∷ xs) = list_any (f x) xs || pairs_any f xs

pub any_pair : {A : Type 0} (test : A × A → Bool) (xs : List A) → list_any test (pairs_of xs) ≡ pairs_any (λ x y. test (x, y)) xs
any_pair test [] = refl
any_pair {A} test (x ∷ xs) =
    list_any-append test (map {B = A × A} (λ y. (x, y)) xs) (pairs_of xs)
    ∙ ap₂ (λ (a b : Bool). a || b) (any_map {B = A × A} test (λ y. (x, y)) xs) (any_pair test xs)

regroup_more : (a b p c q : Bool) → ((a || b) || (p || (c || q))) ≡ ((a || p) || ((b || c) || q))
regroup_more true b p c q = refl
regroup_more false true true c q = refl
regroup_more false true false c q = refl
regroup_more false false p c q = refl

-- a pair of one list, or of another, or of one with another
pub pairs_append : {A : Type 0} (f : A → A → Bool) (xs ys : List A)
    → pairs_any f (xs ++ ys) ≡ (pairs_any f xs || (list_any (λ x. list_any (f x) ys) xs || pairs_any f ys))
pairs_append f [] ys = refl
pairs_append f (x ∷ xs) ys =
    ap₂ (λ (a b : Bool). a || b) (list_any-append (f x) xs ys) (pairs_append f xs ys)
    ∙ regroup_more (list_any (f x) xs) (list_any (f x) ys) (pairs_any f xs) (list_any (λ z. list_any (f z) ys) xs) (pairs_any f ys)

pub pairs_map : {A B : Type 0} (f : B → B → Bool) (g : A → B) (xs : List A) → pairs_any f (map g xs) ≡ pairs_any (λ x y. f (g x) (g y)) xs
pairs_map f g [] = refl
pairs_map f g (x ∷ xs) = ap₂ (λ (a b : Bool). a || b) (any_map (f (g x)) g xs) (pairs_map f g xs)

pub pairs_same : {A : Type 0} (f g : A → A → Bool) → ((x y : A) → f x y ≡ g x y) → (xs : List A) → pairs_any f xs ≡ pairs_any g xs
pairs_same f g h [] = refl
pairs_same f g h (x ∷ xs) = ap₂ (λ (a b : Bool). a || b) (any_same (f x) (g x) (h x) xs) (pairs_same f g h xs)

pub pairs_never : {A : Type 0} (f : A → A → Bool) → ((x y : A) → f x y ≡ false) → (xs : List A) → pairs_any f xs ≡ false
pairs_never f h [] = refl
pairs_never f h (x ∷ xs) = ap (λ (t : Bool). t || pairs_any f xs) (any_never (f x) (h x) xs) ∙ pairs_never f h xs

or_parts : (a b : Bool) → (a || b) ≡ false → (a ≡ false) × (b ≡ false)
or_parts true b h = absurd (cc)
or_parts false b h = (refl, h)

-- none where each thing is such that no two of them pass
pub none_with : {A : Type 0} (f : A → A → Bool) (odd : A → Bool) → ((x y : A) → odd x ≡ false → odd y ≡ false → f x y ≡ false)
    → (x : A) → odd x ≡ false → (xs : List A) → list_any odd xs ≡ false → list_any (f x) xs ≡ false
none_with f odd h x even [] none = refl
none_with f odd h x even (y ∷ ys) none =
    let two = or_parts (odd y) (list_any odd ys) none in
    ap (λ (t : Bool). t || list_any (f x) ys) (h x y even two.0) ∙ none_with f odd h x even ys two.1

pub pairs_none : {A : Type 0} (f : A → A → Bool) (odd : A → Bool) → ((x y : A) → odd x ≡ false → odd y ≡ false → f x y ≡ false)
    → (xs : List A) → list_any odd xs ≡ false → pairs_any f xs ≡ false
pairs_none f odd h [] none = refl
pairs_none f odd h (x ∷ xs) none =
    let two = or_parts (odd x) (list_any odd xs) none in
    ap (λ (t : Bool). t || pairs_any f xs) (none_with f odd h x two.0 xs two.1) ∙ pairs_none f odd h xs two.1
