-- Labels and the closure of being joined.
use Rattle.std.proofs.Common.{◌≡◌, ◌≢◌, ◌≤◌, ◌<◌, ◌+◌, ℕ, zero, suc, Bool, true, false, cond, List, [], ◌∷◌, map, length, refl, sym, ap, ◌∙◌, arith}
use Rattle.std.specs.Prelude.{nat_lt, ◌==◌}
use Rattle.std.proofs.lemmas.List.{length-map, ext_get_or}
use Rattle.shape_rules.specs.Classes.{lesser, greater, label_at, relabelled, joined, all_joined, numbers, labels, Respects, AreBelow}
use Rattle.part_classes.specs.Laws.{LabelsAreClasses, OrderIsOpen}

pub split : {P : Type 0} (b : Bool) → (b ≡ true → P) → (b ≡ false → P) → P
split true first second = first refl
split false first second = second refl

-- the label of a part after a join, by the labels before it
abbrev pub joined_at : (ℕ → ℕ) → ℕ × ℕ → ℕ → ℕ
joined_at l e k = relabelled (lesser (l e.0) (l e.1)) (greater (l e.0) (l e.1)) (l k)

at_map : (f : ℕ → ℕ) (ls : List ℕ) (k : ℕ) → f 0 ≡ 0 → label_at (map f ls) k ≡ f (label_at ls k)
at_map f [] k h = sym h
at_map f (l ∷ ls) zero h = refl
at_map f (l ∷ ls) (suc k) h = at_map f ls k h

-- no part has a label that isn't there, and 0 stays
zero_stays : (a b : ℕ) → relabelled (lesser a b) (greater a b) 0 ≡ 0
zero_stays a b =
    split (nat_lt a b)
    (λ t. split (0 == greater a b) (λ u. grind (arith, t, u)) (λ u. grind (arith, t, u)))
    (λ t. split (0 == greater a b) (λ u. grind (arith, t, u)) (λ u. grind (arith, t, u)))

pub at_joined : (ls : List ℕ) (e : ℕ × ℕ) (k : ℕ) → label_at (joined e ls) k ≡ joined_at (label_at ls) e k
at_joined ls e k = at_map (relabelled (lesser (label_at ls e.0) (label_at ls e.1)) (greater (label_at ls e.0) (label_at ls e.1))) ls k (zero_stays (label_at ls e.0) (label_at ls e.1))

-- the greater label becomes the lesser, any other stays
hit : (ls : List ℕ) (e : ℕ × ℕ) (k : ℕ) → label_at ls k ≡ greater (label_at ls e.0) (label_at ls e.1) → label_at (joined e ls) k ≡ lesser (label_at ls e.0) (label_at ls e.1)
hit ls e k h =
    let g = greater (label_at ls e.0) (label_at ls e.1) in
    let t : (label_at ls k == g) ≡ true = grind (arith, h) in
    at_joined ls e k ∙ ap (λ (t : Bool). cond t (lesser (label_at ls e.0) (label_at ls e.1)) (label_at ls k)) t

miss : (ls : List ℕ) (e : ℕ × ℕ) (k : ℕ) → label_at ls k ≢ greater (label_at ls e.0) (label_at ls e.1) → label_at (joined e ls) k ≡ label_at ls k
miss ls e k h =
    let g = greater (label_at ls e.0) (label_at ls e.1) in
    split (label_at ls k == g)
    (λ t. absurd (h (grind (arith, t))))
    (λ t. at_joined ls e k ∙ ap (λ (t : Bool). cond t (lesser (label_at ls e.0) (label_at ls e.1)) (label_at ls k)) t)

same_class : (l : ℕ → ℕ) (e : ℕ × ℕ) → joined_at l e e.0 ≡ joined_at l e e.1
same_class l e =
    split (nat_lt (l e.0) (l e.1))
    (λ t. grind (arith, t))
    (λ t. grind (arith, t))

keeps : (ls : List ℕ) (e : ℕ × ℕ) (i j : ℕ) → label_at ls i ≡ label_at ls j → label_at (joined e ls) i ≡ label_at (joined e ls) j
keeps ls e i j h = at_joined ls e i ∙ ap (relabelled (lesser (label_at ls e.0) (label_at ls e.1)) (greater (label_at ls e.0) (label_at ls e.1))) h ∙ sym (at_joined ls e j)

respects_later : (ls : List ℕ) (e : ℕ × ℕ) (es : List (ℕ × ℕ)) → Respects (label_at ls) es → Respects (label_at (joined e ls)) es
respects_later ls e [] r = tt
respects_later ls e (f ∷ es) r = (keeps ls e f.0 f.1 r.0, respects_later ls e es r.1)

respects : (n : ℕ) (es : List (ℕ × ℕ)) → Respects (label_at (labels n es)) es
unfolding all_joined
respects n [] = tt
respects n (e ∷ es) =
    let ls = labels n es in
    (at_joined ls e e.0 ∙ same_class (label_at ls) e ∙ sym (at_joined ls e e.1), respects_later ls e es (respects n es))

-- two parts with one label after a join had one before, or one of each of the two that were joined
finest_step : (ls : List ℕ) (m : ℕ → ℕ) (e : ℕ × ℕ) (n : ℕ) → ((i j : ℕ) → i < n → j < n → label_at ls i ≡ label_at ls j → m i ≡ m j) → e.0 < n → e.1 < n → m e.0 ≡ m e.1 → (i j : ℕ) → i < n → j < n → label_at (joined e ls) i ≡ label_at (joined e ls) j → m i ≡ m j
finest_step ls m e n ih below_0 below_1 same i j below_i below_j h =
    let l = label_at ls in
    let g = greater (l e.0) (l e.1) in
    let s = lesser (l e.0) (l e.1) in
    let one : (k : ℕ) → k < n → l k ≡ l e.0 → m k ≡ m e.0 = λ k b q. ih k e.0 b below_0 q in
    let other : (k : ℕ) → k < n → l k ≡ l e.1 → m k ≡ m e.0 = λ k b q. ih k e.1 b below_1 q ∙ sym same in
    let high : (k : ℕ) → k < n → l k ≡ g → m k ≡ m e.0 = λ k b q.
    split (nat_lt (l e.0) (l e.1)) (λ t. other k b (grind (arith, t, q))) (λ t. one k b (grind (arith, t, q))) in
    let low : (k : ℕ) → k < n → l k ≡ s → m k ≡ m e.0 = λ k b q.
    split (nat_lt (l e.0) (l e.1)) (λ t. one k b (grind (arith, t, q))) (λ t. other k b (grind (arith, t, q))) in
    split (l i == g)
    (λ a. let p : l i ≡ g = grind (arith, a) in
    split (l j == g)
    (λ b. let q : l j ≡ g = grind (arith, b) in high i below_i p ∙ sym (high j below_j q))
    (λ b. let q : l j ≢ g = λ e. grind (arith, b, e) in high i below_i p ∙ sym (low j below_j (sym (miss ls e j q) ∙ sym h ∙ hit ls e i p))))
    (λ a. let p : l i ≢ g = λ e. grind (arith, a, e) in
    split (l j == g)
    (λ b. let q : l j ≡ g = grind (arith, b) in low i below_i (sym (miss ls e i p) ∙ h ∙ hit ls e j q) ∙ sym (high j below_j q))
    (λ b. let q : l j ≢ g = λ e. grind (arith, b, e) in ih i j below_i below_j (sym (miss ls e i p) ∙ h ∙ miss ls e j q)))

pub number_at : (a n k : ℕ) → k < n → label_at (numbers a n) k ≡ a + k
unfolding numbers
number_at a zero k h = absurd (omega (arith, h))
number_at a (suc n) zero h = omega arith
number_at a (suc n) (suc k) h = let r = number_at (suc a) n k (omega (arith, h)) in omega (arith, r)

pub own_number : (n k : ℕ) → k < n → label_at (numbers 0 n) k ≡ k
own_number n k h = let r = number_at 0 n k h in omega (arith, r)

finest : (n : ℕ) (es : List (ℕ × ℕ)) → AreBelow n es → (m : ℕ → ℕ) → Respects m es → (i j : ℕ) → i < n → j < n → label_at (labels n es) i ≡ label_at (labels n es) j → m i ≡ m j
unfolding all_joined
finest n [] below m r i j a b h = ap m (sym (own_number n i a) ∙ h ∙ own_number n j b)
finest n (e ∷ es) below m r i j a b h = finest_step (labels n es) m e n (finest n es below.2 m r.1) below.0 below.1 r.0 i j a b h

least_step : (l : ℕ → ℕ) (e : ℕ × ℕ) (k : ℕ) → joined_at l e k ≤ l k
least_step l e k =
    split (nat_lt (l e.0) (l e.1))
    (λ t. split (l k == greater (l e.0) (l e.1)) (λ a. grind (arith, t, a)) (λ a. grind (arith, t, a)))
    (λ t. split (l k == greater (l e.0) (l e.1)) (λ a. grind (arith, t, a)) (λ a. grind (arith, t, a)))

least_number : (a n k : ℕ) → label_at (numbers a n) k ≤ a + k
unfolding numbers
least_number a zero k = omega arith
least_number a (suc n) zero = omega arith
least_number a (suc n) (suc k) = let r = least_number (suc a) n k in omega (arith, r)

least : (n : ℕ) (es : List (ℕ × ℕ)) (k : ℕ) → label_at (labels n es) k ≤ k
unfolding all_joined
least n [] k = let r = least_number 0 n k in omega (arith, r)
least n (e ∷ es) k = let a = at_joined (labels n es) e k in let b = least_step (label_at (labels n es)) e k in let c = least n es k in omega (arith, a, b, c)

-- a label is its own
own_step : (ls : List ℕ) (e : ℕ × ℕ) (k : ℕ) → ((i : ℕ) → label_at ls (label_at ls i) ≡ label_at ls i) → label_at (joined e ls) (label_at (joined e ls) k) ≡ label_at (joined e ls) k
own_step ls e k own =
    let l = label_at ls in
    let g = greater (l e.0) (l e.1) in
    let s = lesser (l e.0) (l e.1) in
    let before : l s ≡ s = split (nat_lt (l e.0) (l e.1)) (λ t. let q : s ≡ l e.0 = grind (arith, t) in ap l q ∙ own e.0 ∙ sym q) (λ t. let q : s ≡ l e.1 = grind (arith, t) in ap l q ∙ own e.1 ∙ sym q) in
    let after : label_at (joined e ls) s ≡ s = split (l s == g) (λ a. hit ls e s (grind (arith, a))) (λ a. miss ls e s (λ e. grind (arith, a, e)) ∙ before) in
    split (l k == g)
    (λ a. let h = hit ls e k (grind (arith, a)) in ap (label_at (joined e ls)) h ∙ after ∙ sym h)
    (λ a. let p : l k ≢ g = λ e. grind (arith, a, e) in
    let h = miss ls e k p in
    ap (label_at (joined e ls)) h ∙ miss ls e (l k) (λ q. p (sym (own k) ∙ q)) ∙ own k ∙ sym h)

past_numbers : (a n k : ℕ) → n ≤ k → label_at (numbers a n) k ≡ 0
unfolding numbers
past_numbers a zero k h = refl
past_numbers a (suc n) zero h = absurd (omega (arith, h))
past_numbers a (suc n) (suc k) h = past_numbers (suc a) n k (omega (arith, h))

own_numbers : (n k : ℕ) → label_at (numbers 0 n) (label_at (numbers 0 n) k) ≡ label_at (numbers 0 n) k
own_numbers n k =
    split (nat_lt k n)
    (λ t. ap (label_at (numbers 0 n)) (own_number n k (grind (arith, t))))
    (λ t. let past : label_at (numbers 0 n) k ≡ 0 = past_numbers 0 n k (grind (arith, t)) in
    let r = least_number 0 n 0 in ap (label_at (numbers 0 n)) past ∙ (omega (arith, past, r)))

own : (n : ℕ) (es : List (ℕ × ℕ)) (k : ℕ) → label_at (labels n es) (label_at (labels n es) k) ≡ label_at (labels n es) k
unfolding all_joined
own n [] k = own_numbers n k
own n (e ∷ es) k = own_step (labels n es) e k (own n es)

pub length_numbers : (a n : ℕ) → length (numbers a n) ≡ n
unfolding numbers
length_numbers a zero = refl
length_numbers a (suc n) = let r = length_numbers (suc a) n in omega (arith, r)

length_labels : (n : ℕ) (es : List (ℕ × ℕ)) → length (labels n es) ≡ n
unfolding all_joined
length_labels n [] = length_numbers 0 n
length_labels n (e ∷ es) = length-map (labels n es) _ ∙ length_labels n es

-- joins that respect at least as much have labels that are no greater
lower : (n : ℕ) (es fs : List (ℕ × ℕ)) → AreBelow n es → ((m : ℕ → ℕ) → Respects m fs → Respects m es) → (k : ℕ) → k < n → label_at (labels n fs) k ≤ label_at (labels n es) k
lower n es fs below from k h =
    let r = label_at (labels n es) k in
    let b = least n es k in
    let same : label_at (labels n fs) r ≡ label_at (labels n fs) k = finest n es below (label_at (labels n fs)) (from (label_at (labels n fs)) (respects n fs)) r k (omega (arith, b, h)) h (own n es k) in
    let c = least n fs r in
    omega (arith, same, c)

pub labels_are_classes : LabelsAreClasses
labels_are_classes n es below i j a b = (λ h m r. finest n es below m r i j a b h, λ q. q (label_at (labels n es)) (respects n es))

pub order_is_open : OrderIsOpen
order_is_open n es fs below_es below_fs same =
    let size = length_labels n es in
    ext_get_or 0 (labels n es) (labels n fs) (size ∙ sym (length_labels n fs)) (λ k h.
    let a = lower n es fs below_es (λ m. (same m).1) k (omega (arith, h, size)) in
    let b = lower n fs es below_fs (λ m. (same m).0) k (omega (arith, h, size)) in
    omega (arith, a, b))
