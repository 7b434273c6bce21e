-- Classes as a forest: a part is put over another of its class, a class under another, each part under its root.
use Rattle.std.proofs.Common.{◌≡◌, ◌≢◌, ◌≤◌, ◌<◌, ◌+◌, ℕ, zero, suc, Bool, true, false, cond, List, [], ◌∷◌, ◌++◌, length, get_or, set, refl, sym, ap, ◌∙◌, subst, arith}
use Rattle.std.specs.Prelude.{nat_lt, ◌==◌}
use Rattle.std.proofs.lemmas.List.{get_or-set_same, get_or-set_other, get_or_default, get_or-map, length-map, length-set, ext_get_or}
use Rattle.shape_rules.specs.Classes.{joined, greater, lesser, relabelled, label_at, numbers}
use Rattle.part_classes.specs.Forest.{end_of, root_of, labels_of}
use Rattle.part_classes.proofs.LabelLaws.{split, length_numbers, own_number}

-- that many steps are enough
enough : (ps : List ℕ) (f g i : ℕ) → i ≤ f → i ≤ g → end_of ps f i ≡ end_of ps g i
unfolding end_of
enough ps zero zero i a b = refl
enough ps zero (suc g) i a b = let e : nat_lt (get_or ps i i) i ≡ false = grind (arith, a) in sym (ap (λ (t : Bool). cond t (end_of ps g (get_or ps i i)) i) e)
enough ps (suc f) zero i a b = let e : nat_lt (get_or ps i i) i ≡ false = grind (arith, b) in ap (λ (t : Bool). cond t (end_of ps f (get_or ps i i)) i) e
enough ps (suc f) (suc g) i a b =
    split (nat_lt (get_or ps i i) i)
    (λ t. let below : get_or ps i i < i = grind (arith, t) in rw t (enough ps f g (get_or ps i i) (omega (arith, below, a)) (omega (arith, below, b))))
    (λ t. rw t refl)

over : (ps : List ℕ) (i : ℕ) → get_or ps i i < i → root_of ps i ≡ root_of ps (get_or ps i i)
unfolding end_of
over ps zero h = absurd (omega (arith, h))
over ps (suc n) h =
    let t : nat_lt (get_or ps (suc n) (suc n)) (suc n) ≡ true = grind (arith, h) in
    rw t (enough ps n (get_or ps (suc n) (suc n)) (get_or ps (suc n) (suc n)) (omega (arith, h)) (omega arith))

itself : (ps : List ℕ) (i : ℕ) → i ≤ get_or ps i i → root_of ps i ≡ i
unfolding end_of
itself ps zero h = refl
itself ps (suc n) h = let t : nat_lt (get_or ps (suc n) (suc n)) (suc n) ≡ false = grind (arith, h) in rw t refl

below : {P : Type 0} (a b : ℕ) → (a < b → P) → (b ≤ a → P) → P
below a b low high = split (nat_lt a b) (λ t. low (grind (arith, t))) (λ t. high (grind (arith, t)))

alike : {P : Type 0} (a b : ℕ) → (a ≡ b → P) → (a ≢ b → P) → P
alike a b same other = split (a == b) (λ t. same (grind (arith, t))) (λ t. other (λ e. grind (arith, t, e)))

-- where the way from a part ends: at a part that stands over itself, with no greater number
record IsRoot (ps : List ℕ) (r i : ℕ) : Type 0 where
  least : r ≤ i
  stands : r ≤ get_or ps r r

rooted_below : (ps : List ℕ) (n i : ℕ) → i < n → IsRoot ps (root_of ps i) i
rooted_below ps zero i h = absurd (omega (arith, h))
rooted_below ps (suc n) i h =
    below (get_or ps i i) i
    (λ lower. let r = rooted_below ps n (get_or ps i i) (omega (arith, lower, h)) in subst (λ (l : ℕ). IsRoot ps l i) (sym (over ps i lower)) (record { least = omega (arith, r.least, lower); stands = r.stands }))
    (λ stands. subst (λ (l : ℕ). IsRoot ps l i) (sym (itself ps i stands)) (record { least = omega arith; stands = stands }))

rooted : (ps : List ℕ) (i : ℕ) → IsRoot ps (root_of ps i) i
rooted ps i = rooted_below ps (suc i) i (omega arith)

pub least : (ps : List ℕ) (i : ℕ) → root_of ps i ≤ i
least ps i = (rooted ps i).least

-- a root is its own
pub own : (ps : List ℕ) (i : ℕ) → root_of ps (root_of ps i) ≡ root_of ps i
own ps i = itself ps (root_of ps i) (rooted ps i).stands

same_below : (ps : List ℕ) (i q : ℕ) → i < length ps → q < i → root_of ps q ≡ root_of ps i → (n k : ℕ) → k < n → root_of (set ps i q) k ≡ root_of ps k
same_below ps i q within lesser same zero k h = absurd (omega (arith, h))
same_below ps i q within lesser same (suc n) k h =
    alike k i
    (λ e. let at : get_or (set ps i q) i i ≡ q = get_or-set_same ps i q i within in
    let lower : get_or (set ps i q) i i < i = omega (arith, at, lesser) in
    rw e (over (set ps i q) i lower ∙ ap (root_of (set ps i q)) at ∙ same_below ps i q within lesser same n q (omega (arith, e, h, lesser)) ∙ same))
    (λ apart. let at = get_or-set_other ps i k q k apart in
    below (get_or ps k k) k
    (λ lower. over (set ps i q) k (omega (arith, at, lower)) ∙ ap (root_of (set ps i q)) at ∙ same_below ps i q within lesser same n (get_or ps k k) (omega (arith, lower, h)) ∙ sym (over ps k lower))
    (λ stands. itself (set ps i q) k (omega (arith, at, stands)) ∙ sym (itself ps k stands)))

-- a way is made shorter by one
pub shorter : (ps : List ℕ) (i d : ℕ) → i < length ps → get_or ps i d < i → get_or ps (get_or ps i d) d < get_or ps i d → (k : ℕ) → root_of (set ps i (get_or ps (get_or ps i d) d)) k ≡ root_of ps k
shorter ps i d within first second k =
    let p = get_or ps i d in
    let q = get_or ps p d in
    let e : get_or ps i i ≡ p = get_or_default ps i i d within in
    let f : get_or ps p p ≡ q = get_or_default ps p p d (omega (arith, first, within)) in
    let one = over ps i (omega (arith, e, first)) ∙ ap (root_of ps) e in
    let two = over ps p (omega (arith, f, second)) ∙ ap (root_of ps) f in
    same_below ps i q within (omega (arith, first, second)) (sym (one ∙ two)) (suc k) k (omega arith)

pub step : (ps : List ℕ) (i d : ℕ) → i < length ps → get_or ps i d < i → root_of ps i ≡ root_of ps (get_or ps i d)
step ps i d within h = let e : get_or ps i i ≡ get_or ps i d = get_or_default ps i i d within in over ps i (omega (arith, e, h)) ∙ ap (root_of ps) e

pub stop : (ps : List ℕ) (i d : ℕ) → i < length ps → i ≤ get_or ps i d → root_of ps i ≡ i
stop ps i d within h = let e : get_or ps i i ≡ get_or ps i d = get_or_default ps i i d within in itself ps i (omega (arith, e, h))

-- a root under another, or under itself
hung_below : (ps : List ℕ) (b a : ℕ) → b < length ps → a ≤ b → root_of ps a ≡ a → root_of ps b ≡ b → (n k : ℕ) → k < n → root_of (set ps b a) k ≡ relabelled a b (root_of ps k)
hung_below ps b a within lesser root_a root_b zero k h = absurd (omega (arith, h))
hung_below ps b a within lesser root_a root_b (suc n) k h =
    alike k b
    (λ e. let at : get_or (set ps b a) b b ≡ a = get_or-set_same ps b a b within in
    let right : relabelled a b (root_of ps b) ≡ a = let t : (root_of ps b == b) ≡ true = grind (arith, root_b) in ap (λ (t : Bool). cond t a (root_of ps b)) t in
    let left : root_of (set ps b a) b ≡ a = below a b
    (λ lower. over (set ps b a) b (omega (arith, at, lower)) ∙ ap (root_of (set ps b a)) at ∙ hung_below ps b a within lesser root_a root_b n a (omega (arith, e, h, lower))
    ∙ ap (relabelled a b) root_a ∙ (let t : (a == b) ≡ false = grind (arith, lower) in ap (λ (t : Bool). cond t a a) t))
    (λ stands. itself (set ps b a) b (omega (arith, at, stands)) ∙ omega (arith, lesser, stands)) in
    rw e (left ∙ sym right))
    (λ apart. let at = get_or-set_other ps b k a k apart in
    below (get_or ps k k) k
    (λ lower. over (set ps b a) k (omega (arith, at, lower)) ∙ ap (root_of (set ps b a)) at ∙ hung_below ps b a within lesser root_a root_b n (get_or ps k k) (omega (arith, lower, h)) ∙ ap (relabelled a b) (sym (over ps k lower)))
    (λ stands. let r = itself ps k stands in
    let t : (root_of ps k == b) ≡ false = alike (root_of ps k) b (λ e. absurd (apart (sym r ∙ e))) (λ e. grind (arith, e)) in
    itself (set ps b a) k (omega (arith, at, stands)) ∙ sym r ∙ ap (λ (t : Bool). cond t a (root_of ps k)) (sym t)))

pub length_labels_of : (ps : List ℕ) → length (labels_of ps) ≡ length ps
length_labels_of ps = length-map (numbers 0 (length ps)) (root_of ps) ∙ length_numbers 0 (length ps)

pub at_labels_of : (ps : List ℕ) (k : ℕ) → k < length ps → label_at (labels_of ps) k ≡ root_of ps k
at_labels_of ps k h =
    let n = length_numbers 0 (length ps) in
    get_or-map (root_of ps) (numbers 0 (length ps)) k 0 0 (omega (arith, h, n)) ∙ ap (root_of ps) (own_number (length ps) k h)

-- labels that are the roots
pub are_labels : (ps ls : List ℕ) → length ls ≡ length ps → ((k : ℕ) → k < length ps → label_at ls k ≡ root_of ps k) → ls ≡ labels_of ps
are_labels ps ls size at = ext_get_or 0 ls (labels_of ps) (size ∙ sym (length_labels_of ps)) (λ k h. at k (omega (arith, h, size)) ∙ sym (at_labels_of ps k (omega (arith, h, size))))

-- what two searches leave: the same roots, and the two that they gave
pub record Found (ps rs : List ℕ) (a b x y : ℕ) : Type 0 where
  pub size : length rs ≡ length ps
  pub same : (k : ℕ) → root_of rs k ≡ root_of ps k
  pub first : x ≡ root_of ps a
  pub second : y ≡ root_of ps b

-- one root stands under the other, whichever of the two was asked for first
hung : (ps rs : List ℕ) (a b x y : ℕ) → Found ps rs a b x y → a < length ps → b < length ps → (low high : ℕ) → low ≤ high → high < length rs → root_of ps low ≡ low → root_of ps high ≡ high → lesser x y ≡ low → greater x y ≡ high → labels_of (set rs high low) ≡ joined (a, b) (labels_of ps)
hung ps rs a b x y f in_a in_b low high order within root_low root_high is_low is_high =
    sym (are_labels (set rs high low) (joined (a, b) (labels_of ps))
    (length-map (labels_of ps) _ ∙ length_labels_of ps ∙ sym f.size ∙ sym (length-set rs high low))
    (λ k h. let size = length-set rs high low in
    let k_in : k < length ps = omega (arith, h, size, f.size) in
    let la = at_labels_of ps a in_a in
    let lb = at_labels_of ps b in_b in
    let l = labels_of ps in
    let len = length_labels_of ps in
    get_or-map (relabelled (lesser (label_at l a) (label_at l b)) (greater (label_at l a) (label_at l b))) l k 0 0 (omega (arith, k_in, len))
    ∙ ap (λ (n : ℕ). relabelled (lesser n (label_at l b)) (greater n (label_at l b)) (label_at l k)) (la ∙ sym f.first)
    ∙ ap (λ (n : ℕ). relabelled (lesser x n) (greater x n) (label_at l k)) (lb ∙ sym f.second)
    ∙ ap (λ (n : ℕ). relabelled n (greater x y) (label_at l k)) is_low
    ∙ ap (λ (n : ℕ). relabelled low n (label_at l k)) is_high
    ∙ ap (relabelled low high) (at_labels_of ps k k_in ∙ sym (f.same k))
    ∙ sym (hung_below rs high low within order (f.same low ∙ root_low) (f.same high ∙ root_high) (suc k) k (omega arith))))

own_root : (ps : List ℕ) (a x : ℕ) → x ≡ root_of ps a → root_of ps x ≡ x
own_root ps a x e = ap (root_of ps) e ∙ own ps a ∙ sym e

pub second_hung : (ps rs : List ℕ) (a b x y : ℕ) → Found ps rs a b x y → a < length ps → b < length ps → x < y → y < length rs → labels_of (set rs y x) ≡ joined (a, b) (labels_of ps)
second_hung ps rs a b x y f in_a in_b order within = hung ps rs a b x y f in_a in_b x y (omega (arith, order)) within (own_root ps a x f.first) (own_root ps b y f.second) (grind (arith, order)) (grind (arith, order))

pub first_hung : (ps rs : List ℕ) (a b x y : ℕ) → Found ps rs a b x y → a < length ps → b < length ps → y ≤ x → x < length rs → labels_of (set rs x y) ≡ joined (a, b) (labels_of ps)
first_hung ps rs a b x y f in_a in_b order within = hung ps rs a b x y f in_a in_b y x order within (own_root ps b y f.second) (own_root ps a x f.first) (grind (arith, order)) (grind (arith, order))

-- each part in a class of its own
numbers_stand : (n : ℕ) → labels_of (numbers 0 n) ≡ numbers 0 n
numbers_stand n =
    let size = length_numbers 0 n in
    sym (are_labels (numbers 0 n) (numbers 0 n) refl (λ k h. let k_in : k < n = omega (arith, h, size) in
    let at = own_number n k k_in in
    let e : get_or (numbers 0 n) k k ≡ get_or (numbers 0 n) k 0 = get_or_default (numbers 0 n) k k 0 h in
    at ∙ sym (itself (numbers 0 n) k (omega (arith, at, e)))))

numbers_push : (a n : ℕ) → numbers a n ++ (a + n) ∷ [] ≡ numbers a (suc n)
unfolding numbers
numbers_push a zero = let e : a + 0 ≡ a = omega arith in ap (λ (k : ℕ). k ∷ []) e
numbers_push a (suc n) = let e : a + suc n ≡ suc a + n = omega arith in ap (λ (k : ℕ). a ∷ (numbers (suc a) n ++ k ∷ [])) e ∙ ap (λ (ks : List ℕ). a ∷ ks) (numbers_push (suc a) n)

pub number_pushed : (n : ℕ) (ks : List ℕ) → ks ≡ numbers 0 n → ks ++ n ∷ [] ≡ numbers 0 (n + 1)
number_pushed n ks h = let e : n + 1 ≡ suc n = omega arith in let f : 0 + n ≡ n = omega arith in ap (λ (ks : List ℕ). ks ++ n ∷ []) h ∙ ap (λ (k : ℕ). numbers 0 n ++ k ∷ []) (sym f) ∙ numbers_push 0 n ∙ ap (numbers 0) (sym e)

pub apart : (n : ℕ) (ks : List ℕ) → ks ≡ numbers 0 n → labels_of ks ≡ numbers 0 n
apart n ks h = rw h (numbers_stand n)

-- labels are a forest in which each part stands right under its root
pub labels_stand : (ps : List ℕ) → labels_of (labels_of ps) ≡ labels_of ps
labels_stand ps =
    let ls = labels_of ps in
    let size = length_labels_of ps in
    sym (are_labels ls ls refl (λ k h. let k_in : k < length ps = omega (arith, h, size) in
    let r = root_of ps k in
    let low = least ps k in
    let at : label_at ls k ≡ r = at_labels_of ps k k_in in
    let at_root : label_at ls r ≡ r = at_labels_of ps r (omega (arith, low, k_in)) ∙ own ps k in
    let stands : root_of ls r ≡ r = stop ls r 0 (omega (arith, low, h)) (omega (arith, at_root)) in
    at ∙ below r k
    (λ lower. sym (step ls k 0 h (omega (arith, at, lower)) ∙ ap (root_of ls) at ∙ stands))
    (λ here. let e : r ≡ k = omega (arith, low, here) in sym (ap (root_of ls) (sym e) ∙ stands))))

-- parts below n stand right under their roots, the others as they did
pub record Settled (ps qs : List ℕ) (n : ℕ) : Type 0 where
  pub size : length qs ≡ length ps
  pub front : (k : ℕ) → k < n → get_or qs k 0 ≡ root_of ps k
  pub back : (k : ℕ) → n ≤ k → get_or qs k 0 ≡ get_or ps k 0

put : (ps qs : List ℕ) (n x : ℕ) → Settled ps qs n → n < length qs → x ≡ root_of ps n → Settled ps (set qs n x) (n + 1)
put ps qs n x s h e = record {
  size = length-set qs n x ∙ s.size;
  front = λ k b. alike k n (λ q. ap (λ (i : ℕ). get_or (set qs n x) i 0) q ∙ get_or-set_same qs n x 0 h ∙ e ∙ ap (root_of ps) (sym q)) (λ q. get_or-set_other qs n k x 0 q ∙ s.front k (omega (arith, b, q)));
  back = λ k b. get_or-set_other qs n k x 0 (λ q. omega (arith, b, q)) ∙ s.back k (omega (arith, b));
}

pub put_under : (ps qs : List ℕ) (n : ℕ) → Settled ps qs n → n < length qs → get_or qs n 0 < n → Settled ps (set qs n (get_or qs (get_or qs n 0) 0)) (n + 1)
put_under ps qs n s h lower =
    let e : get_or qs n 0 ≡ get_or ps n 0 = s.back n (omega arith) in
    put ps qs n (get_or qs (get_or qs n 0) 0) s h (s.front (get_or qs n 0) lower ∙ ap (root_of ps) e ∙ sym (step ps n 0 (omega (arith, h, s.size)) (omega (arith, e, lower))))

pub put_itself : (ps qs : List ℕ) (n : ℕ) → Settled ps qs n → n < length qs → n ≤ get_or qs n 0 → Settled ps (set qs n n) (n + 1)
put_itself ps qs n s h stands =
    let e : get_or qs n 0 ≡ get_or ps n 0 = s.back n (omega arith) in
    put ps qs n n s h (sym (stop ps n 0 (omega (arith, h, s.size)) (omega (arith, e, stands))))

pub all_settled : (ps qs : List ℕ) (n : ℕ) → Settled ps qs n → length qs ≤ n → qs ≡ labels_of ps
all_settled ps qs n s h = are_labels ps qs s.size (λ k b. s.front k (omega (arith, h, b, s.size)))

pub same_labels : (ps qs : List ℕ) → qs ≡ labels_of ps → labels_of qs ≡ labels_of ps
same_labels ps qs e = ap labels_of e ∙ labels_stand ps

-- of a forest that is its labels
pub label_is_root : (ls : List ℕ) (k : ℕ) → labels_of ls ≡ ls → k < length ls → get_or ls k 0 ≡ root_of ls k
label_is_root ls k e h = ap (λ (ks : List ℕ). label_at ks k) (sym e) ∙ at_labels_of ls k h

pub label_few : (ls : List ℕ) (k : ℕ) → labels_of ls ≡ ls → k < length ls → get_or ls k 0 ≤ k
label_few ls k e h = let r = label_is_root ls k e h in let l = least ls k in omega (arith, r, l)

pub below_length : (ps ls : List ℕ) (k : ℕ) → labels_of ps ≡ ls → k < length ls → k < length ps
below_length ps ls k e h = let f = ap length e in let g = length_labels_of ps in omega (arith, f, g, h)
