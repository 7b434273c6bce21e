-- Loops that count classes.
use Rattle.std.proofs.Common.{◌≡◌, ◌≢◌, ◌≤◌, ◌<◌, ◌+◌, ℕ, zero, suc, Bool, true, false, cond, ◌||◌, List, [], ◌∷◌, ◌++◌, length, get_or, set, take, replicate, refl, sym, ap, ◌∙◌, arith}
use Rattle.std.specs.Prelude.{◌==◌}
use Rattle.std.proofs.lemmas.List.{take_more, get_or-take, length-take-le, get_or-set_same, get_or-set_other, length-set, length-replicate, take_all, append-nil}
use Rattle.std.proofs.lemmas.List.Folds.{list_any_at}
use Rattle.shape_rules.specs.Classes.{distinct, marked, holding}
use Rattle.part_classes.specs.Forest.{labels_of, root_of}
use Rattle.part_classes.proofs.LabelLaws.{split}
use Rattle.part_classes.proofs.CountLaws.{is_in, with_one, distinct_push, in_push, or_true, or_false}
use Rattle.part_classes.proofs.ForestLemmas.{label_is_root, label_few, own}

absent : (x : ℕ) (ls : List ℕ) → ((i : ℕ) → i < length ls → get_or ls i 0 ≢ x) → is_in x ls ≡ false
absent x [] h = refl
absent x (l ∷ ls) h =
    let here : (l == x) ≡ false = split (l == x) (λ t. absurd (h 0 (omega arith) (grind (arith, t)))) (λ t. t) in
    ap (λ (t : Bool). t || is_in x ls) here ∙ absent x ls (λ i b. h (suc i) (omega (arith, b)))

counted : (ls : List ℕ) (k : ℕ) (known : Bool) → k < length ls → is_in (get_or ls k 0) (take k ls) ≡ known → distinct (take (k + 1) ls) ≡ with_one known (distinct (take k ls))
counted ls k known h e = ap distinct (take_more ls k 0 h) ∙ distinct_push (take k ls) (get_or ls k 0) ∙ ap (λ (t : Bool). with_one t (distinct (take k ls))) e

-- a part that is its own label is the first of its class
pub first_of_class : (ls : List ℕ) (k : ℕ) → labels_of ls ≡ ls → k < length ls → get_or ls k 0 ≡ k → distinct (take (k + 1) ls) ≡ distinct (take k ls) + 1
first_of_class ls k e h own =
    let size = length-take-le k ls (omega (arith, h)) in
    let new : is_in (get_or ls k 0) (take k ls) ≡ false = absent (get_or ls k 0) (take k ls) (λ i b q.
    let at = get_or-take k ls i 0 (omega (arith, b, size)) in
    let few = label_few ls i e (omega (arith, b, size, h)) in
    omega (arith, at, few, q, own, b, size)) in
    let r = counted ls k false h new in
    omega (arith, r)

-- any other part comes after one of its class
pub later_of_class : (ls : List ℕ) (k : ℕ) → labels_of ls ≡ ls → k < length ls → get_or ls k 0 ≢ k → distinct (take (k + 1) ls) ≡ distinct (take k ls)
later_of_class ls k e h other =
    let size = length-take-le k ls (omega (arith, h)) in
    let few = label_few ls k e h in
    let l = get_or ls k 0 in
    let is_root = label_is_root ls k e h in
    let own_label : get_or ls l 0 ≡ l = label_is_root ls l e (omega (arith, few, h)) ∙ ap (root_of ls) is_root ∙ own ls k ∙ sym is_root in
    let at : get_or (take k ls) l 0 ≡ l = get_or-take k ls l 0 (omega (arith, few, other)) ∙ own_label in
    counted ls k true h (list_any_at (λ i. i == l) (take k ls) l 0 (omega (arith, few, other, size)) (grind (arith, at)))

marked_next : (marks : List Bool) (ls : List ℕ) (k : ℕ) → k < length marks → k < length ls → marked (take (suc k) marks) (take (suc k) ls) ≡ marked (take k marks) (take k ls) ++ cond (get_or marks k false) (get_or ls k 0 ∷ []) []
marked_next [] ls k a b = absurd (omega (arith, a))
marked_next (m ∷ marks) [] k a b = absurd (omega (arith, b))
marked_next (true ∷ marks) (l ∷ ls) zero a b = refl
marked_next (false ∷ marks) (l ∷ ls) zero a b = refl
marked_next (true ∷ marks) (l ∷ ls) (suc k) a b = ap (λ (ks : List ℕ). l ∷ ks) (marked_next marks ls k (omega (arith, a)) (omega (arith, b)))
marked_next (false ∷ marks) (l ∷ ls) (suc k) a b = marked_next marks ls k (omega (arith, a)) (omega (arith, b))

marked_more : (marks : List Bool) (ls : List ℕ) (k : ℕ) → k < length marks → k < length ls → marked (take (k + 1) marks) (take (k + 1) ls) ≡ marked (take k marks) (take k ls) ++ cond (get_or marks k false) (get_or ls k 0 ∷ []) []
marked_more marks ls k a b = let e : k + 1 ≡ suc k = omega arith in ap (λ (n : ℕ). marked (take n marks) (take n ls)) e ∙ marked_next marks ls k a b

-- how far the classes that hold a marked part are counted: of the parts below n
pub record Counted (marks : List Bool) (ls : List ℕ) (held : List Bool) (n count : ℕ) : Type 0 where
  pub size : length held ≡ length ls
  pub known : (x : ℕ) → get_or held x false ≡ is_in x (marked (take n marks) (take n ls))
  pub count_is : count ≡ distinct (marked (take n marks) (take n ls))
  pub few : count ≤ n

none : (n x : ℕ) → get_or (replicate n false) x false ≡ false
none zero x = refl
none (suc n) zero = refl
none (suc n) (suc x) = none n x

-- a number that is among them once more
kept : (x l : ℕ) (ls : List ℕ) → is_in l ls ≡ true → is_in x ls ≡ is_in x (ls ++ l ∷ [])
kept x l ls there =
    split (l == x)
    (λ t. let e : x ≡ l = grind (arith, t) in
    ap (λ (k : ℕ). is_in k ls) e ∙ there ∙ sym (in_push x l ls ∙ ap (λ (t : Bool). is_in x ls || t) t ∙ or_true (is_in x ls)))
    (λ t. sym (in_push x l ls ∙ ap (λ (t : Bool). is_in x ls || t) t ∙ or_false (is_in x ls)))

now_known : (x l : ℕ) (ls : List ℕ) (held : List Bool) → l < length held → get_or held x false ≡ is_in x ls → get_or (set held l true) x false ≡ is_in x (ls ++ l ∷ [])
now_known x l ls held within known =
    split (l == x)
    (λ t. let e : x ≡ l = grind (arith, t) in
    ap (λ (k : ℕ). get_or (set held l true) k false) e ∙ get_or-set_same held l true false within ∙ sym (in_push x l ls ∙ ap (λ (t : Bool). is_in x ls || t) t ∙ or_true (is_in x ls)))
    (λ t. get_or-set_other held l x true false (λ q. grind (arith, t, q)) ∙ known ∙ sym (in_push x l ls ∙ ap (λ (t : Bool). is_in x ls || t) t ∙ or_false (is_in x ls)))

pub none_counted : (marks : List Bool) (ls : List ℕ) → Counted marks ls (replicate (length ls) false) 0 0
unfolding distinct
none_counted marks ls = record {
  size = length-replicate (length ls) false;
  known = λ x. none (length ls) x;
  count_is = refl;
  few = omega arith;
}

pub unmarked : (marks : List Bool) (ls : List ℕ) (held : List Bool) (n count : ℕ) → Counted marks ls held n count → n < length marks → n < length ls → get_or marks n false ≡ false → Counted marks ls held (n + 1) count
unmarked marks ls held n count c a b m =
    let more = marked_more marks ls n a b ∙ ap (λ (t : Bool). marked (take n marks) (take n ls) ++ cond t (get_or ls n 0 ∷ []) []) m ∙ append-nil (marked (take n marks) (take n ls)) in
    record {
      size = c.size;
      known = λ x. c.known x ∙ sym (ap (is_in x) more);
      count_is = c.count_is ∙ sym (ap distinct more);
      few = omega (arith, c.few);
    }

with_marked : (marks : List Bool) (ls : List ℕ) (n : ℕ) → n < length marks → n < length ls → get_or marks n false ≡ true → marked (take (n + 1) marks) (take (n + 1) ls) ≡ marked (take n marks) (take n ls) ++ get_or ls n 0 ∷ []
with_marked marks ls n a b m = marked_more marks ls n a b ∙ ap (λ (t : Bool). marked (take n marks) (take n ls) ++ cond t (get_or ls n 0 ∷ []) []) m

pub held_before : (marks : List Bool) (ls : List ℕ) (held : List Bool) (n count : ℕ) → Counted marks ls held n count → n < length marks → n < length ls → get_or marks n false ≡ true → get_or held (get_or ls n 0) false ≡ true → Counted marks ls held (n + 1) count
held_before marks ls held n count c a b m h =
    let done = marked (take n marks) (take n ls) in
    let l = get_or ls n 0 in
    let more = with_marked marks ls n a b m in
    let there : is_in l done ≡ true = sym (c.known l) ∙ h in
    record {
      size = c.size;
      known = λ x. c.known x ∙ kept x l done there ∙ sym (ap (is_in x) more);
      count_is = c.count_is ∙ sym (ap distinct more ∙ distinct_push done l ∙ ap (λ (t : Bool). with_one t (distinct done)) there);
      few = omega (arith, c.few);
    }

pub first_held : (marks : List Bool) (ls : List ℕ) (held : List Bool) (n count : ℕ) → Counted marks ls held n count → n < length marks → n < length ls → get_or marks n false ≡ true → get_or ls n 0 < length held → get_or held (get_or ls n 0) false ≡ false → Counted marks ls (set held (get_or ls n 0) true) (n + 1) (count + 1)
first_held marks ls held n count c a b m within h =
    let done = marked (take n marks) (take n ls) in
    let l = get_or ls n 0 in
    let more = with_marked marks ls n a b m in
    let new : is_in l done ≡ false = sym (c.known l) ∙ h in
    let counted : distinct (done ++ l ∷ []) ≡ suc (distinct done) = distinct_push done l ∙ ap (λ (t : Bool). with_one t (distinct done)) new in
    let all = ap distinct more ∙ counted in
    record {
      size = length-set held l true ∙ c.size;
      known = λ x. now_known x l done held within (c.known x) ∙ sym (ap (is_in x) more);
      count_is = omega (arith, c.count_is, all);
      few = omega (arith, c.few);
    }

pub all_counted : (marks : List Bool) (ls : List ℕ) (held : List Bool) (n count : ℕ) → Counted marks ls held n count → length marks ≡ length ls → length ls ≤ n → count ≡ holding marks ls
all_counted marks ls held n count c size h =
    c.count_is ∙ ap (λ (ms : List Bool). distinct (marked ms (take n ls))) (take_all n marks (omega (arith, size, h))) ∙ ap (λ (ks : List ℕ). holding marks ks) (take_all n ls h)
