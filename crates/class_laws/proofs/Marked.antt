-- Labels of parts that are marked: where each stands, and how many there are by labels that part less.
use Rattle.std.proofs.Common.{◌≡◌, ◌≤◌, ◌<◌, ◌+◌, ℕ, zero, suc, Bool, true, false, ◌||◌, List, [], ◌∷◌, ◌++◌, map, length, refl, sym, ap, ap₂, ◌∙◌, arith}
use Rattle.std.specs.Prelude.{◌==◌, Some, slice_get}
use Rattle.std.proofs.lemmas.List.{append_assoc, length-append}
use Rattle.shape_rules.specs.Classes.{distinct, holding, label_at, marked, numbers}
use Rattle.connection_rules.specs.NetParts.{Part}
use Rattle.connection_rules.specs.PartClasses.{joins, part_labels}
use Rattle.part_classes.proofs.CountLaws.{is_in, or_true, with_one}
use Rattle.part_classes.proofs.LabelLaws.{length_numbers, split}
use Rattle.net_queries.proofs.Joins.{length_joined}
use Rattle.class_laws.proofs.Differences.{itself}

pub length_labels : (ps : List Part) → length (part_labels ps) ≡ length ps
length_labels ps = length_joined (joins ps) (numbers 0 (length ps)) ∙ length_numbers 0 (length ps)

pub distinct_few : (ls : List ℕ) → distinct ls ≤ length ls
unfolding distinct
distinct_few [] = omega arith
distinct_few (l ∷ ls) =
    let r = distinct_few ls in
    split (is_in l ls)
    (λ t. let e : distinct (l ∷ ls) ≡ distinct ls = ap (λ b. with_one b (distinct ls)) t in omega (arith, e, r))
    (λ t. let e : distinct (l ∷ ls) ≡ suc (distinct ls) = ap (λ b. with_one b (distinct ls)) t in omega (arith, e, r))

-- where all are marked, these are all labels
pub all_marked : (ps : List Part) (ls : List ℕ) → length ls ≡ length ps → marked (map (λ p. true) ps) ls ≡ ls
all_marked [] [] h = refl
all_marked [] (l ∷ ls) h = absurd (omega (arith, h))
all_marked (p ∷ ps) [] h = refl
all_marked (p ∷ ps) (l ∷ ls) h = ap (λ ks. l ∷ ks) (all_marked ps ls (omega (arith, h)))

pub marked_mapped : (f : ℕ → ℕ) (marks : List Bool) (ls : List ℕ) → marked marks (map f ls) ≡ map f (marked marks ls)
marked_mapped f marks [] = refl
marked_mapped f [] (l ∷ ls) = refl
marked_mapped f (true ∷ marks) (l ∷ ls) = ap (λ ks. f l ∷ ks) (marked_mapped f marks ls)
marked_mapped f (false ∷ marks) (l ∷ ls) = marked_mapped f marks ls

-- a part that passes a test and has this label
pub record HasLabel (test : Part → Bool) (ps : List Part) (ls : List ℕ) (k : ℕ) : Type 0 where
  pub place : ℕ
  pub part : Part
  pub at : slice_get ps place ≡ Some part
  pub passes : test part ≡ true
  pub label : label_at ls place ≡ k

one_on : (test : Part → Bool) (p : Part) (ps : List Part) (l : ℕ) (ls : List ℕ) (k : ℕ) → HasLabel test ps ls k → HasLabel test (p ∷ ps) (l ∷ ls) k
one_on test p ps l ls k h = record { place = suc h.place; part = h.part; at = h.at; passes = h.passes; label = h.label }

-- a label of a marked part is of one that passes,
pub found_marked : (test : Part → Bool) (ps : List Part) (ls : List ℕ) (k : ℕ) → is_in k (marked (map test ps) ls) ≡ true → HasLabel test ps ls k
found_marked test ps [] k h = absurd (cc)
found_marked test [] (l ∷ ls) k h = absurd (cc)
found_marked test (p ∷ ps) (l ∷ ls) k h =
    split (test p)
    (λ t. let g = rw t at h in
    split (l == k)
    (λ u. record { place = 0; part = p; at = refl; passes = t; label = grind (arith, u) })
    (λ u. one_on test p ps l ls k (found_marked test ps ls k (rw u at g))))
    (λ t. one_on test p ps l ls k (found_marked test ps ls k (rw t at h)))

-- and the other way
pub marked_there : (test : Part → Bool) (ps : List Part) (ls : List ℕ) (i : ℕ) (q : Part) → length ls ≡ length ps
    → slice_get ps i ≡ Some q → test q ≡ true → is_in (label_at ls i) (marked (map test ps) ls) ≡ true
marked_there test [] ls i q size at t = absurd (cc)
marked_there test (p ∷ ps) [] i q size at t = absurd (omega (arith, size))
marked_there test (p ∷ ps) (l ∷ ls) zero q size at t =
    let e : p ≡ q = cc in
    let u : test p ≡ true = ap test e ∙ t in
    rw u (ap (λ b. b || is_in l (marked (map test ps) ls)) (itself l))
marked_there test (p ∷ ps) (l ∷ ls) (suc i) q size at t =
    let r = marked_there test ps ls i q (omega (arith, size)) at t in
    split (test p)
    (λ u. rw u (ap (λ b. (l == label_at ls i) || b) r ∙ or_true (l == label_at ls i)))
    (λ u. rw u r)

-- numbers of a list below another
abbrev EachBelow : ℕ → List ℕ → Type 0
EachBelow n [] = Unit {0}
EachBelow n (x ∷ xs) = (x < n) × EachBelow n xs

-- labels that part no more numbers have no more classes
module _ (n : ℕ) (f g : ℕ → ℕ) (coarser : (i j : ℕ) → i < n → j < n → g i ≡ g j → f i ≡ f j) where
  in_coarser : (x : ℕ) (is : List ℕ) → x < n → EachBelow n is → is_in (g x) (map g is) ≡ true → is_in (f x) (map f is) ≡ true
  in_coarser x [] a b h = absurd (cc)
  in_coarser x (i ∷ is) a b h =
      split (g i == g x)
      (λ t. let e : g i ≡ g x = grind (arith, t) in
      let same = coarser i x b.0 a e in
      let u : (f i == f x) ≡ true = grind (arith, same) in
      ap (λ q. q || is_in (f x) (map f is)) u)
      (λ t. ap (λ q. (f i == f x) || q) (in_coarser x is a b.1 (sym (ap (λ q. q || is_in (g x) (map g is)) t) ∙ h)) ∙ or_true (f i == f x))

  distinct_coarser : (is : List ℕ) → EachBelow n is → distinct (map f is) ≤ distinct (map g is)
  unfolding distinct
  distinct_coarser [] b = omega arith
  distinct_coarser (i ∷ is) b =
      let r = distinct_coarser is b.1 in
      let count : (k : ℕ → ℕ) (q : Bool) → is_in (k i) (map k is) ≡ q → distinct (map k (i ∷ is)) ≡ with_one q (distinct (map k is)) =
      λ k q t. ap (λ (q : Bool). with_one q (distinct (map k is))) t in
      split (is_in (g i) (map g is))
      (λ t. let a = count f true (in_coarser i is b.0 b.1 t) in let c = count g true t in omega (arith, r, a, c))
      (λ t. let c = count g false t in
      split (is_in (f i) (map f is))
      (λ u. let a = count f true u in omega (arith, r, a, c))
      (λ u. let a = count f false u in omega (arith, r, a, c)))

-- the places of what is marked, of which the first is this one
abbrev places : ℕ → List Bool → List ℕ
places k [] = []
places k (true ∷ ms) = k ∷ places (suc k) ms
places k (false ∷ ms) = places (suc k) ms

places_below : (n k : ℕ) (marks : List Bool) → k + length marks ≤ n → EachBelow n (places k marks)
places_below n k [] h = tt
places_below n k (true ∷ ms) h = (omega (arith, h), places_below n (suc k) ms (omega (arith, h)))
places_below n k (false ∷ ms) h = places_below n (suc k) ms (omega (arith, h))

label_here : (before : List ℕ) (l : ℕ) (ls : List ℕ) → label_at (before ++ l ∷ ls) (length before) ≡ l
label_here [] l ls = refl
label_here (b ∷ bs) l ls = label_here bs l ls

one_longer : (before : List ℕ) (l : ℕ) → length (before ++ l ∷ []) ≡ suc (length before)
one_longer before l = length-append before (l ∷ []) ∙ omega arith

marked_places : (before ls : List ℕ) (marks : List Bool) → length marks ≡ length ls → marked marks ls ≡ map (label_at (before ++ ls)) (places (length before) marks)
marked_places before [] [] h = refl
marked_places before [] (m ∷ ms) h = absurd (omega (arith, h))
marked_places before (l ∷ ls) [] h = absurd (omega (arith, h))
marked_places before (l ∷ ls) (true ∷ ms) h =
    ap₂ (λ x xs. x ∷ xs) (sym (label_here before l ls))
    (marked_places (before ++ l ∷ []) ls ms (omega (arith, h)) ∙ ap₂ (λ xs k. map (label_at xs) (places k ms)) (append_assoc before (l ∷ []) ls) (one_longer before l))
marked_places before (l ∷ ls) (false ∷ ms) h =
    marked_places (before ++ l ∷ []) ls ms (omega (arith, h)) ∙ ap₂ (λ xs k. map (label_at xs) (places k ms)) (append_assoc before (l ∷ []) ls) (one_longer before l)

pub holding_coarser : (marks : List Bool) (ms ls : List ℕ) → length marks ≡ length ms → length marks ≡ length ls
    → ((i j : ℕ) → i < length marks → j < length marks → label_at ls i ≡ label_at ls j → label_at ms i ≡ label_at ms j) → holding marks ms ≤ holding marks ls
holding_coarser marks ms ls size_ms size_ls coarser =
    let a = ap distinct (marked_places [] ms marks size_ms) in
    let b = ap distinct (marked_places [] ls marks size_ls) in
    let r = distinct_coarser (length marks) (label_at ms) (label_at ls) coarser (places 0 marks) (places_below (length marks) 0 marks (omega arith)) in
    omega (arith, a, b, r)
