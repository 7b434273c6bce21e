-- The classes of parts in any order: parts that are labelled, in whatever order, show how many classes there are at least.
use Rattle.std.proofs.Common.{◌≡◌, ◌≤◌, ◌<◌, ◌+◌, ◌-◌, ℕ, zero, suc, Bool, true, false, ◌||◌, cond, List, [], ◌∷◌, ◌++◌, map, filter, length, get_or, set, refl, sym, ap, ap₂, subst, ◌∙◌, arith, sum_by}
use Rattle.std.specs.Prelude.{◌==◌, zip, IsPermutation}
use Rattle.std.specs.List.{list_any, swap}
use Rattle.std.specs.List.Sorted.{SwapsInRange, apply_swaps}
use Rattle.std.proofs.lemmas.List.{length-map, length-append, append_assoc, map-set}
use Rattle.std.proofs.lemmas.List.Sorted.{IsPermutation-sym, sum_by-IsPermutation}
use Rattle.std.proofs.lemmas.List.Sums.{sum_by-cons}
use Rattle.shape_rules.specs.Classes.{AreBelow, Respects, distinct, holding, label_at, labels, marked, numbers}
use Rattle.connection_rules.specs.NetParts.{Part}
use Rattle.connection_rules.specs.PartClasses.{joins, numbered, part_labels}
use Rattle.line_laws.specs.Lines.{SameThings}
use Rattle.part_classes.specs.Laws.{LabelsAreClasses}
use Rattle.part_classes.proofs.LabelLaws.{length_numbers}
use Rattle.net_queries.specs.PieceLaws.{PartsInAnyOrder}
use Rattle.net_queries.proofs.Joins.{length_joined, split}
use Rattle.net_queries.proofs.Sums.{any_none, crossed, crossed_mapped, crossed_things, none_any, sums_mapped, sums_none, sums_plus, sums_same, sums_tested}
use Rattle.net_queries.proofs.Parted.{between, between_joins, joins_below, joins_between, none_respects, respects_none}

abbrev is_in : ℕ → List ℕ → Bool
is_in x ls = list_any (λ k. k == x) ls

-- each number of a list is below another
abbrev EachBelow : ℕ → List ℕ → Type 0
EachBelow n [] = Unit {0}
EachBelow n (x ∷ xs) = (x < n) × EachBelow n xs

or_true : (b : Bool) → (b || true) ≡ true
or_true true = refl
or_true false = refl

-- different numbers, counted by the numbers that are there
none_below : (x a n : ℕ) → x < a → sum_by (λ k. cond (x == k) 1 0) (numbers a n) ≡ 0
unfolding numbers
none_below x a zero h = refl
none_below x a (suc n) h =
    let r = none_below x (suc a) n (omega (arith, h)) in
    let other : (x == a) ≡ false = split (x == a) (λ t. absurd (grind (arith, t, h))) (λ t. t) in
    let here = ap (λ b. cond {A = ℕ} b 1 0) other in
    omega (arith, r, here, sum_by-cons (λ k. cond (x == k) 1 0) a (numbers (suc a) n))

once_among : (x a n : ℕ) → a ≤ x → x < a + n → sum_by (λ k. cond (x == k) 1 0) (numbers a n) ≡ 1
unfolding numbers
once_among x a zero low high = absurd (omega (arith, low, high))
once_among x a (suc n) low high =
    let s = sum_by-cons (λ k. cond (x == k) 1 0) a (numbers (suc a) n) in
    split (x == a)
    (λ t. let e : x ≡ a = grind (arith, t) in
    let r = none_below x (suc a) n (omega (arith, e)) in
    let here = ap (λ b. cond {A = ℕ} b 1 0) t in
    omega (arith, s, r, here))
    (λ t. let r = once_among x (suc a) n (grind (arith, t, low)) (omega (arith, high)) in
    let here = ap (λ b. cond {A = ℕ} b 1 0) t in
    omega (arith, s, r, here))

distinct_counted : (n : ℕ) (xs : List ℕ) → EachBelow n xs → distinct xs ≡ sum_by (λ k. cond (is_in k xs) 1 0) (numbers 0 n)
unfolding distinct
distinct_counted n [] b = sym (sums_none (λ k. 0) (λ k. refl) (numbers 0 n))
distinct_counted n (x ∷ xs) b =
    let r = distinct_counted n xs b.1 in
    split (is_in x xs)
    (λ t. let count : distinct (x ∷ xs) ≡ distinct xs = ap (λ (q : Bool). cond q (distinct xs) (suc (distinct xs))) t in
    count ∙ r ∙ sums_same (λ k. cond (is_in k xs) 1 0) (λ k. cond ((x == k) || is_in k xs) 1 0)
    (λ k. split (x == k)
    (λ u. let e : x ≡ k = grind (arith, u) in
    let known : is_in k xs ≡ true = subst (λ j. is_in j xs ≡ true) e t in
    ap (λ q. cond {A = ℕ} q 1 0) known ∙ sym (ap (λ q. cond {A = ℕ} (q || is_in k xs) 1 0) u))
    (λ u. sym (ap (λ q. cond {A = ℕ} (q || is_in k xs) 1 0) u))) (numbers 0 n))
    (λ t. let count : distinct (x ∷ xs) ≡ suc (distinct xs) = ap (λ (q : Bool). cond q (distinct xs) (suc (distinct xs))) t in
    let one = once_among x 0 n (omega arith) (omega (arith, b.0)) in
    let both = sums_plus (λ k. cond (x == k) 1 0) (λ k. cond (is_in k xs) 1 0) (numbers 0 n) in
    let each = sums_same (λ k. cond (x == k) 1 0 + cond (is_in k xs) 1 0) (λ k. cond ((x == k) || is_in k xs) 1 0)
    (λ k. split (x == k)
    (λ u. let e : x ≡ k = grind (arith, u) in
    let new : is_in k xs ≡ false = subst (λ j. is_in j xs ≡ false) e t in
    ap₂ (λ p q. cond {A = ℕ} p 1 0 + cond {A = ℕ} q 1 0) u new ∙ sym (ap (λ q. cond {A = ℕ} (q || is_in k xs) 1 0) u))
    (λ u. ap (λ p. cond {A = ℕ} p 1 0 + cond {A = ℕ} (is_in k xs) 1 0) u ∙ omega arith ∙ sym (ap (λ q. cond {A = ℕ} (q || is_in k xs) 1 0) u))) (numbers 0 n) in
    omega (arith, count, r, one, both, each))

below_sum : (n : ℕ) (xs : List ℕ) → sum_by (λ k. k) xs < n → EachBelow n xs
below_sum n [] h = tt
below_sum n (x ∷ xs) h = let s = sum_by-cons (λ k. k) x xs in (omega (arith, s, h), below_sum n xs (omega (arith, s, h)))

in_things : (xs ys : List ℕ) → SameThings xs ys → (k : ℕ) → cond {A = ℕ} (is_in k xs) 1 0 ≡ cond {A = ℕ} (is_in k ys) 1 0
in_things xs ys same k =
    let sums = same.sums (λ x. cond (x == k) 1 0) in
    split (is_in k xs)
    (λ t. split (is_in k ys)
    (λ u. ap (λ q. cond {A = ℕ} q 1 0) t ∙ sym (ap (λ q. cond {A = ℕ} q 1 0) u))
    (λ u. let none = any_none (λ x. x == k) 1 ys (ap (λ q. cond {A = ℕ} q 1 0) u) in none_any (λ x. x == k) 1 xs (sums ∙ none) ∙ sym (ap (λ q. cond {A = ℕ} q 1 0) u)))
    (λ t. let none = any_none (λ x. x == k) 1 xs (ap (λ q. cond {A = ℕ} q 1 0) t) in ap (λ q. cond {A = ℕ} q 1 0) t ∙ sym (none_any (λ x. x == k) 1 ys (sym sums ∙ none)))

-- how many different ones there are doesn't depend on their order
distinct_things : (xs ys : List ℕ) → SameThings xs ys → distinct xs ≡ distinct ys
distinct_things xs ys same =
    let n = suc (sum_by (λ k. k) xs) in
    let sums = same.sums (λ k. k) in
    distinct_counted n xs (below_sum n xs (omega arith))
    ∙ sums_same (λ k. cond (is_in k xs) 1 0) (λ k. cond (is_in k ys) 1 0) (in_things xs ys same) (numbers 0 n)
    ∙ sym (distinct_counted n ys (below_sum n ys (omega (arith, sums))))

-- labels that part no more numbers have no more classes
module _ (n : ℕ) (f g : ℕ → ℕ) (coarser : (i j : ℕ) → i < n → j < n → g i ≡ g j → f i ≡ f j) where
  in_coarser : (x : ℕ) (is : List ℕ) → x < n → EachBelow n is → is_in (g x) (map g is) ≡ true → is_in (f x) (map f is) ≡ true
  in_coarser x [] a b h = absurd (cc)
  in_coarser x (i ∷ is) a b h =
      split (g i == g x)
      (λ t. let e : g i ≡ g x = grind (arith, t) in
      let same = coarser i x b.0 a e in
      let u : (f i == f x) ≡ true = grind (arith, same) in
      ap (λ q. q || is_in (f x) (map f is)) u)
      (λ t. ap (λ q. (f i == f x) || q) (in_coarser x is a b.1 (sym (ap (λ q. q || is_in (g x) (map g is)) t) ∙ h)) ∙ or_true (f i == f x))

  distinct_coarser : (is : List ℕ) → EachBelow n is → distinct (map f is) ≤ distinct (map g is)
  unfolding distinct
  distinct_coarser [] b = omega arith
  distinct_coarser (i ∷ is) b =
      let r = distinct_coarser is b.1 in
      let count : (k : ℕ → ℕ) (q : Bool) → is_in (k i) (map k is) ≡ q → distinct (map k (i ∷ is)) ≡ cond q (distinct (map k is)) (suc (distinct (map k is))) =
      λ k q t. ap (λ (q : Bool). cond q (distinct (map k is)) (suc (distinct (map k is)))) t in
      split (is_in (g i) (map g is))
      (λ t. let a = count f true (in_coarser i is b.0 b.1 t) in let c = count g true t in omega (arith, r, a, c))
      (λ t. let c = count g false t in
      split (is_in (f i) (map f is))
      (λ u. let a = count f true u in omega (arith, r, a, c))
      (λ u. let a = count f false u in omega (arith, r, a, c)))

-- the places of what is marked, of which the first is this one
abbrev places : ℕ → List Bool → List ℕ
places k [] = []
places k (true ∷ ms) = k ∷ places (suc k) ms
places k (false ∷ ms) = places (suc k) ms

places_below : (n k : ℕ) (marks : List Bool) → k + length marks ≤ n → EachBelow n (places k marks)
places_below n k [] h = tt
places_below n k (true ∷ ms) h = (omega (arith, h), places_below n (suc k) ms (omega (arith, h)))
places_below n k (false ∷ ms) h = places_below n (suc k) ms (omega (arith, h))

label_here : (before : List ℕ) (l : ℕ) (ls : List ℕ) → label_at (before ++ l ∷ ls) (length before) ≡ l
label_here [] l ls = refl
label_here (b ∷ bs) l ls = label_here bs l ls

one_longer : (before : List ℕ) (l : ℕ) → length (before ++ l ∷ []) ≡ suc (length before)
one_longer before l = length-append before (l ∷ []) ∙ omega arith

marked_places : (before ls : List ℕ) (marks : List Bool) → length marks ≡ length ls → marked marks ls ≡ map (label_at (before ++ ls)) (places (length before) marks)
marked_places before [] [] h = refl
marked_places before [] (m ∷ ms) h = absurd (omega (arith, h))
marked_places before (l ∷ ls) [] h = absurd (omega (arith, h))
marked_places before (l ∷ ls) (true ∷ ms) h =
    ap₂ (λ x xs. x ∷ xs) (sym (label_here before l ls))
    (marked_places (before ++ l ∷ []) ls ms (omega (arith, h)) ∙ ap₂ (λ xs k. map (label_at xs) (places k ms)) (append_assoc before (l ∷ []) ls) (one_longer before l))
marked_places before (l ∷ ls) (false ∷ ms) h =
    marked_places (before ++ l ∷ []) ls ms (omega (arith, h)) ∙ ap₂ (λ xs k. map (label_at xs) (places k ms)) (append_assoc before (l ∷ []) ls) (one_longer before l)

holding_coarser : (marks : List Bool) (ms ls : List ℕ) → length marks ≡ length ms → length marks ≡ length ls
    → ((i j : ℕ) → i < length marks → j < length marks → label_at ls i ≡ label_at ls j → label_at ms i ≡ label_at ms j) → holding marks ms ≤ holding marks ls
holding_coarser marks ms ls size_ms size_ls coarser =
    let a = ap distinct (marked_places [] ms marks size_ms) in
    let b = ap distinct (marked_places [] ls marks size_ls) in
    let r = distinct_coarser (length marks) (label_at ms) (label_at ls) coarser (places 0 marks) (places_below (length marks) 0 marks (omega arith)) in
    omega (arith, a, b, r)

-- labels of a list's parts, and the parts by their labels
label_parts : (before ms : List ℕ) (ps : List Part) → length ms ≡ length ps
    → map {B = ℕ × Part} (λ x. (label_at (before ++ ms) x.0, x.1)) (zip (numbers (length before) (length ps)) ps) ≡ zip ms ps
unfolding numbers
label_parts before [] [] h = refl
label_parts before [] (p ∷ ps) h = absurd (omega (arith, h))
label_parts before (m ∷ ms) [] h = absurd (omega (arith, h))
label_parts before (m ∷ ms) (p ∷ ps) h =
    ap₂ (λ (x : ℕ × Part) (xs : List (ℕ × Part)). x ∷ xs) (ap (λ (k : ℕ). (k, p)) (label_here before m ms))
    (sym (ap₂ (λ xs k. map {B = ℕ × Part} (λ x. (label_at xs x.0, x.1)) (zip (numbers k (length ps)) ps)) (append_assoc before (m ∷ []) ms) (one_longer before m))
    ∙ label_parts (before ++ m ∷ []) ms ps (omega (arith, h)))

-- how many pairs of parts touch that have two labels
abbrev conflicts : List (ℕ × Part) → ℕ
conflicts zs = crossed (between (λ k. k)) zs zs

conflicts_of : (ms : List ℕ) (ps : List Part) → length ms ≡ length ps → crossed (between (label_at ms)) (numbered ps) (numbered ps) ≡ conflicts (zip ms ps)
conflicts_of ms ps size =
    sym (crossed_mapped (between (λ k. k)) (λ (x : ℕ × Part). (label_at ms x.0, x.1)) (λ (x : ℕ × Part). (label_at ms x.0, x.1)) (numbered ps) (numbered ps))
    ∙ ap conflicts (label_parts [] ms ps size)

abbrev labels_in : List (ℕ × Part) → List ℕ
labels_in zs = map (λ z. z.0) zs

abbrev parts_in : List (ℕ × Part) → List Part
parts_in zs = map (λ z. z.1) zs

zipped : (zs : List (ℕ × Part)) → zip (labels_in zs) (parts_in zs) ≡ zs
zipped [] = refl
zipped (z ∷ zs) = ap (λ (xs : List (ℕ × Part)). z ∷ xs) (zipped zs)

labels_zipped : (ms : List ℕ) (ps : List Part) → length ms ≡ length ps → labels_in (zip ms ps) ≡ ms
labels_zipped [] [] h = refl
labels_zipped [] (p ∷ ps) h = refl
labels_zipped (m ∷ ms) [] h = absurd (omega (arith, h))
labels_zipped (m ∷ ms) (p ∷ ps) h = ap (λ xs. m ∷ xs) (labels_zipped ms ps (omega (arith, h)))

parts_zipped : (ms : List ℕ) (ps : List Part) → length ms ≡ length ps → parts_in (zip ms ps) ≡ ps
parts_zipped [] [] h = refl
parts_zipped [] (p ∷ ps) h = absurd (omega (arith, h))
parts_zipped (m ∷ ms) [] h = refl
parts_zipped (m ∷ ms) (p ∷ ps) h = ap (λ xs. p ∷ xs) (parts_zipped ms ps (omega (arith, h)))

length_labels : (ps : List Part) → length (part_labels ps) ≡ length ps
length_labels ps = length_joined (joins ps) (numbers 0 (length ps)) ∙ length_numbers 0 (length ps)

-- how many classes hold a part of some kind
abbrev classes_with : (Part → Bool) → List Part → ℕ
classes_with p ps = holding (map p ps) (part_labels ps)

module _ (classes : LabelsAreClasses) where
  respects_some : (n : ℕ) (es fs : List (ℕ × ℕ)) → AreBelow n es → AreBelow n fs → ((m : ℕ → ℕ) → Respects m es → Respects m fs) → Respects (label_at (labels n es)) fs
  respects_some n es [] below b sub = tt
  respects_some n es (f ∷ fs) below b sub = ((classes n es below f.0 f.1 b.0 b.1).1 (λ m r. (sub m r).0), respects_some n es fs below b.2 (λ m r. (sub m r).1))

  -- labels without conflicts, each with its part, in any order
  at_least : (p : Part → Bool) (zs : List (ℕ × Part)) → conflicts zs ≡ 0 → holding (map p (parts_in zs)) (labels_in zs) ≤ classes_with p (parts_in zs)
  at_least p zs none =
      let ms = labels_in zs in
      let ps = parts_in zs in
      let size : length ms ≡ length ps = length-map zs (λ (z : ℕ × Part). z.0) ∙ sym (length-map zs (λ (z : ℕ × Part). z.1)) in
      let marks = length-map ps p in
      let r = none_respects (label_at ms) (joins ps) (between_joins (label_at ms) ps (conflicts_of ms ps size ∙ ap conflicts (zipped zs) ∙ none)) in
      holding_coarser (map p ps) ms (part_labels ps) (marks ∙ sym size) (marks ∙ sym (length_labels ps))
      (λ i j a b h. (classes (length ps) (joins ps) (joins_below ps) i j (omega (arith, a, marks)) (omega (arith, b, marks))).0 h (label_at ms) r)

  own_conflicts : (ps : List Part) → conflicts (zip (part_labels ps) ps) ≡ 0
  own_conflicts ps =
      let r = respects_some (length ps) (joins ps) (joins ps) (joins_below ps) (joins_below ps) (λ m r. r) in
      sym (conflicts_of (part_labels ps) ps (length_labels ps)) ∙ joins_between (label_at (part_labels ps)) ps (respects_none (label_at (part_labels ps)) (joins ps) r)

-- exchanges of things are exchanges of what a function gives of them
read_mapped : {X Y : Type 0} (f : X → Y) (xs : List X) (i : ℕ) (d : X) → f (get_or xs i d) ≡ get_or (map f xs) i (f d)
read_mapped f [] i d = refl
read_mapped f (x ∷ xs) zero d = refl
read_mapped f (x ∷ xs) (suc i) d = read_mapped f xs i d

map_swap : {X Y : Type 0} (f : X → Y) (xs : List X) (i j : ℕ) → map f (swap xs i j) ≡ swap (map f xs) i j
map_swap f [] i j = refl
map_swap f (x ∷ xs) i j =
    map-set f (set (x ∷ xs) i (get_or (x ∷ xs) j x)) j (get_or (x ∷ xs) i x)
    ∙ ap₂ (λ ys y. set ys j y) (map-set f (x ∷ xs) i (get_or (x ∷ xs) j x) ∙ ap (λ y. set (map f (x ∷ xs)) i y) (read_mapped f (x ∷ xs) j x)) (read_mapped f (x ∷ xs) i x)

map_swaps : {X Y : Type 0} (f : X → Y) (xs : List X) (moves : List (ℕ × ℕ)) → map f (apply_swaps xs moves) ≡ apply_swaps (map f xs) moves
map_swaps f xs [] = refl
map_swaps f xs (e ∷ es) = map_swap f (apply_swaps xs es) e.0 e.1 ∙ ap (λ ys. swap ys e.0 e.1) (map_swaps f xs es)

marked_in : (p : Part → Bool) (zs : List (ℕ × Part)) → marked (map p (parts_in zs)) (labels_in zs) ≡ labels_in (filter (λ z. p z.1) zs)
marked_in p [] = refl
marked_in p (z ∷ zs) =
    split (p z.1)
    (λ t. rw t (ap (λ xs. z.0 ∷ xs) (marked_in p zs)))
    (λ t. rw t (marked_in p zs))

holding_things : (p : Part → Bool) (zs ws : List (ℕ × Part)) → SameThings zs ws → holding (map p (parts_in zs)) (labels_in zs) ≡ holding (map p (parts_in ws)) (labels_in ws)
holding_things p zs ws same =
    let sum : (w : ℕ → ℕ) (xs : List (ℕ × Part)) → sum_by w (labels_in (filter (λ z. p z.1) xs)) ≡ sum_by (λ z. cond (p z.1) (w z.0) 0) xs =
    λ w xs. sums_mapped w (λ (z : ℕ × Part). z.0) (filter (λ z. p z.1) xs) ∙ sums_tested (λ z. w z.0) (λ z. p z.1) xs in
    ap distinct (marked_in p zs)
    ∙ distinct_things (labels_in (filter (λ z. p z.1) zs)) (labels_in (filter (λ z. p z.1) ws))
    (record { sums = λ w. sum w zs ∙ same.sums (λ z. cond (p z.1) (w z.0) 0) ∙ sym (sum w ws) })
    ∙ sym (ap distinct (marked_in p ws))

no_more : LabelsAreClasses → (p : Part → Bool) (ps qs : List Part) → IsPermutation ps qs → classes_with p ps ≤ classes_with p qs
no_more classes p ps qs h =
    let ls = part_labels ps in
    let size = length_labels ps in
    let zs = zip ls ps in
    let ws = apply_swaps zs h.moves in
    let parts : parts_in zs ≡ ps = parts_zipped ls ps size in
    let count : length ps ≡ length zs = sym (ap length parts) ∙ length-map zs (λ (z : ℕ × Part). z.1) in
    let moved : IsPermutation zs ws = record { moves = h.moves; below = subst (λ n. SwapsInRange n h.moves) count h.below; is = refl } in
    let same : SameThings zs ws = record { sums = λ w. sym (sum_by-IsPermutation w zs ws moved) } in
    let others : parts_in ws ≡ qs = map_swaps (λ (z : ℕ × Part). z.1) zs h.moves ∙ ap (λ xs. apply_swaps xs h.moves) parts ∙ sym h.is in
    let least = at_least classes p ws (sym (crossed_things (between (λ k. k)) zs ws same) ∙ own_conflicts classes ps) in
    let before : holding (map p (parts_in zs)) (labels_in zs) ≡ classes_with p ps = ap₂ (λ xs ks. holding (map p xs) ks) parts (labels_zipped ls ps size) in
    let after = holding_things p zs ws same in
    let goal = ap (classes_with p) others in
    omega (arith, least, before, after, goal)

all_marked : (ps : List Part) (ls : List ℕ) → length ls ≡ length ps → marked (map (λ p. true) ps) ls ≡ ls
all_marked [] [] h = refl
all_marked [] (l ∷ ls) h = absurd (omega (arith, h))
all_marked (p ∷ ps) [] h = refl
all_marked (p ∷ ps) (l ∷ ls) h = ap (λ ks. l ∷ ks) (all_marked ps ls (omega (arith, h)))

pub parts_alike : LabelsAreClasses → PartsInAnyOrder
parts_alike classes ps qs h =
    let back = IsPermutation-sym ps qs h in
    let as_many : (p : Part → Bool) → classes_with p ps ≡ classes_with p qs =
    λ p. let a = no_more classes p ps qs h in let b = no_more classes p qs ps back in omega (arith, a, b) in
    let pins = as_many (λ p. p.is_pin) in
    let all = as_many (λ p. true) in
    let each : (xs : List Part) → classes_with (λ p. true) xs ≡ distinct (part_labels xs) = λ xs. ap distinct (all_marked xs (part_labels xs) (length_labels xs)) in
    let first = each ps in
    let second = each qs in
    record { classes = pins; floating = ap₂ (λ a b. a - b) (sym first ∙ all ∙ second) pins }
