-- The classes of parts with one more, which folds those into one whose parts it is joined to.
use Rattle.std.proofs.Common.{◌≡◌, ◌<◌, ℕ, zero, suc, Bool, true, not, cond, List, [], ◌∷◌, map, filter, length, refl, sym, ap, ◌∙◌, arith, count_by}
use Rattle.std.specs.Prelude.{Some, slice_get}
use Rattle.std.proofs.lemmas.List.{length-map}
use Rattle.std.proofs.lemmas.List.Sums.{sum_by-cons}
use Rattle.std.proofs.lemmas.Option.{slice_get_within}
use Rattle.shape_rules.specs.Classes.{distinct, holding, label_at, marked}
use Rattle.connection_rules.specs.NetParts.{Part}
use Rattle.connection_rules.specs.PartClasses.{are_joined, joins, part_labels}
use Rattle.part_classes.specs.Laws.{LabelsAreClasses}
use Rattle.part_classes.proofs.CountLaws.{holding_few, is_in}
use Rattle.part_classes.proofs.LabelLaws.{split}
use Rattle.net_queries.proofs.Parted.{joins_below}
use Rattle.class_laws.specs.OneMore.{AloneIsAClass, ClassesAreFew}
use Rattle.class_laws.proofs.Differences.{fails, folded, with_nothing}
use Rattle.class_laws.proofs.JoinedPairs.{JoinsKept, joined_turned, kept_respects, respects_kept}
use Rattle.class_laws.proofs.Marked.{all_marked, distinct_few, found_marked, holding_coarser, length_labels, marked_mapped, marked_there}

-- there are no more classes than parts
pub few : ClassesAreFew
few ps =
    let a = holding_few (map (λ (p : Part). p.is_pin) ps) (part_labels ps) in
    let b = distinct_few (part_labels ps) in
    let c = length_labels ps in
    (omega (arith, a, b, c), omega (arith, b, c))

-- the label of a part
abbrev pub label_of : List Part → ℕ → ℕ
label_of ps i = label_at (part_labels ps) i

-- the labels of parts that pass a test, of which there are as many as classes that hold one
abbrev pub labels_with : (Part → Bool) → List Part → List ℕ
labels_with test ps = marked (map test ps) (part_labels ps)

-- whether a part is joined to one with this label
abbrev pub is_near : Part → List Part → ℕ → Bool
is_near p ps l = is_in l (labels_with (are_joined p) ps)

pub all_labels : (ps : List Part) → labels_with (λ p. true) ps ≡ part_labels ps
all_labels ps = all_marked ps (part_labels ps) (length_labels ps)

mapped_at : (f : ℕ → ℕ) (ls : List ℕ) (i : ℕ) → i < length ls → label_at (map f ls) i ≡ f (label_at ls i)
mapped_at f [] i h = absurd (omega (arith, h))
mapped_at f (l ∷ ls) zero h = refl
mapped_at f (l ∷ ls) (suc i) h = mapped_at f ls i (omega (arith, h))

module _ (classes : LabelsAreClasses) where
  -- parts that are joined have one label,
  pub labels_kept : (ps : List Part) → JoinsKept (label_of ps) ps
  labels_kept ps i j a b one other t =
      (classes (length ps) (joins ps) (joins_below ps) i j (slice_get_within ps i a one) (slice_get_within ps j b other)).1 (λ m r. kept_respects m ps r i j a b one other t)

  -- and parts of one label have one by any labelling that gives each two that are joined one
  pub finest : (ps : List Part) (m : ℕ → ℕ) → JoinsKept m ps → (i j : ℕ) → i < length ps → j < length ps → label_of ps i ≡ label_of ps j → m i ≡ m j
  finest ps m kept i j a b h = (classes (length ps) (joins ps) (joins_below ps) i j a b).0 h m (respects_kept m ps kept)

  module _ (p : Part) (ps : List Part) where
    abbrev near : ℕ → Bool
    near = is_near p ps

    abbrev fold_near : ℕ → ℕ
    fold_near = folded near

    -- labels of the parts with the one in front
    abbrev with_first : ℕ → ℕ
    with_first zero = 0
    with_first (suc i) = fold_near (label_of ps i)

    -- it respects the joins,
    near_part : (i : ℕ) (q : Part) → slice_get ps i ≡ Some q → are_joined p q ≡ true → fold_near (label_of ps i) ≡ 0
    near_part i q at t = ap (λ b. cond b 0 (suc (label_of ps i))) (marked_there (are_joined p) ps (part_labels ps) i q (length_labels ps) at t)

    first_kept : JoinsKept with_first (p ∷ ps)
    first_kept zero zero a b one other t = refl
    first_kept zero (suc j) a b one other t = let e : a ≡ p = cc in sym (near_part j b other (ap (λ q. are_joined q b) (sym e) ∙ t))
    first_kept (suc i) zero a b one other t = let e : b ≡ p = cc in near_part i a one (ap (λ q. are_joined q a) (sym e) ∙ joined_turned b a ∙ t)
    first_kept (suc i) (suc j) a b one other t = ap fold_near (labels_kept ps i j a b one other t)

    -- and any that does parts no more
    later_kept : JoinsKept (λ i. label_of (p ∷ ps) (suc i)) ps
    later_kept i j a b one other t = labels_kept (p ∷ ps) (suc i) (suc j) a b one other t

    joined_first : (i : ℕ) → i < length ps → near (label_of ps i) ≡ true → label_of (p ∷ ps) (suc i) ≡ label_of (p ∷ ps) 0
    joined_first i h t =
        let f = found_marked (are_joined p) ps (part_labels ps) (label_of ps i) t in
        finest ps (λ i. label_of (p ∷ ps) (suc i)) later_kept i f.place h (slice_get_within ps f.place f.part f.at) (sym f.label)
        ∙ sym (labels_kept (p ∷ ps) 0 (suc f.place) p f.part refl f.at f.passes)

    is_nothing : (i : ℕ) → i < length ps → 0 ≡ fold_near (label_of ps i) → label_of (p ∷ ps) 0 ≡ label_of (p ∷ ps) (suc i)
    is_nothing i h e =
        split (near (label_of ps i))
        (λ t. sym (joined_first i h t))
        (λ t. let f = ap (λ b. cond b 0 (suc (label_of ps i))) t in absurd (omega (arith, e, f)))

    no_finer : (i j : ℕ) → i < suc (length ps) → j < suc (length ps) → with_first i ≡ with_first j → label_of (p ∷ ps) i ≡ label_of (p ∷ ps) j
    no_finer zero zero a b e = refl
    no_finer zero (suc j) a b e = is_nothing j (omega (arith, b)) e
    no_finer (suc i) zero a b e = sym (is_nothing i (omega (arith, a)) (sym e))
    no_finer (suc i) (suc j) a b e =
        let below : i < length ps = omega (arith, a) in
        let other : j < length ps = omega (arith, b) in
        split (near (label_of ps i))
        (λ t. let f = ap (λ b. cond b 0 (suc (label_of ps i))) t in
        joined_first i below t ∙ is_nothing j other (sym f ∙ e))
        (λ t. split (near (label_of ps j))
        (λ u. let f = ap (λ b. cond b 0 (suc (label_of ps j))) u in
        sym (is_nothing i below (sym (e ∙ f))) ∙ sym (joined_first j other u))
        (λ u. let f = ap (λ b. cond b 0 (suc (label_of ps i))) t in
        let g = ap (λ b. cond b 0 (suc (label_of ps j))) u in
        finest ps (λ i. label_of (p ∷ ps) (suc i)) later_kept i j below other (omega (arith, e, f, g))))

    first_at : (i : ℕ) → i < suc (length ps) → label_at (0 ∷ map fold_near (part_labels ps)) i ≡ with_first i
    first_at zero h = refl
    first_at (suc i) h = mapped_at fold_near (part_labels ps) i (let e = length_labels ps in omega (arith, h, e))

    -- where the one in front passes a test, there is its class, and those that it is not joined to
    pub one_more : (test : Part → Bool) → test p ≡ true → distinct (labels_with test (p ∷ ps)) ≡ suc (distinct (filter (fails near) (labels_with test ps)))
    one_more test t =
        let marks = map test (p ∷ ps) in
        let new = part_labels (p ∷ ps) in
        let old = 0 ∷ map fold_near (part_labels ps) in
        let count : length marks ≡ suc (length ps) = length-map (p ∷ ps) test in
        let size_new : length marks ≡ length new = count ∙ sym (length_labels (p ∷ ps)) in
        let size_old : length marks ≡ length old = count ∙ sym (ap suc (length-map (part_labels ps) fold_near ∙ length_labels ps)) in
        let a = holding_coarser marks new old size_new size_old
        (λ i j a b h. no_finer i j (omega (arith, a, count)) (omega (arith, b, count)) (sym (first_at i (omega (arith, a, count))) ∙ h ∙ first_at j (omega (arith, b, count)))) in
        let b = holding_coarser marks old new size_old size_new
        (λ i j a b h. first_at i (omega (arith, a, count))
        ∙ finest (p ∷ ps) with_first first_kept i j (omega (arith, a, count)) (omega (arith, b, count)) h
        ∙ sym (first_at j (omega (arith, b, count)))) in
        let same : holding marks new ≡ holding marks old = omega (arith, a, b) in
        let front : marked marks old ≡ 0 ∷ map fold_near (labels_with test ps) = rw t (ap (λ ks. 0 ∷ ks) (marked_mapped fold_near (map test ps) (part_labels ps))) in
        same ∙ ap distinct front ∙ with_nothing near (labels_with test ps)

-- a part that is joined to none
none_marked : (test : Part → Bool) (ps : List Part) (ls : List ℕ) → count_by test ps ≡ 0 → marked (map test ps) ls ≡ []
none_marked test ps [] h = refl
none_marked test [] (l ∷ ls) h = refl
none_marked test (p ∷ ps) (l ∷ ls) h =
    let s = sum_by-cons (λ q. cond (test q) 1 0) p ps in
    split (test p)
    (λ t. let e = ap (λ b. cond {A = ℕ} b 1 0) t in absurd (omega (arith, h, s, e)))
    (λ t. let r = none_marked test ps ls (omega (arith, h, s)) in rw t r)

all_left : (xs : List ℕ) → filter (λ k. true) xs ≡ xs
all_left [] = refl
all_left (x ∷ xs) = ap (λ ys. x ∷ ys) (all_left xs)

pub alone : LabelsAreClasses → AloneIsAClass
alone classes p ps is_pin none =
    let as_many : (test : Part → Bool) → test p ≡ true → distinct (labels_with test (p ∷ ps)) ≡ suc (distinct (labels_with test ps)) =
    λ test t. one_more classes p ps test t
    ∙ ap (λ ks. suc (distinct (filter (λ k. not (is_in k ks)) (labels_with test ps)))) (none_marked (are_joined p) ps (part_labels ps) none)
    ∙ ap (λ ks. suc (distinct ks)) (all_left (labels_with test ps)) in
    let pins = as_many (λ p. p.is_pin) is_pin in
    let all = sym (ap distinct (all_labels (p ∷ ps))) ∙ as_many (λ p. true) refl ∙ ap (λ ks. suc (distinct ks)) (all_labels ps) in
    record { classes = pins; floating = omega (arith, pins, all) }
