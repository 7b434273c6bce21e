-- Which labellings respect the joins of parts.
use Rattle.std.proofs.Common.{◌≡◌, ◌≤◌, ◌<◌, ◌+◌, ◌-◌, ℕ, suc, Bool, true, false, cond, ◌&&◌, List, [], ◌∷◌, ◌++◌, map, filter, length, refl, sym, ap, subst, ◌∙◌, arith, sum_by}
use Rattle.std.specs.Prelude.{◌==◌, zip}
use Rattle.std.specs.List.{flat_map, list_any}
use Rattle.std.proofs.lemmas.List.Sums.{sum_by-cons}
use Rattle.design_model.specs.Geometry.{Rectangle}
use Rattle.design_model.specs.declared.identifier.ShapeId.{ShapeId}
use Rattle.lef_grammar.specs.Measures.{Shape}
use Rattle.shape_rules.specs.Classes.{AreBelow, Respects, labels, numbers}
use Rattle.shape_rules.specs.Meeting.{meets, pairs_of}
use Rattle.connection_rules.specs.NetParts.{Part}
use Rattle.connection_rules.specs.PartClasses.{are_joined, joins, numbered, part_labels, touch}
use Rattle.line_laws.specs.Lines.{SameThings}
use Rattle.part_classes.specs.Laws.{OrderIsOpen}
use Rattle.shape_index.specs.declared.shape.Shape.{Shape as Stored}
use Rattle.net_queries.specs.Held.{HoldsParts, is_among, shape_of, shapes_from}
use Rattle.net_queries.specs.Joining.{JoinedBy, joins_of}
use Rattle.net_queries.proofs.Joins.{split}
use Rattle.net_queries.proofs.Sums.{any_none, both_none, crossed, crossed_mapped, crossed_of_each, crossed_same, crossed_things, crossed_turned, none_any, paired_twice, sums_mapped, sums_none, sums_of_each, sums_same, sums_tested}

-- 1 where a labelling parts two numbers
abbrev pub parted : (ℕ → ℕ) → ℕ → ℕ → ℕ
parted m i j = cond (m i == m j) 0 1

-- how many joins a labelling doesn't respect
abbrev pub parting : (ℕ → ℕ) → List (ℕ × ℕ) → ℕ
parting m es = sum_by (λ e. parted m e.0 e.1) es

same_parted : (m : ℕ → ℕ) (i j : ℕ) → m i ≡ m j → parted m i j ≡ 0
same_parted m i j h = let t : (m i == m j) ≡ true = grind (arith, h) in ap (λ b. cond {A = ℕ} b 0 1) t

parted_same : (m : ℕ → ℕ) (i j : ℕ) → parted m i j ≡ 0 → m i ≡ m j
parted_same m i j h = split (m i == m j) (λ t. grind (arith, t)) (λ t. absurd (omega (arith, h, ap (λ b. cond {A = ℕ} b 0 1) t)))

parted_turned : (m : ℕ → ℕ) (i j : ℕ) → parted m i j ≡ parted m j i
parted_turned m i j = split (m i == m j) (λ t. let e : m i ≡ m j = grind (arith, t) in same_parted m i j e ∙ sym (same_parted m j i (sym e))) (λ t. split (m j == m i) (λ u. let e : m j ≡ m i = grind (arith, u) in same_parted m i j (sym e) ∙ sym (same_parted m j i e)) (λ u. ap (λ b. cond {A = ℕ} b 0 1) t ∙ sym (ap (λ b. cond {A = ℕ} b 0 1) u)))

pub respects_none : (m : ℕ → ℕ) (es : List (ℕ × ℕ)) → Respects m es → parting m es ≡ 0
respects_none m [] r = refl
respects_none m (e ∷ es) r = let here = same_parted m e.0 e.1 r.0 in let later = respects_none m es r.1 in omega (arith, here, later, sum_by-cons (λ e. parted m e.0 e.1) e es)

pub none_respects : (m : ℕ → ℕ) (es : List (ℕ × ℕ)) → parting m es ≡ 0 → Respects m es
none_respects m [] h = tt
none_respects m (e ∷ es) h = let s = sum_by-cons (λ e. parted m e.0 e.1) e es in (parted_same m e.0 e.1 (omega (arith, h, s)), none_respects m es (omega (arith, h, s)))

and_turned : (a b : Bool) → (a && b) ≡ (b && a)
and_turned true true = refl
and_turned true false = refl
and_turned false true = refl
and_turned false false = refl

pub meets_turned : (a b : Rectangle) → meets a b ≡ meets b a
meets_turned a b = cc (and_turned _ _)

pub same_number_turned : (i j : ℕ) → (i == j) ≡ (j == i)
same_number_turned i j = split (i == j) (λ t. split (j == i) (λ u. t ∙ sym u) (λ u. absurd (grind (arith, t, u)))) (λ t. split (j == i) (λ u. absurd (grind (arith, t, u))) (λ u. t ∙ sym u))

pub touch_turned : (a b : Shape) → touch a b ≡ touch b a
touch_turned a b = ap (λ t. t && meets a.box b.box) (same_number_turned a.layer b.layer) ∙ ap (λ t. (b.layer == a.layer) && t) (meets_turned a.box b.box)

-- 1 where two shapes of parts touch whose numbers a labelling parts
abbrev pub apart : (ℕ → ℕ) → ℕ × Shape → ℕ × Shape → ℕ
apart m u v = cond (touch u.1 v.1) (parted m u.0 v.0) 0

-- how many pairs of shapes touch whose parts' numbers are parted
abbrev pub all_apart : (ℕ → ℕ) → List (ℕ × Shape) → ℕ
all_apart m us = crossed (apart m) us us

-- the joins that are found in a set
module _ (m : ℕ → ℕ) (first : ℕ) (parts : List Part) (entries : List (ShapeId × Stored)) (held : HoldsParts first parts entries) where
  among : ShapeId × Stored → Bool
  among e = is_among first (length parts) e.1.net

  tested_twice : (p q : Bool) (k : ℕ) → cond q (cond p k 0) 0 ≡ cond p (cond q k 0) 0
  tested_twice true true k = refl
  tested_twice true false k = refl
  tested_twice false true k = refl
  tested_twice false false k = refl

  found_for : (u : ℕ × Shape) → parting m (joins_of first (length parts) entries u) ≡ sum_by (apart m u) (shapes_from 0 parts)
  unfolding among
  found_for u =
      let touches : ShapeId × Stored → Bool = λ e. touch (shape_of e.1) u.1 in
      let part : ShapeId × Stored → ℕ = λ e. e.1.net - first in
      sums_mapped (λ e. parted m e.0 e.1) (λ (e : ShapeId × Stored). (u.0, part e)) (filter among (filter touches entries))
      ∙ sums_tested (λ e. parted m u.0 (part e)) among (filter touches entries)
      ∙ sums_tested (λ e. cond (among e) (parted m u.0 (part e)) 0) touches entries
      ∙ sums_same (λ e. cond (touches e) (cond (among e) (parted m u.0 (part e)) 0) 0) (λ e. cond (among e) (apart m u (part e, shape_of e.1)) 0)
      (λ e. tested_twice (among e) (touches e) (parted m u.0 (part e)) ∙ ap (λ t. cond (among e) (cond t (parted m u.0 (part e)) 0) 0) (touch_turned (shape_of e.1) u.1)) entries
      ∙ sym (sums_tested (λ e. apart m u (part e, shape_of e.1)) among entries)
      ∙ sym (sums_mapped (apart m u) (λ (e : ShapeId × Stored). (part e, shape_of e.1)) (filter among entries))
      ∙ held.same.sums (apart m u)

  pub found : parting m (flat_map (joins_of first (length parts) entries) (shapes_from 0 parts)) ≡ all_apart m (shapes_from 0 parts)
  found =
      sums_of_each (λ e. parted m e.0 e.1) (joins_of first (length parts) entries) (shapes_from 0 parts)
      ∙ sums_same (λ u. parting m (joins_of first (length parts) entries u)) (λ u. sum_by (apart m u) (shapes_from 0 parts)) found_for (shapes_from 0 parts)

-- the joins of the definition
abbrev own_shapes : ℕ × Part → List (ℕ × Shape)
own_shapes x = map (λ s. (x.0, s)) x.1.shapes

shapes_of_numbered : (n : ℕ) (parts : List Part) → shapes_from n parts ≡ flat_map own_shapes (zip (numbers n (length parts)) parts)
unfolding numbers
shapes_of_numbered n [] = refl
shapes_of_numbered n (p ∷ ps) = ap (λ us. own_shapes (n, p) ++ us) (shapes_of_numbered (suc n) ps)

module _ (m : ℕ → ℕ) where
  -- how many pairs of shapes of two parts touch, if they are parted
  abbrev pub between : ℕ × Part → ℕ × Part → ℕ
  between x y = crossed (λ s t. cond (touch s t) (parted m x.0 y.0) 0) x.1.shapes y.1.shapes

  between_turned : (x y : ℕ × Part) → between x y ≡ between y x
  between_turned x y =
      crossed_turned (λ s t. cond (touch s t) (parted m x.0 y.0) 0) x.1.shapes y.1.shapes
      ∙ crossed_same (λ t s. cond (touch s t) (parted m x.0 y.0) 0) (λ t s. cond (touch t s) (parted m y.0 x.0) 0)
      (λ t s. ap (λ b. cond b (parted m x.0 y.0) 0) (touch_turned s t) ∙ ap (λ k. cond (touch t s) k 0) (parted_turned m x.0 y.0)) y.1.shapes x.1.shapes

  nothing : (b : Bool) (k : ℕ) → k ≡ 0 → cond b k 0 ≡ 0
  nothing true k h = h
  nothing false k h = refl

  between_itself : (x : ℕ × Part) → between x x ≡ 0
  between_itself x = sums_none _ (λ s. sums_none _ (λ t. nothing (touch s t) (parted m x.0 x.0) (same_parted m x.0 x.0 refl)) x.1.shapes) x.1.shapes

  abbrev joined_parted : (ℕ × Part) × (ℕ × Part) → ℕ
  joined_parted p = cond (are_joined p.0.1 p.1.1) (parted m p.0.0 p.1.0) 0

  between_joined : (p : (ℕ × Part) × (ℕ × Part)) → between p.0 p.1 ≡ 0 → joined_parted p ≡ 0
  between_joined p h =
      let d = parted m p.0.0 p.1.0 in
      none_any (λ s. list_any (touch s) p.1.1.shapes) d p.0.1.shapes
      (both_none (λ s. sum_by (λ t. cond (touch s t) d 0) p.1.1.shapes) (λ s. cond (list_any (touch s) p.1.1.shapes) d 0) (λ s. none_any (touch s) d p.1.1.shapes) p.0.1.shapes h)

  joined_between : (p : (ℕ × Part) × (ℕ × Part)) → joined_parted p ≡ 0 → between p.0 p.1 ≡ 0
  joined_between p h =
      let d = parted m p.0.0 p.1.0 in
      both_none (λ s. cond (list_any (touch s) p.1.1.shapes) d 0) (λ s. sum_by (λ t. cond (touch s t) d 0) p.1.1.shapes) (λ s. any_none (touch s) d p.1.1.shapes) p.0.1.shapes
      (any_none (λ s. list_any (touch s) p.1.1.shapes) d p.0.1.shapes h)

  all_between : (parts : List Part) → all_apart m (shapes_from 0 parts) ≡ crossed between (numbered parts) (numbered parts)
  all_between parts =
      ap (λ us. all_apart m us) (shapes_of_numbered 0 parts)
      ∙ crossed_of_each (apart m) own_shapes (numbered parts) (numbered parts)
      ∙ crossed_same (λ x y. crossed (apart m) (own_shapes x) (own_shapes y)) between
      (λ x y. crossed_mapped (apart m) (λ s. (x.0, s)) (λ s. (y.0, s)) x.1.shapes y.1.shapes) (numbered parts) (numbered parts)

  joins_parted : (parts : List Part) → parting m (joins parts) ≡ sum_by joined_parted (pairs_of (numbered parts))
  joins_parted parts =
      sums_mapped (λ e. parted m e.0 e.1) (λ (p : (ℕ × Part) × (ℕ × Part)). (p.0.0, p.1.0)) (filter (λ p. are_joined p.0.1 p.1.1) (pairs_of (numbered parts)))
      ∙ sums_tested (λ p. parted m p.0.0 p.1.0) (λ p. are_joined p.0.1 p.1.1) (pairs_of (numbered parts))

  pub between_joins : (parts : List Part) → crossed between (numbered parts) (numbered parts) ≡ 0 → parting m (joins parts) ≡ 0
  between_joins parts h =
      let twice = paired_twice between between_turned between_itself (numbered parts) in
      joins_parted parts ∙ both_none (λ p. between p.0 p.1) joined_parted between_joined (pairs_of (numbered parts)) (omega (arith, twice, h))

  pub joins_between : (parts : List Part) → parting m (joins parts) ≡ 0 → crossed between (numbered parts) (numbered parts) ≡ 0
  joins_between parts h =
      let twice = paired_twice between between_turned between_itself (numbered parts) in
      let pairs = both_none joined_parted (λ p. between p.0 p.1) joined_between (pairs_of (numbered parts)) (sym (joins_parted parts) ∙ h) in
      omega (arith, twice, pairs)

  pub apart_joins : (parts : List Part) → all_apart m (shapes_from 0 parts) ≡ 0 → parting m (joins parts) ≡ 0
  apart_joins parts h = between_joins parts (sym (all_between parts) ∙ h)

  pub joins_apart : (parts : List Part) → parting m (joins parts) ≡ 0 → all_apart m (shapes_from 0 parts) ≡ 0
  joins_apart parts h = all_between parts ∙ joins_between parts h

-- the numbers of the parts are below their count
abbrev EachBelow : ℕ → List (ℕ × Part) → Type 0
EachBelow n [] = Unit {0}
EachBelow n (x ∷ xs) = (x.0 < n) × EachBelow n xs

numbered_below : (n k : ℕ) (parts : List Part) → k + length parts ≤ n → EachBelow n (zip (numbers k (length parts)) parts)
unfolding numbers
numbered_below n k [] h = tt
numbered_below n k (p ∷ ps) h = (omega (arith, h), numbered_below n (suc k) ps (omega (arith, h)))

abbrev JoinTest : Type 0
JoinTest = (ℕ × Part) × (ℕ × Part) → Bool

abbrev ends : (ℕ × Part) × (ℕ × Part) → ℕ × ℕ
ends p = (p.0.0, p.1.0)

with_below : (n : ℕ) (test : JoinTest) (x : ℕ × Part) (ys : List (ℕ × Part)) → x.0 < n → EachBelow n ys → (ps : List ((ℕ × Part) × (ℕ × Part))) → AreBelow n (map ends (filter test ps)) → AreBelow n (map ends (filter test (map (λ y. (x, y)) ys ++ ps)))
with_below n test x [] a b ps c = c
with_below n test x (y ∷ ys) a b ps c =
    let later = with_below n test x ys a b.1 ps c in
    split (test (x, y)) (λ t. rw t (a, b.0, later)) (λ t. rw t later)

pairs_below : (n : ℕ) (test : JoinTest) (xs : List (ℕ × Part)) → EachBelow n xs → AreBelow n (map ends (filter test (pairs_of xs)))
pairs_below n test [] b = tt
pairs_below n test (x ∷ xs) b = with_below n test x xs b.0 b.1 (pairs_of xs) (pairs_below n test xs b.1)

pub joins_below : (parts : List Part) → AreBelow (length parts) (joins parts)
joins_below parts = pairs_below (length parts) (λ p. are_joined p.0.1 p.1.1) (numbered parts) (numbered_below (length parts) 0 parts (omega arith))

pub labels_found : OrderIsOpen → (first : ℕ) (parts : List Part) (entries : List (ShapeId × Stored)) (after : List ℕ) → HoldsParts first parts entries
    → JoinedBy (numbers 0 (length parts)) (flat_map (joins_of first (length parts) entries) (shapes_from 0 parts)) after → length (numbers 0 (length parts)) ≡ length parts → after ≡ part_labels parts
labels_found law first parts entries after held j size =
    j.labels
    ∙ law (length parts) j.joins (joins parts) (subst (λ n. AreBelow n j.joins) size j.below) (joins_below parts)
    (λ m.
    let same = j.same.sums (λ e. parted m e.0 e.1) in
    let all = found m first parts entries held in (
      λ r. let none = respects_none m j.joins r in none_respects m (joins parts) (apart_joins m parts (omega (arith, none, same, all))),
      λ r. let none = joins_apart m parts (respects_none m (joins parts) r) in none_respects m j.joins (omega (arith, none, same, all)),
    ))

pub labels_same : OrderIsOpen → (ps qs : List Part) → length ps ≡ length qs → SameThings (shapes_from 0 ps) (shapes_from 0 qs) → part_labels ps ≡ part_labels qs
labels_same law ps qs size same =
    ap (λ n. labels n (joins ps)) size
    ∙ law (length qs) (joins ps) (joins qs) (subst (λ n. AreBelow n (joins ps)) size (joins_below ps)) (joins_below qs)
    (λ m.
    let all = crossed_things (apart m) (shapes_from 0 ps) (shapes_from 0 qs) same in (
      λ r. none_respects m (joins qs) (apart_joins m qs (let none = joins_apart m ps (respects_none m (joins ps) r) in omega (arith, none, all))),
      λ r. none_respects m (joins ps) (apart_joins m ps (let none = joins_apart m qs (respects_none m (joins qs) r) in omega (arith, none, all))),
    ))
