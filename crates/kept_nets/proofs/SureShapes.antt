-- How many shapes of parts are near themselves, and how many are near each other.
use Rattle.std.proofs.Common.{◌≡◌, ◌∙◌, ◌<◌, ◌≤◌, ◌+◌, ◌-◌, ℕ, Bool, true, false, cond, List, [], ◌∷◌, ◌++◌, refl, sym, ap, arith, drop, get_or, length, map, sum_by}
use Rattle.std.specs.List.{swap_remove}
use Rattle.std.proofs.lemmas.List.{drop_more}
use Rattle.std.proofs.lemmas.List.Sums.{sum_by-append, sum_by-cons}
use Rattle.lef_grammar.specs.Measures.{Shape}
use Rattle.connection_rules.specs.NetParts.{Part}
use Rattle.line_laws.specs.Lines.{SameThings}
use Rattle.net_lists.specs.PartCuts.{shape_view}
use Rattle.net_lists.specs.declared.parts.NetShape.{NetShape}
use Rattle.shape_index.specs.Near.{near_shape, near_shapes}
use Rattle.kept_nets.specs.NearParts.{is_near_itself, near_in_parts, near_one, near_themselves}
use Rattle.kept_nets.specs.Parts.{part_view, shapes_in}
use Rattle.kept_nets.specs.declared.part.KeptPart.{KeptPart}
use Rattle.kept_nets.proofs.Taken.{swapped}

-- one by one
pub next_summed : {X : Type 0} (w : X → ℕ) (xs : List X) (i : ℕ) (x : X) (now one next all : ℕ) → i < length xs → x ≡ get_or xs i x → one ≤ w x → next ≤ now + one → now + sum_by w (drop i xs) ≤ all
    → next + sum_by w (drop (i + 1) xs) ≤ all
next_summed w xs i x now one next all below is few step h =
    let left = ap (sum_by w) (drop_more xs i x below ∙ ap (λ y. y ∷ drop (i + 1) xs) (sym is)) in
    omega (arith, left, few, step, h, sum_by-cons w x (drop (i + 1) xs))

abbrev pub weigh : NetShape → ℕ
weigh s = near_one (shape_view s)

same_weight : (ss : List NetShape) → sum_by weigh ss ≡ sum_by near_one (map shape_view ss)
same_weight [] = refl
same_weight (s ∷ ss) = let later = same_weight ss in omega (arith, later, sum_by-cons weigh s ss, sum_by-cons near_one (shape_view s) (map shape_view ss))

-- one part before others
pub one_more : (p : Part) (ps : List Part) → near_themselves (p ∷ ps) ≡ near_themselves (p ∷ []) + near_themselves ps
one_more p ps = omega (arith, sum_by-append near_one p.shapes (shapes_in ps), sum_by-append near_one p.shapes [])

pub in_part : {A : Type 0} (part : KeptPart A) → sum_by weigh part.shapes.items ≡ near_themselves (part_view part ∷ [])
in_part part = let same = same_weight part.shapes.items in omega (arith, same, sum_by-append near_one (part_view part).shapes [])

abbrev pub own_weight : {A : Type 0} → KeptPart A → ℕ
own_weight p = near_themselves (part_view p ∷ [])

pub in_parts : {A : Type 0} (parts : List (KeptPart A)) → sum_by own_weight parts ≡ near_themselves (map part_view parts)
in_parts [] = refl
in_parts (p ∷ parts) =
    let later = in_parts parts in
    omega (arith, later, one_more (part_view p) (map part_view parts), sum_by-cons own_weight p parts)

-- in another order
by_parts : (ps : List Part) → near_themselves ps ≡ sum_by (λ (p : Part). near_themselves (p ∷ [])) ps
by_parts [] = refl
by_parts (p ∷ ps) = let later = by_parts ps in omega (arith, later, one_more p ps, sum_by-cons (λ (q : Part). near_themselves (q ∷ [])) p ps)

pub as_many : (ps qs : List Part) → SameThings ps qs → near_themselves ps ≡ near_themselves qs
as_many ps qs h = by_parts ps ∙ h.sums (λ (p : Part). near_themselves (p ∷ [])) ∙ sym (by_parts qs)

-- no more than all shapes
at_most_one : (b : Bool) → cond {A = ℕ} b 1 0 ≤ 1
at_most_one true = omega arith
at_most_one false = omega arith

weigh_few : (ss : List NetShape) → sum_by weigh ss ≤ length ss
weigh_few [] = omega arith
weigh_few (s ∷ ss) =
    let later = weigh_few ss in
    let here = at_most_one (is_near_itself (shape_view s)) in
    omega (arith, later, here, sum_by-cons weigh s ss)

-- what is left once a part is gone, and what there is once one came
fewer : {A : Type 0} (part : KeptPart A) (ps qs : List Part) (sure less : ℕ) → SameThings ps (part_view part ∷ qs) → sure ≤ near_themselves ps → less ≤ sure - length part.shapes.items → less ≤ near_themselves qs
fewer part ps qs sure less same h is =
    let own = in_part part in
    let few = weigh_few part.shapes.items in
    let all = as_many ps (part_view part ∷ qs) same in
    omega (arith, own, few, all, h, is, one_more (part_view part) qs)

pub more : (p : Part) (ps qs : List Part) (sure own all : ℕ) → SameThings qs (p ∷ ps) → sure ≤ near_themselves ps → own ≤ near_themselves (p ∷ []) → all ≤ sure + own → all ≤ near_themselves qs
more p ps qs sure own all same h few is =
    let both = as_many qs (p ∷ ps) same in
    omega (arith, both, h, few, is, one_more p ps)

-- no more are near themselves than are near each other
near_both : (s : Shape) (xs ys : List Shape) → near_shapes s (xs ++ ys) ≡ near_shapes s xs + near_shapes s ys
near_both s xs ys = sum_by-append (λ (t : Shape). cond (near_shape s t) 1 0) xs ys

itself_among : (xs before : List Shape) → sum_by near_one xs ≤ sum_by (λ (s : Shape). near_shapes s (before ++ xs)) xs
itself_among [] before = omega arith
itself_among (x ∷ xs) before =
    let later = itself_among xs (before ++ x ∷ []) in
    let group = ap (λ (l : List Shape). sum_by (λ (s : Shape). near_shapes s l) xs) (regroup x xs before) in
    let own = sum_by-cons (λ (t : Shape). cond {A = ℕ} (near_shape x t) 1 0) x xs in
    omega (arith, later, group, own, near_both x before (x ∷ xs), sum_by-cons near_one x xs, sum_by-cons (λ (s : Shape). near_shapes s (before ++ x ∷ xs)) x xs)
  where
    regroup : (x : Shape) (xs before : List Shape) → (before ++ x ∷ []) ++ xs ≡ before ++ x ∷ xs
    regroup x xs [] = refl
    regroup x xs (b ∷ before) = ap (λ (l : List Shape). b ∷ l) (regroup x xs before)

pub near_each_other : (ps : List Part) (sure : ℕ) → sure ≤ near_themselves ps → sure ≤ near_in_parts ps
near_each_other ps sure h = let all = itself_among (shapes_in ps) [] in omega (arith, h, all)

-- one of the parts is taken out, and the last takes its place
pub sure_left : {A : Type 0} (old new : List (KeptPart A)) (i : ℕ) (gone : KeptPart A) (sure less : ℕ) → i < length old → gone ≡ get_or old i gone → new ≡ swap_remove old i gone
    → sure ≤ near_themselves (map part_view old) → less ≤ sure - length gone.shapes.items → less ≤ near_themselves (map part_view new)
sure_left old new i gone sure less below at left h is =
    rw (left) (fewer gone (map part_view old) (map part_view (swap_remove old i gone)) sure less (swapped part_view old i gone (part_view gone) below at refl) h is)
