-- The steps of joining the parts of a net: another shape of the set, of a part, and another part.
use Rattle.std.proofs.Common.{◌≡◌, ◌≤◌, ◌<◌, ◌+◌, ◌-◌, ◌^◌, ℕ, suc, add-one, min, Bool, true, ◌&&◌, cond, List, [], ◌∷◌, ◌++◌, map, filter, length, take, drop, get_or, refl, sym, ap, subst, ◌∙◌, arith, sum_by}
use Rattle.std.specs.Prelude.{nat_lt, if◌then◌else◌}
use Rattle.std.specs.List.{flat_map}
use Rattle.std.proofs.lemmas.List.{append-nil, append_assoc, drop_all, drop_more, length-drop, map-append, take_all, take_more}
use Rattle.std.proofs.lemmas.List.Sums.{sum_by-drop_more, sum_by-take-drop, sum_by-take-le, sum_by_more}
use Rattle.design_model.specs.declared.identifier.ShapeId.{ShapeId}
use Rattle.lef_grammar.specs.Measures.{Shape}
use Rattle.shape_rules.specs.Classes.{joined}
use Rattle.line_laws.specs.Lines.{SameThings}
use Rattle.net_lists.specs.Counts.{shape_count}
use Rattle.net_lists.specs.PartCuts.{parts_of, shape_view}
use Rattle.net_lists.specs.declared.parts.NetShape.{NetShape}
use Rattle.net_lists.specs.declared.parts.PartHead.{PartHead}
use Rattle.shape_index.specs.declared.shape.Shape.{Shape as Stored}
use Rattle.net_queries.specs.Held.{is_among, shapes_from}
use Rattle.net_queries.specs.Joining.{JoinedBy, joins_of}
use Rattle.net_queries.proofs.Joins.{joined_none, joined_on, same_length}
use Rattle.net_queries.proofs.Sums.{sums_mapped, sums_tested}

and_true : (b : Bool) → (b && true) ≡ b
and_true b = grind arith

-- a part's number is below the count, so only the other one's tells
pub numbered_step : (first part k n : ℕ) (e : ℕ × ℕ) (a b : List ℕ) → part < n → length a ≡ n
    → b ≡ (if is_among first (length a) k && nat_lt part (length a) then joined e a else a) → b ≡ (if is_among first n k then joined e a else a)
numbered_step first part k n e a b below size h =
    let t : nat_lt part n ≡ true = grind (arith, below) in
    h ∙ ap (λ m. if is_among first m k && nat_lt part m then joined e a else a) size
    ∙ ap (λ q. if is_among first n k && q then joined e a else a) t
    ∙ ap (λ q. if q then joined e a else a) (and_true (is_among first n k))

pub among_below : (first n k : ℕ) → is_among first n k ≡ true → k - first < n
among_below first n k h = grind (arith, h)

-- what a search finds may come in any order
pub joined_things : {E : Type 0} (test : E → Bool) (join : E → ℕ × ℕ) (xs ys : List E) (a b : List ℕ) → SameThings xs ys → JoinedBy a (map join (filter test xs)) b → JoinedBy a (map join (filter test ys)) b
joined_things {E = E} test join xs ys a b same j =
    let sum : (w : ℕ × ℕ → ℕ) (zs : List E) → sum_by w (map join (filter test zs)) ≡ sum_by (λ e. cond (test e) (w (join e)) 0) zs =
    λ w zs. sums_mapped w join (filter test zs) ∙ sums_tested (λ e. w (join e)) test zs in
    record {
      joins = j.joins;
      same = record { sums = λ w. j.same.sums w ∙ sum w xs ∙ same.sums (λ e. cond (test e) (w (join e)) 0) ∙ sym (sum w ys) };
      below = j.below;
      labels = j.labels;
    }

each_append : {X Y : Type 0} (f : X → List Y) (xs ys : List X) → flat_map f (xs ++ ys) ≡ flat_map f xs ++ flat_map f ys
each_append f [] ys = refl
each_append f (x ∷ xs) ys = ap (λ zs. f x ++ zs) (each_append f xs ys) ∙ sym (append_assoc (f x) (flat_map f xs) (flat_map f ys))

each_push : {X Y : Type 0} (f : X → List Y) (xs : List X) (x : X) → flat_map f xs ++ f x ≡ flat_map f (xs ++ x ∷ [])
each_push f xs x = ap (λ ys. flat_map f xs ++ ys) (sym (append-nil (f x))) ∙ sym (each_append f xs (x ∷ []))

module _ (first : ℕ) (entries : List (ShapeId × Stored)) where
  abbrev own_shape : ℕ → NetShape → ℕ × Shape
  own_shape part s = (part, shape_view s)

  pub next_shape : (part : ℕ) (own : List NetShape) (i : ℕ) (s : NetShape) (a b c : List ℕ) → i < length own → s ≡ get_or own i s
      → JoinedBy a (flat_map (joins_of first (length a) entries) (map (own_shape part) (take i own))) b → JoinedBy b (joins_of first (length b) entries (part, shape_view s)) c
      → JoinedBy a (flat_map (joins_of first (length a) entries) (map (own_shape part) (take (i + 1) own))) c
  next_shape part own i s a b c h is j k =
      let f = joins_of first (length a) entries in
      let size = same_length a _ b j in
      let here : JoinedBy b (f (part, shape_view s)) c = subst (λ n. JoinedBy b (joins_of first n entries (part, shape_view s)) c) size k in
      let more : take (i + 1) own ≡ take i own ++ s ∷ [] = take_more own i s h ∙ ap (λ t. take i own ++ t ∷ []) (sym is) in
      subst (λ xs. JoinedBy a xs c)
      (each_push f (map (own_shape part) (take i own)) (part, shape_view s)
      ∙ ap (flat_map f) (sym (map-append (own_shape part) (take i own) (s ∷ [])))
      ∙ ap (λ xs. flat_map f (map (own_shape part) xs)) (sym more))
      (joined_on a b c (flat_map f (map (own_shape part) (take i own))) (f (part, shape_view s)) j here)

  numbered_twice : (part : ℕ) (own : List NetShape) → map (λ s. (part, s)) (map shape_view own) ≡ map (own_shape part) own
  numbered_twice part [] = refl
  numbered_twice part (s ∷ ss) = ap (λ (us : List (ℕ × Shape)). own_shape part s ∷ us) (numbered_twice part ss)

  pub next_part : (n : ℕ) (ps : List PartHead) (i : ℕ) (d : PartHead) (left own later : List NetShape) (a b c : List ℕ) → i < length ps
      → own ≡ take (get_or ps i d).shapes left → later ≡ drop (get_or ps i d).shapes left → length a ≡ n → JoinedBy a (flat_map (joins_of first (length a) entries) (map (own_shape i) own)) b
      → JoinedBy b (flat_map (joins_of first n entries) (shapes_from (i + 1) (parts_of (drop (i + 1) ps) later))) c
      → JoinedBy a (flat_map (joins_of first n entries) (shapes_from i (parts_of (drop i ps) left))) c
  next_part n ps i d left own later a b c below front back size j k =
      let f = joins_of first n entries in
      let h = get_or ps i d in
      let here : JoinedBy a (flat_map f (map (own_shape i) own)) b = subst (λ m. JoinedBy a (flat_map (joins_of first m entries) (map (own_shape i) own)) b) size j in
      let behind : List (ℕ × Shape) = shapes_from (suc i) (parts_of (drop (i + 1) ps) (drop h.shapes left)) in
      let next : JoinedBy b (flat_map f behind) c = subst (λ m. JoinedBy b (flat_map f (shapes_from m (parts_of (drop (i + 1) ps) (drop h.shapes left)))) c) (add-one i)
      (subst (λ xs. JoinedBy b (flat_map f (shapes_from (i + 1) (parts_of (drop (i + 1) ps) xs))) c) back k) in
      let split : drop i ps ≡ h ∷ drop (i + 1) ps = drop_more ps i d below in
      let shapes : map (own_shape i) own ≡ map (λ s. (i, s)) (map shape_view (take h.shapes left)) = ap (map (own_shape i)) front ∙ sym (numbered_twice i (take h.shapes left)) in
      subst (λ xs. JoinedBy a xs c)
      (ap (λ xs. flat_map f xs ++ flat_map f behind) shapes
      ∙ sym (each_append f (map (λ s. (i, s)) (map shape_view (take h.shapes left))) behind)
      ∙ ap (λ qs. flat_map f (shapes_from i (parts_of qs left))) (sym split))
      (joined_on a b c (flat_map f (map (own_shape i) own)) (flat_map f behind) here next)

-- what the parts count that are left
pub counted_on : (ps : List PartHead) (i : ℕ) (d : PartHead) (left later : List NetShape) → i < length ps → later ≡ drop (get_or ps i d).shapes left
    → sum_by shape_count (drop i ps) ≡ length left → sum_by shape_count (drop (i + 1) ps) ≡ length later
counted_on ps i d left later below back whole =
    let s = sum_by-drop_more shape_count ps i d below in
    let b = ap length back in
    let l = length-drop (get_or ps i d).shapes left in
    omega (arith, s, b, l, whole)

pub tested_on : (most : NetShape → ℕ) (left own later : List NetShape) (k before now last : ℕ) → own ≡ take k left → later ≡ drop k left → now ≤ before + sum_by most own
    → before + sum_by most left ≤ last → now + sum_by most later ≤ last
tested_on most left own later k before now last front back few all =
    let s = sum_by-take-drop most left k in
    let a = ap (λ xs. sum_by most xs) front in
    let b = ap (λ xs. sum_by most xs) back in
    omega (arith, s, a, b, few, all)

pub tested_more : (most : NetShape → ℕ) (own : List NetShape) (i : ℕ) (s : NetShape) (before now next : ℕ) → i < length own → s ≡ get_or own i s → next ≤ now + most s
    → now ≤ before + sum_by most (take i own) → next ≤ before + sum_by most (take (i + 1) own)
tested_more most own i s before now next below is few all =
    let m = sum_by_more most own i s below in
    let e = ap most is in
    omega (arith, m, e, few, all)

pub tested_all : (most : NetShape → ℕ) (own : List NetShape) (i before now : ℕ) → now ≤ before + sum_by most (take i own) → now ≤ before + sum_by most own
tested_all most own i before now few = let l = sum_by-take-le most own i in omega (arith, l, few)

-- and what it counts at least, where a count stops at 2 ^ 64 - 1
pub least_on : (met : NetShape → ℕ) (left own later : List NetShape) (k all now next : ℕ) → own ≡ take k left → later ≡ drop k left → min (now + sum_by met own) (2 ^ 64 - 1) ≤ next
    → min all (2 ^ 64 - 1) ≤ now + sum_by met left → min all (2 ^ 64 - 1) ≤ next + sum_by met later
least_on met left own later k all now next front back most least =
    let s = sum_by-take-drop met left k in
    let a = ap (λ xs. sum_by met xs) front in
    let b = ap (λ xs. sum_by met xs) back in
    omega (arith, s, a, b, most, least)

pub least_more : (met : NetShape → ℕ) (own : List NetShape) (i : ℕ) (s : NetShape) (before now next : ℕ) → i < length own → s ≡ get_or own i s → min (now + met s) (2 ^ 64 - 1) ≤ next
    → min (before + sum_by met (take i own)) (2 ^ 64 - 1) ≤ now → min (before + sum_by met (take (i + 1) own)) (2 ^ 64 - 1) ≤ next
least_more met own i s before now next below is most least =
    let m = sum_by_more met own i s below in
    let e = ap met is in
    omega (arith, m, e, most, least)

pub least_all : (met : NetShape → ℕ) (own : List NetShape) (i before now : ℕ) → length own ≤ i → min (before + sum_by met (take i own)) (2 ^ 64 - 1) ≤ now → min (before + sum_by met own) (2 ^ 64 - 1) ≤ now
least_all met own i before now past least = omega (arith, ap (sum_by met) (take_all i own past), least)

none_left : (met : NetShape → ℕ) (left : List NetShape) → length left ≡ 0 → sum_by met left ≡ 0
none_left met [] h = refl
none_left met (s ∷ ss) h = absurd (omega (arith, h))

pub least_past : (met : NetShape → ℕ) (ps : List PartHead) (i : ℕ) (left : List NetShape) (all now : ℕ) → length ps ≤ i → sum_by shape_count (drop i ps) ≡ length left
    → min all (2 ^ 64 - 1) ≤ now + sum_by met left → min all (2 ^ 64 - 1) ≤ now
least_past met ps i left all now past whole least =
    let none : sum_by shape_count (drop i ps) ≡ 0 = ap (sum_by shape_count) (drop_all i ps past) in
    omega (arith, none_left met left (sym whole ∙ none), least)

-- no part is left
pub nothing_left : (f : ℕ × Shape → List (ℕ × ℕ)) (n : ℕ) (ls : List ℕ) (i : ℕ) (ps : List PartHead) (left : List NetShape) → length ps ≤ i → JoinedBy ls (flat_map f (shapes_from n (parts_of (drop i ps) left))) ls
nothing_left f n ls i ps left past = subst (λ qs. JoinedBy ls (flat_map f (shapes_from n (parts_of qs left))) ls) (sym (drop_all i ps past)) (joined_none ls)
