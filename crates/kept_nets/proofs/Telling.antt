-- What is counted while parts are taken out and put in, one after the other.
use Rattle.std.proofs.Common.{◌≡◌, ◌∙◌, ◌<◌, ◌≤◌, ◌+◌, ◌-◌, ◌^◌, ◌&&◌, ◌⊎◌, inl, inr, ℕ, suc, Bool, true, false, true≢false, cond, min, List, [], ◌∷◌, ◌++◌, refl, sym, ⊎_elim, ap, arith, drop, filter, get_or, length, map, subst, sum_by}
use Rattle.std.specs.List.{FoldsTo}
use Rattle.std.specs.Prelude.{IsTrue, count_by}
use Rattle.std.proofs.lemmas.List.{drop_all, drop_more, map-append}
use Rattle.std.proofs.lemmas.List.Sums.{sum_by-append, sum_by-cons}
use Rattle.lef_grammar.specs.Measures.{Shape}
use Rattle.connection_rules.specs.NetParts.{Part}
use Rattle.line_laws.specs.Lines.{SameThings}
use Rattle.shape_index.specs.Near.{met_shape, met_shapes}
use Rattle.net_queries.specs.Held.{shapes_from}
use Rattle.kept_nets.specs.NearParts.{GrewBy, IsToldBy, met_between}
use Rattle.kept_nets.specs.Parts.{shapes_in}
use Rattle.kept_nets.proofs.Sums.{sum_by-filter, sum_by-flat_map, sum_by-map, sum_by-same}

-- how many shapes of a part meet one
abbrev met_in : Shape → Part → ℕ
met_in s p = met_shapes s p.shapes

-- how many shapes of parts meet one, part by part
by_parts : (s : Shape) (ps : List Part) → met_shapes s (shapes_in ps) ≡ sum_by (met_in s) ps
by_parts s ps = sum_by-flat_map (λ t. cond {A = ℕ} (met_shape s t) 1 0) (λ (p : Part). p.shapes) ps

-- a list has all of another: no sum over that is larger
abbrev pub HasAll : List Part → List Part → Type 0
HasAll more stay = (w : Part → ℕ) → sum_by w stay ≤ sum_by w more

-- of fewer parts no more meet
fewer_meet : (s : Shape) (more stay : List Part) → HasAll more stay → met_shapes s (shapes_in stay) ≤ met_shapes s (shapes_in more)
fewer_meet s more stay h = omega (arith, by_parts s stay, by_parts s more, h (met_in s))

fewer_met : (ss : List Shape) (more stay : List Part) → HasAll more stay → sum_by (λ (s : Shape). met_shapes s (shapes_in stay)) ss ≤ sum_by (λ (s : Shape). met_shapes s (shapes_in more)) ss
fewer_met [] more stay h = omega arith
fewer_met (s ∷ ss) more stay h =
    omega (
      arith,
      fewer_meet s more stay h,
      fewer_met ss more stay h,
      sum_by-cons (λ (t : Shape). met_shapes t (shapes_in stay)) s ss,
      sum_by-cons (λ (t : Shape). met_shapes t (shapes_in more)) s ss,
    )

-- what parts meet is the sum of what each meets
first_meets : (p : Part) (ps qs : List Part) → met_between (p ∷ ps) qs ≡ met_between (p ∷ []) qs + met_between ps qs
first_meets p ps qs =
    let w = λ (s : Shape). met_shapes s (shapes_in qs) in
    omega (arith, sum_by-append w p.shapes (shapes_in ps), sum_by-append w p.shapes [])

pub both_meet : (ps rest qs : List Part) → met_between (ps ++ rest) qs ≡ met_between ps qs + met_between rest qs
both_meet [] rest qs = let none : met_between [] qs ≡ 0 = refl in omega (arith, none)
both_meet (p ∷ ps) rest qs = omega (arith, first_meets p (ps ++ rest) qs, first_meets p ps qs, both_meet ps rest qs)

-- and the same of what stays in another order
pub same_meet : (ps qs rs : List Part) → SameThings qs rs → met_between ps qs ≡ met_between ps rs
same_meet ps qs rs h = sum_by-same (λ (s : Shape). met_shapes s (shapes_in qs)) (λ (s : Shape). met_shapes s (shapes_in rs)) (shapes_in ps) (λ s. by_parts s qs ∙ h.sums (met_in s) ∙ sym (by_parts s rs))

-- what stays beside the same parts is the same
pub same_stay : (old out stay now : List Part) → SameThings old (out ++ stay) → SameThings old (out ++ now) → SameThings now stay
same_stay old out stay now h k = record { sums = λ w. omega (arith, h.sums w, k.sums w, sum_by-append w out stay, sum_by-append w out now) }

-- the shapes of parts under their places are those of the parts
unplaced : (w : Shape → ℕ) (n : ℕ) (ps : List Part) → sum_by (λ (p : ℕ × Shape). w p.1) (shapes_from n ps) ≡ sum_by w (shapes_in ps)
unplaced w n [] = refl
unplaced w n (p ∷ ps) =
    let v = λ (q : ℕ × Shape). w q.1 in
    omega (arith, sum_by-append v (map (λ s. (n, s)) p.shapes) (shapes_from (suc n) ps), sum_by-map v (λ (s : Shape). (n, s)) p.shapes, unplaced w (suc n) ps, sum_by-append w p.shapes (shapes_in ps))

placed_meet : (placed : List (ℕ × Shape)) (ps : List Part) → SameThings placed (shapes_from 0 ps) → (s : Shape) → met_shapes s (map (λ (p : ℕ × Shape). p.1) placed) ≡ met_shapes s (shapes_in ps)
placed_meet placed ps h s =
    let w = λ (t : Shape). cond {A = ℕ} (met_shape s t) 1 0 in
    sum_by-map w (λ (p : ℕ × Shape). p.1) placed ∙ h.sums (λ (p : ℕ × Shape). w p.1) ∙ unplaced w 0 ps

-- a look near a part counts at least what it meets
pub near_counted : (placed : List (ℕ × Shape)) (p : Part) (ps : List Part) (before after : ℕ) → SameThings placed (shapes_from 0 ps)
    → min (before + sum_by (λ (s : Shape). met_shapes s (map (λ (q : ℕ × Shape). q.1) placed)) p.shapes) (2 ^ 64 - 1) ≤ after → GrewBy (met_between (p ∷ []) ps) before after
near_counted placed p ps before after h k =
    let w = λ (s : Shape). met_shapes s (shapes_in ps) in
    let v = λ (s : Shape). met_shapes s (map (λ (q : ℕ × Shape). q.1) placed) in
    omega (arith, k, sum_by-same v w p.shapes (placed_meet placed ps h), sum_by-append w p.shapes [])

-- all of two is told where each is
and_tells : (a b : Bool) → IsTrue (a && b) → IsTrue a × IsTrue b
and_tells true true t = (refl, refl)
and_tells true false t = absurd (true≢false (sym t))
and_tells false b t = absurd (true≢false (sym t))

-- a joint that is known tells one more part
pub joint_tells : (old known : Bool) (n before between after : ℕ) → before ≤ between → (IsTrue known → GrewBy n between after) → IsToldBy old (old && known) n before after
joint_tells old known n before between after first h = λ t.
    let both = and_tells old known t in
    let grew = h both.1 in
    (both.0, omega (arith, grew, first))

-- a list of no length
nothing_left : {X : Type 0} (xs : List X) → length xs ≡ 0 → xs ≡ []
nothing_left [] h = refl
nothing_left (x ∷ xs) h = absurd (omega (arith, h))

-- a fold over nothing gives what it begins with
folds_some : {B X : Type 0} (R : B → X → B → Type 0) (acc b : B) (met : List X) → FoldsTo R acc met b → (b ≡ acc) ⊎ (0 < length met)
folds_some R acc b [] h = inl (sym h)
folds_some R acc b (x ∷ met) h = inr (omega arith)

counts_all : {X : Type 0} (test : X → Bool) (xs : List X) → sum_by (λ (x : X). 1) (filter test xs) ≡ count_by test xs
counts_all test xs = sum_by-filter (λ x. 1) test xs

counts_length : {X : Type 0} (xs : List X) → length xs ≡ sum_by (λ (x : X). 1) xs
counts_length [] = refl
counts_length (x ∷ xs) = omega (arith, counts_length xs, sum_by-cons (λ y. 1) x xs)

-- where a fold over the shapes that meet gives something else than it begins with, at least one was compared
pub met_some : {B X : Type 0} (R : B → X → B → Type 0) (acc b : B) (test : X → Bool) (xs : List X) (tests before after : ℕ) → ((met : List X) × SameThings met (filter test xs) × FoldsTo R acc met b) → count_by test xs ≤ tests
    → before < 2 ^ 64 - 1 → min (before + tests) (2 ^ 64 - 1) ≤ after → (b ≡ acc) ⊎ (before < after)
met_some R acc b test xs tests before after found least room grew =
    ⊎_elim (λ same. inl same) (λ some. inr (omega (arith, some, least, room, grew, counts_length found.0, found.1.sums (λ x. 1), counts_all test xs))) (folds_some R acc b found.0 found.2)

module _ {X : Type 0} (f : X → Part) where
  -- the state of a loop over parts of which some are left: what was counted of the others, where all of them were told
  pub record Telling (old now : Bool) (all left : List X) (stay : List Part) (before count : ℕ) : Type 0 where
    pub told : IsTrue now → IsTrue old
    pub grew : IsTrue now → min (before + met_between (map f all) stay) (2 ^ 64 - 1) ≤ count + met_between (map f left) stay

  pub begins : (old : Bool) (all : List X) (stay : List Part) (before : ℕ) → Telling old old all all stay before before
  begins old all stay before = record { told = λ t. t; grew = λ t. omega arith }

  -- one more part is told
  step : (old now next : Bool) (all left : List X) (x : X) (stay more : List Part) (before count then : ℕ) → HasAll more stay → IsToldBy now next (met_between (f x ∷ []) more) count then
      → Telling old now all (x ∷ left) stay before count → Telling old next all left stay before then
  step old now next all left x stay more before count then has one h = record {
    told = λ t. h.told (one t).0;
    grew = λ t.
        let grew = (one t).1 in
        let fewer = fewer_met (shapes_in (f x ∷ [])) more stay has in
        omega (arith, grew, fewer, h.grew (one t).0, first_meets (f x) (map f left) stay);
  }

  -- the next of a list is taken out
  pub next_out : (old now next : Bool) (xs : List X) (i : ℕ) (x : X) (parts rest stay : List Part) (before count then : ℕ) → i < length xs → x ≡ get_or xs i x → SameThings parts (f x ∷ rest)
      → IsToldBy now next (met_between (f x ∷ []) rest) count then → ((stay : List Part) → SameThings parts (map f (drop i xs) ++ stay) → Telling old now xs (drop i xs) stay before count)
      → SameThings rest (map f (drop (i + 1) xs) ++ stay) → Telling old next xs (drop (i + 1) xs) stay before then
  next_out old now next xs i x parts rest stay before count then below is gone one h left =
      let first : drop i xs ≡ x ∷ drop (i + 1) xs = drop_more xs i x below ∙ ap (λ (y : X). y ∷ drop (i + 1) xs) (sym is) in
      let others = map f (drop (i + 1) xs) in
      let all : SameThings parts (map f (drop i xs) ++ stay) =
      subst (λ (l : List X). SameThings parts (map f l ++ stay)) (sym first)
      (record { sums = λ w. omega (arith, gone.sums w, left.sums w, sum_by-cons w (f x) rest, sum_by-cons w (f x) (others ++ stay)) }) in
      step old now next xs (drop (i + 1) xs) x stay rest before count then (λ w. omega (arith, left.sums w, sum_by-append w others stay)) one
      (subst (λ (l : List X). Telling old now xs l stay before count) first (h stay all))

  pub all_out : (old now : Bool) (xs : List X) (i : ℕ) (parts : List Part) (before count : ℕ) → length xs ≤ i
      → ((stay : List Part) → SameThings parts (map f (drop i xs) ++ stay) → Telling old now xs (drop i xs) stay before count) → IsToldBy old now (met_between (map f xs) parts) before count
  all_out old now xs i parts before count past h = λ t.
      let none = drop_all i xs past in
      let end = h parts (record { sums = λ w. ap (λ (l : List X). sum_by w (map f l ++ parts)) (sym none) }) in
      let zero = ap (λ (l : List X). met_between (map f l) parts) none in
      let grew = end.grew t in
      (end.told t, omega (arith, grew, zero))

  -- the last of those that are left is put in
  pub next_in : (old now next : Bool) (all xs rest : List X) (x : X) (stay parts : List Part) (before count then : ℕ) → xs ≡ rest ++ x ∷ [] → HasAll parts stay
      → IsToldBy now next (met_between (f x ∷ []) parts) count then → Telling old now all xs stay before count → Telling old next all rest stay before then
  next_in old now next all xs rest x stay parts before count then is has one h = record {
    told = λ t. h.told (one t).0;
    grew = λ t.
        let grew = (one t).1 in
        let fewer = fewer_met (shapes_in (f x ∷ [])) parts stay has in
        let split = ap (λ (l : List X). met_between (map f l) stay) is ∙ ap (λ (l : List Part). met_between l stay) (map-append f rest (x ∷ [])) ∙ both_meet (map f rest) (f x ∷ []) stay in
        omega (arith, grew, fewer, h.grew (one t).0, split);
  }

  pub all_in : (old now : Bool) (all left : List X) (stay : List Part) (before count : ℕ) → length left ≡ 0 → Telling old now all left stay before count → IsToldBy old now (met_between (map f all) stay) before count
  all_in old now all left stay before count none h = λ t.
      let zero = ap (λ (l : List X). met_between (map f l) stay) (nothing_left left none) in
      let grew = h.grew t in
      (h.told t, omega (arith, grew, zero))

-- what was told while parts went and then others came
pub both_told : (first last : Bool) (out put stay now : List Part) (between before : ℕ) → SameThings now stay → IsToldBy true first (met_between out now) 0 between → IsToldBy first last (met_between put now) between before
    → IsTrue last → GrewBy (met_between (out ++ put) stay) 0 before
both_told first last out put stay now between before same h k = λ t.
    let second = k t in
    let one = (h second.0).1 in
    let two = second.1 in
    omega (arith, one, two, both_meet out put stay, same_meet out now stay same, same_meet put now stay same)
