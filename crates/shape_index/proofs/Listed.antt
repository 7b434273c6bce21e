-- The entries of an order of numbers.
use Rattle.std.proofs.Common.{◌≡◌, ◌≢◌, ◌≤◌, ◌<◌, ℕ, zero, suc, Bool, true, false, cond, not, List, [], ◌∷◌, Option, Some, None, refl, sym, ap, subst, arith, get_or, length, filter, take, drop, ◌∙◌}
use Rattle.std.specs.Prelude.{sum_by, ◌==◌, option_map, slice_get}
use Rattle.std.specs.List.{cons_option, insert, remove}
use Rattle.std.proofs.lemmas.List.Elements.{filter_map-append}
use Rattle.std.proofs.lemmas.List.Sums.{sum_by-cons}
use Rattle.std.proofs.lemmas.Option.{get_or_from_slice_get, slice_get-get_or, slice_get_past}
use Rattle.slab.specs.Slab.{Slab, get, Updates}
use Rattle.design_model.specs.declared.identifier.ShapeId.{ShapeId}
use Rattle.shape_index.specs.declared.shape.Shape.{Shape}
use Rattle.shape_index.specs.GapOrder.{IsRun}
use Rattle.shape_index.specs.TileOrder.{entry_of, listed, AreAllThere}
use Rattle.shape_index.specs.Tiles.{key}
use Rattle.shape_index.proofs.Repeats.{IsEntryRun}

pub listed_short : (s : Slab Shape) (ids : List ShapeId) → length (listed s ids) ≤ length ids
listed_short s [] = omega arith
listed_short s (id ∷ ids) =
    let r = listed_short s ids in
    elim (get s id.0) as (λ (o : Option Shape). length (cons_option (option_map (λ (x : Shape). (id, x)) o) (listed s ids)) ≤ suc (length ids)) [
      | None ↦ omega (arith, r)
      | Some x ↦ omega (arith, r)
    ]

-- the first number of an order that is all there
pub record IsFirst (s : Slab Shape) (id : ShapeId) (ids : List ShapeId) : Type 0 where
  pub shape : Shape
  pub is : get s id.0 ≡ Some shape
  pub rest : AreAllThere s ids

pub first_of : (s : Slab Shape) (id : ShapeId) (ids : List ShapeId) → AreAllThere s (id ∷ ids) → IsFirst s id ids
first_of s id ids h =
    elim (get s id.0) as (λ (o : Option Shape). get s id.0 ≡ o → length (cons_option (option_map (λ (x : Shape). (id, x)) o) (listed s ids)) ≡ suc (length ids) → IsFirst s id ids) [
      | None ↦ λ e k. absurd (omega (arith, k, listed_short s ids))
      | Some x ↦ λ e k. record { shape = x; is = e; rest = omega (arith, k) }
    ] refl h

pub there : (s : Slab Shape) (ids : List ShapeId) (i : ℕ) (id : ShapeId) → AreAllThere s ids → slice_get ids i ≡ Some id → entry_of s id ≡ slice_get (listed s ids) i
there s [] i id all at = cc
there s (y ∷ ys) zero id all at =
    let f = first_of s y ys all in
    let e : y ≡ id = cc in
    rw (← e, f.is) refl
there s (y ∷ ys) (suc i) id all at =
    let f = first_of s y ys all in
    rw f.is (there s ys i id f.rest at)

of_front : (s : Slab Shape) (e : ShapeId × Shape) (es : List (ShapeId × Shape)) (i : ℕ) (d : ShapeId × Shape) → get s e.0.0 ≡ Some e.1 → i < suc (length es)
    → ((j : ℕ) → j < length es → get s (get_or es j d).0.0 ≡ Some (get_or es j d).1) → get s (get_or (e ∷ es) i d).0.0 ≡ Some (get_or (e ∷ es) i d).1
of_front s e es zero d is below h = is
of_front s e es (suc i) d is below h = h i (omega (arith, below))

pub there_at : (s : Slab Shape) (ids : List ShapeId) (i : ℕ) (d : ShapeId) → AreAllThere s ids → i < length ids → slice_get (listed s ids) i ≡ entry_of s (get_or ids i d)
there_at s ids i d all below = sym (there s ids i (get_or ids i d) all (slice_get-get_or ids i d below))

pub past : (s : Slab Shape) (ids : List ShapeId) (i : ℕ) → AreAllThere s ids → length ids ≤ i → slice_get (listed s ids) i ≡ None
past s ids i all over = slice_get_past (listed s ids) i (omega (arith, all, over))

-- each entry is of the slab
pub of_slab : (s : Slab Shape) (ids : List ShapeId) (i : ℕ) (d : ShapeId × Shape) → i < length (listed s ids) → get s (get_or (listed s ids) i d).0.0 ≡ Some (get_or (listed s ids) i d).1
of_slab s [] i d below = absurd (omega arith)
of_slab s (y ∷ ys) i d below =
    elim (get s y.0) as (λ (o : Option Shape). get s y.0 ≡ o → i < length (cons_option (option_map (λ (x : Shape). (y, x)) o) (listed s ys))
    → get s (get_or (cons_option (option_map (λ (x : Shape). (y, x)) o) (listed s ys)) i d).0.0 ≡ Some (get_or (cons_option (option_map (λ (x : Shape). (y, x)) o) (listed s ys)) i d).1) [
      | None ↦ λ e k. of_slab s ys i d k
      | Some x ↦ λ e k. of_front s (y, x) (listed s ys) i d e k (λ j b. of_slab s ys j d b)
    ] refl below

-- entries of one number have one key
abbrev pub OneKey : List (ShapeId × Shape) → Type 0
OneKey es = (k l : ℕ) (d : ShapeId × Shape) → k < length es → l < length es → (get_or es k d).0.0 ≡ (get_or es l d).0.0 → key (get_or es k d) ≡ key (get_or es l d)

pub one_key : (s : Slab Shape) (ids : List ShapeId) → OneKey (listed s ids)
one_key s ids k l d low high same =
    let a = of_slab s ids k d low in
    let b = of_slab s ids l d high in
    let shape : (get_or (listed s ids) k d).1 ≡ (get_or (listed s ids) l d).1 =
    let f : get s (get_or (listed s ids) l d).0.0 ≡ Some (get_or (listed s ids) k d).1 = subst (λ (m : ℕ). get s m ≡ Some (get_or (listed s ids) k d).1) same a in
    cc
    in
    rw (same, shape) refl

-- the number of an entry is that of its place
pub number_at : (s : Slab Shape) (ids : List ShapeId) (k : ℕ) (d : ShapeId × Shape) → AreAllThere s ids → k < length ids → (get_or (listed s ids) k d).0 ≡ get_or ids k d.0
number_at s [] k d all below = absurd (omega (arith, below))
number_at s (y ∷ ys) zero d all below = let f = first_of s y ys all in rw f.is refl
number_at s (y ∷ ys) (suc k) d all below = let f = first_of s y ys all in rw f.is (number_at s ys k d f.rest (omega (arith, below)))

-- the slab has a shape under the number of a place
pub shape_at : (s : Slab Shape) (ids : List ShapeId) (k : ℕ) (d : ShapeId) → AreAllThere s ids → k < length ids → (x : Shape) × (get s (get_or ids k d).0 ≡ Some x)
shape_at s [] k d all below = absurd (omega (arith, below))
shape_at s (y ∷ ys) zero d all below = let f = first_of s y ys all in (f.shape, f.is)
shape_at s (y ∷ ys) (suc k) d all below = let f = first_of s y ys all in shape_at s ys k d f.rest (omega (arith, below))

-- a run of a number is one of its entries
pub run_listed : (s : Slab Shape) (ids : List ShapeId) (i j : ℕ) → AreAllThere s ids → IsRun ids i j → IsEntryRun (listed s ids) i j
run_listed s ids i j all run =
    let some = run.some in
    let within = run.within in
    let number : (k : ℕ) (d : ShapeId × Shape) → k < length ids → (get_or (listed s ids) k d).0.0 ≡ (get_or ids k d.0).0 = λ k d below. ap (λ (n : ShapeId). n.0) (number_at s ids k d all below) in
    record {
      some = some;
      within = omega (arith, within, all);
      same = λ k d low high. number k d (omega (arith, high, within)) ∙ ap (λ (n : ShapeId). n.0) (run.same k d.0 low high) ∙ sym (number i d (omega (arith, some, within)));
      other = λ d below same. run.other d.0 (omega (arith, below, all)) (sym (number j d (omega (arith, below, all))) ∙ same ∙ number i d (omega (arith, some, within)));
    }

-- its slots have one entry
pub in_run : (s : Slab Shape) (ids : List ShapeId) (i j k : ℕ) (e d : ShapeId × Shape) → AreAllThere s ids → IsRun ids i j → Some e ≡ slice_get (listed s ids) i → i ≤ k → k < j → get_or (listed s ids) k d ≡ e
in_run s ids i j k e d all run at from to =
    let some = run.some in
    let within = run.within in
    let same = there_at s ids k d.0 all (omega (arith, to, within)) ∙ ap (entry_of s) (run.same k d.0 from to) ∙ sym (there_at s ids i d.0 all (omega (arith, some, within))) in
    get_or_from_slice_get (listed s ids) k e d (same ∙ sym at)

pub taken : (s : Slab Shape) (ids : List ShapeId) (p : ℕ) → AreAllThere s ids → listed s (take p ids) ≡ take p (listed s ids)
taken s [] zero all = refl
taken s [] (suc p) all = refl
taken s (y ∷ ys) zero all = refl
taken s (y ∷ ys) (suc p) all = let f = first_of s y ys all in rw f.is (ap (λ (l : List (ShapeId × Shape)). (y, f.shape) ∷ l) (taken s ys p f.rest))

pub dropped : (s : Slab Shape) (ids : List ShapeId) (p : ℕ) → AreAllThere s ids → listed s (drop p ids) ≡ drop p (listed s ids)
dropped s [] zero all = refl
dropped s [] (suc p) all = refl
dropped s (y ∷ ys) zero all = refl
dropped s (y ∷ ys) (suc p) all = let f = first_of s y ys all in rw f.is (dropped s ys p f.rest)

pub removed : (s : Slab Shape) (ids : List ShapeId) (p : ℕ) → AreAllThere s ids → listed s (remove ids p) ≡ remove (listed s ids) p
removed s ids p all = rw (filter_map-append (entry_of s) (take p ids) (drop (suc p) ids), taken s ids p all, dropped s ids (suc p) all) refl

pub inserted : (s : Slab Shape) (ids : List ShapeId) (p : ℕ) (id : ShapeId) (x : Shape) → AreAllThere s ids → get s id.0 ≡ Some x → listed s (insert ids p id) ≡ insert (listed s ids) p (id, x)
inserted s ids p id x all e = rw (filter_map-append (entry_of s) (take p ids) (id ∷ drop p ids), e, taken s ids p all, dropped s ids p all) refl

-- a shape more under a number that was free
pub kept : (s t : Slab Shape) (n : ℕ) (x : Shape) (ids : List ShapeId) → Updates s t n (Some x) → get s n ≡ None → AreAllThere s ids → listed t ids ≡ listed s ids
kept s t n x [] u free all = refl
kept s t n x (y ∷ ys) u free all =
    let f = first_of s y ys all in
    let apart : y.0 ≢ n = λ e. let g : get s y.0 ≡ None = subst (λ (m : ℕ). get s m ≡ None) (sym e) free in let h = f.is in cc in
    rw (u.others y.0 apart, kept s t n x ys u free f.rest) refl

-- an entry of another number
abbrev pub is_other : ℕ → ShapeId × Shape → Bool
is_other n e = not (e.0.0 == n)

-- a shape fewer
pub without : (s t : Slab Shape) (n : ℕ) (ids : List ShapeId) → Updates s t n None → listed t ids ≡ filter (is_other n) (listed s ids)
without s t n [] u = refl
without s t n (y ∷ ys) u =
    let r = without s t n ys u in
    elim (y.0 == n) as (λ b. (y.0 == n) ≡ b → cons_option (option_map (λ (x : Shape). (y, x)) (get t y.0)) (listed t ys) ≡ filter (is_other n) (cons_option (option_map (λ (x : Shape). (y, x)) (get s y.0)) (listed s ys))) [
      | true ↦ λ h.
          let same : y.0 ≡ n = grind arith in
          let gone : get t y.0 ≡ None = subst (λ (m : ℕ). get t m ≡ None) (sym same) u.changed in
          rw (gone, r) (elim (get s y.0) as (λ (o : Option Shape). filter (is_other n) (listed s ys) ≡ filter (is_other n) (cons_option (option_map (λ (x : Shape). (y, x)) o) (listed s ys))) [
            | None ↦ refl
            | Some x ↦ rw h refl
          ])
      | false ↦ λ h.
          let apart : y.0 ≢ n = λ e. grind (arith, e) in
          rw (u.others y.0 apart, r) (elim (get s y.0) as (λ (o : Option Shape). cons_option (option_map (λ (x : Shape). (y, x)) o) (filter (is_other n) (listed s ys)) ≡ filter (is_other n) (cons_option (option_map (λ (x : Shape). (y, x)) o) (listed s ys))) [
            | None ↦ refl
            | Some x ↦ rw h refl
          ])
    ] refl

pub filter_all : {X : Type 0} (p : X → Bool) (xs : List X) → ((i : ℕ) (d : X) → i < length xs → p (get_or xs i d) ≡ true) → filter p xs ≡ xs
filter_all p [] h = refl
filter_all {X} p (x ∷ xs) h =
    let t : p x ≡ true = h 0 x (omega arith) in
    rw t (ap (λ (l : List X). x ∷ l) (filter_all p xs (λ i d low. h (suc i) d (omega (arith, low)))))

pub sum_filter : {X : Type 0} (w : X → ℕ) (p : X → Bool) (xs : List X) → sum_by w (filter p xs) ≡ sum_by (λ x. cond (p x) (w x) 0) xs
sum_filter w p [] = refl
sum_filter w p (x ∷ xs) =
    let r = sum_filter w p xs in
    let one = sum_by-cons (λ x. cond (p x) (w x) 0) x xs in
    elim (p x) as (λ b. p x ≡ b → sum_by w (cond b (x ∷ filter p xs) (filter p xs)) ≡ sum_by (λ x. cond (p x) (w x) 0) (x ∷ xs)) [
      | true ↦ λ e. let v : cond (p x) (w x) 0 ≡ w x = rw e refl in omega (arith, r, one, v, sum_by-cons w x (filter p xs))
      | false ↦ λ e. let v : cond (p x) (w x) 0 ≡ 0 = rw e refl in omega (arith, r, one, v)
    ] refl
