-- Lists whose entries may stand several times side by side.
use Rattle.std.proofs.Common.{◌≡◌, ◌≢◌, ◌≤◌, ◌<◌, ◌+◌, ◌-◌, ℕ, zero, suc, Bool, true, false, cond, List, [], ◌∷◌, ◌++◌, refl, sym, ap, ◌∙◌, subst, arith, get_or, length, filter, take, drop, take-append-drop, length-take, length-drop, get_or-take, get_or-drop, drop-drop, add-one}
use Rattle.std.specs.Prelude.{sum_by, ◌==◌}
use Rattle.std.specs.List.{dedup_from, insert, remove}
use Rattle.std.proofs.lemmas.List.{get_or_default}
use Rattle.std.proofs.lemmas.List.Sums.{sum_by-cons, sum_by-append}
use Rattle.design_model.specs.declared.identifier.ShapeId.{ShapeId}
use Rattle.shape_index.specs.declared.shape.Shape.{Shape}
use Rattle.shape_index.specs.TileOrder.{once}

abbrev Entry : Type 0
Entry = ShapeId × Shape

-- two entries have one number
abbrev alike : Entry → Entry → Bool
alike a b = a.0.0 == b.0.0

abbrev number : List Entry → ℕ → Entry → ℕ
number es k d = (get_or es k d).0.0

is_alike : (a b : Entry) → a.0.0 ≡ b.0.0 → alike a b ≡ true
is_alike a b h = grind (arith, h)

are_one : (a b : Entry) → alike a b ≡ true → a.0.0 ≡ b.0.0
are_one a b h = grind (arith, h)

isnt_alike : (a b : Entry) → a.0.0 ≢ b.0.0 → alike a b ≡ false
isnt_alike a b h =
    elim (alike a b) as (λ t. alike a b ≡ t → t ≡ false) [
      | true ↦ λ t. absurd (h (are_one a b t))
      | false ↦ λ t. refl
    ] refl

-- an entry that repeats the one before is left out, behind one that was kept and one of the same number before it
left_out : (kept last : Entry) (es : List Entry) (g : ℕ) (d : Entry) → last.0.0 ≡ kept.0.0 → g < length es → number es g d ≡ number (last ∷ es) g d → dedup_from alike kept (remove es g) ≡ dedup_from alike kept es
left_out kept last [] g d one below same = absurd (omega (arith, below))
left_out kept last (e ∷ es) zero d one below same = let t : alike e kept ≡ true = is_alike e kept (same ∙ one) in rw t refl
left_out kept last (e ∷ es) (suc g) d one below same =
    elim (alike e kept) as (λ b. alike e kept ≡ b → cond b (dedup_from alike kept (remove es g)) (kept ∷ dedup_from alike e (remove es g)) ≡ cond b (dedup_from alike kept es) (kept ∷ dedup_from alike e es)) [
      | true ↦ λ t. left_out kept e es g d (are_one e kept t) (omega (arith, below)) same
      | false ↦ λ t. ap (λ (l : List Entry). kept ∷ l) (left_out e e es g d refl (omega (arith, below)) same)
    ] refl

pub once_removed : (es : List Entry) (g : ℕ) → 0 < g → g < length es → ((d : Entry) → number es g d ≡ number es (g - 1) d) → once (remove es g) ≡ once es
once_removed es zero some below same = absurd (omega (arith, some))
once_removed [] (suc g) some below same = absurd (omega (arith, below))
once_removed (e ∷ es) (suc g) some below same =
    let before : suc g - 1 ≡ g = omega arith in
    left_out e e es g e refl (omega (arith, below)) (subst (λ (n : ℕ). number es g e ≡ number (e ∷ es) n e) before (same e))

put_more : (kept last : Entry) (es : List Entry) (g : ℕ) (e d : Entry) → last.0.0 ≡ kept.0.0 → g ≤ length es → e.0.0 ≡ number (last ∷ es) g d → dedup_from alike kept (insert es g e) ≡ dedup_from alike kept es
put_more kept last es zero e d one below same = let t : alike e kept ≡ true = is_alike e kept (same ∙ one) in rw t refl
put_more kept last [] (suc g) e d one below same = absurd (omega (arith, below))
put_more kept last (x ∷ es) (suc g) e d one below same =
    elim (alike x kept) as (λ b. alike x kept ≡ b → cond b (dedup_from alike kept (insert es g e)) (kept ∷ dedup_from alike x (insert es g e)) ≡ cond b (dedup_from alike kept es) (kept ∷ dedup_from alike x es)) [
      | true ↦ λ t. put_more kept x es g e d (are_one x kept t) (omega (arith, below)) same
      | false ↦ λ t. ap (λ (l : List Entry). kept ∷ l) (put_more x x es g e d refl (omega (arith, below)) same)
    ] refl

pub once_inserted : (es : List Entry) (g : ℕ) (e d : Entry) → 0 < g → g ≤ length es → e.0.0 ≡ number es (g - 1) d → once (insert es g e) ≡ once es
once_inserted es zero e d some below same = absurd (omega (arith, some))
once_inserted [] (suc g) e d some below same = absurd (omega (arith, below))
once_inserted (x ∷ es) (suc g) e d some below same =
    let before : suc g - 1 ≡ g = omega arith in
    put_more x x es g e d refl (omega (arith, below)) (subst (λ (n : ℕ). e.0.0 ≡ number (x ∷ es) n d) before same)

-- no entry of the first list has the number of one of the second
abbrev pub AreApart : List Entry → List Entry → Type 0
AreApart a b = (i j : ℕ) (d : Entry) → i < length a → j < length b → number b j d ≢ number a i d

apart_without : (k x : Entry) (a b : List Entry) → AreApart (k ∷ x ∷ a) b → AreApart (k ∷ a) b
apart_without k x a b h zero j d low below = h zero j d (omega arith) below
apart_without k x a b h (suc i) j d low below = h (suc (suc i)) j d (omega (arith, low)) below

split_from : (k : Entry) (a b : List Entry) → AreApart (k ∷ a) b → dedup_from alike k (a ++ b) ≡ dedup_from alike k a ++ once b
split_from k [] [] h = refl
split_from k [] (y ∷ ys) h = let t : alike y k ≡ false = isnt_alike y k (h 0 0 y (omega arith) (omega arith)) in rw t refl
split_from k (x ∷ a) b h =
    elim (alike x k) as (λ t. cond t (dedup_from alike k (a ++ b)) (k ∷ dedup_from alike x (a ++ b)) ≡ cond t (dedup_from alike k a) (k ∷ dedup_from alike x a) ++ once b) [
      | true ↦ split_from k a b (apart_without k x a b h)
      | false ↦ ap (λ (l : List Entry). k ∷ l) (split_from x a b (λ i j d low below. h (suc i) j d (omega (arith, low)) below))
    ]

pub once_split : (a b : List Entry) → AreApart a b → once (a ++ b) ≡ once a ++ once b
once_split [] b h = refl
once_split (x ∷ a) b h = split_from x a b h

run_from : (k : Entry) (es : List Entry) (n : ℕ) → n ≤ length es → ((i : ℕ) (d : Entry) → i < n → number es i d ≡ k.0.0) → ((d : Entry) → n < length es → number es n d ≢ k.0.0) → dedup_from alike k es ≡ k ∷ once (drop n es)
run_from k [] zero within same other = refl
run_from k [] (suc n) within same other = absurd (omega (arith, within))
run_from k (y ∷ ys) zero within same other = let t : alike y k ≡ false = isnt_alike y k (other y (omega arith)) in rw t refl
run_from k (y ∷ ys) (suc n) within same other =
    let t : alike y k ≡ true = is_alike y k (same 0 y (omega arith)) in
    rw t (run_from k ys n (omega (arith, within)) (λ i d low. same (suc i) d (omega (arith, low))) (λ d below. other d (omega (arith, below))))

-- entries of one number from a place on and before another, where another number stands
pub record IsEntryRun (es : List Entry) (i j : ℕ) : Type 0 where
  pub some : i < j
  pub within : j ≤ length es
  pub same : (k : ℕ) (d : Entry) → i ≤ k → k < j → number es k d ≡ number es i d
  pub other : (d : Entry) → j < length es → number es j d ≢ number es i d

front : (es : List Entry) (i : ℕ) (d : Entry) → i < length es → drop i es ≡ get_or es i d ∷ drop (suc i) es
front [] i d below = absurd (omega (arith, below))
front (e ∷ es) zero d below = refl
front (e ∷ es) (suc i) d below = front es i d (omega (arith, below))

number_past : (es : List Entry) (i j : ℕ) (e : Entry) → i < j → number (drop (suc i) es) (j - suc i) e ≡ number es j e
number_past es i j e low =
    let end : suc i + (j - suc i) ≡ j = omega (arith, low) in
    ap (λ (x : Entry). x.0.0) (get_or-drop (suc i) es (j - suc i) e ∙ ap (λ (n : ℕ). get_or es n e) end)

rest_is : (es : List Entry) (i j : ℕ) → i < j → drop (j - suc i) (drop (suc i) es) ≡ drop j es
rest_is es i j low = let end : suc i + (j - suc i) ≡ j = omega (arith, low) in drop-drop (j - suc i) (suc i) es ∙ ap (λ (n : ℕ). drop n es) end

-- such a run is one entry
pub once_at_run : (es : List Entry) (i j : ℕ) (d : Entry) → IsEntryRun es i j → once (drop i es) ≡ get_or es i d ∷ once (drop j es)
once_at_run es i j d run =
    let some = run.some in
    let within = run.within in
    let below : i < length es = omega (arith, some, within) in
    let here : (e : Entry) → number es i e ≡ (get_or es i d).0.0 = λ e. ap (λ (x : Entry). x.0.0) (get_or_default es i e d below) in
    let at : (n : ℕ) (e : Entry) → number (drop (suc i) es) n e ≡ number es (suc i + n) e = λ n e. ap (λ (x : Entry). x.0.0) (get_or-drop (suc i) es n e) in
    ap once (front es i d below)
    ∙ run_from (get_or es i d) (drop (suc i) es) (j - suc i) (omega (arith, length-drop (suc i) es, some, within)) (λ n e low. at n e ∙ run.same (suc i + n) e (omega arith) (omega (arith, low, some)) ∙ here e) (λ e low same. run.other e (omega (arith, low, some, length-drop (suc i) es)) (sym (number_past es i j e some) ∙ same ∙ sym (here e)))
    ∙ ap (λ (l : List Entry). get_or es i d ∷ once l) (rest_is es i j some)

full_from : (k : Entry) (es : List Entry) → ((i : ℕ) (d : Entry) → i < length es → number es i d ≢ number (k ∷ es) i d) → dedup_from alike k es ≡ k ∷ es
full_from k [] h = refl
full_from k (e ∷ es) h =
    let t : alike e k ≡ false = isnt_alike e k (h 0 e (omega arith)) in
    rw t (ap (λ (l : List Entry). k ∷ l) (full_from e es (λ i d low. h (suc i) d (omega (arith, low)))))

-- where none repeats the one before it, all stay
pub once_full : (es : List Entry) → ((i : ℕ) (d : Entry) → i + 1 < length es → number es (i + 1) d ≢ number es i d) → once es ≡ es
once_full [] h = refl
once_full (e ∷ es) h = full_from e es (λ i d low same. h i d (omega (arith, low)) (rw add-one same))

short_from : (k : Entry) (es : List Entry) → length (dedup_from alike k es) ≤ suc (length es)
short_from k [] = omega arith
short_from k (e ∷ es) =
    elim (alike e k) as (λ t. length (cond t (dedup_from alike k es) (k ∷ dedup_from alike e es)) ≤ suc (suc (length es))) [
      | true ↦ omega (arith, short_from k es)
      | false ↦ omega (arith, short_from e es)
    ]

pub once_short : (es : List Entry) → length (once es) ≤ length es
once_short [] = omega arith
once_short (e ∷ es) = short_from e es

fewer_from : (w : Entry → ℕ) (k : Entry) (es : List Entry) → sum_by w (dedup_from alike k es) ≤ w k + sum_by w es
fewer_from w k [] = omega (arith, sum_by-cons w k [])
fewer_from w k (e ∷ es) =
    let all = sum_by-cons w e es in
    elim (alike e k) as (λ t. sum_by w (cond t (dedup_from alike k es) (k ∷ dedup_from alike e es)) ≤ w k + sum_by w (e ∷ es)) [
      | true ↦ omega (arith, fewer_from w k es, all)
      | false ↦ omega (arith, fewer_from w e es, all, sum_by-cons w k (dedup_from alike e es))
    ]

pub once_fewer : (w : Entry → ℕ) (es : List Entry) → sum_by w (once es) ≤ sum_by w es
once_fewer w [] = omega arith
once_fewer w (e ∷ es) = omega (arith, fewer_from w e es, sum_by-cons w e es)

module _ (p : Entry → Bool) where
  skip_from : (kept last : Entry) (es : List Entry) (n : ℕ) → last.0.0 ≡ kept.0.0 → p kept ≡ false → n ≤ length es → ((i : ℕ) (d : Entry) → i < n → p (get_or es i d) ≡ false)
      → ((d : Entry) → n < length es → number es n d ≢ number (last ∷ es) n d) → filter p (dedup_from alike kept es) ≡ filter p (once (drop n es))
  skip_from kept last [] zero one fails within h other = rw fails refl
  skip_from kept last [] (suc n) one fails within h other = absurd (omega (arith, within))
  skip_from kept last (y ∷ ys) zero one fails within h other =
      let t : alike y kept ≡ false = isnt_alike y kept (λ e. other y (omega arith) (e ∙ sym one)) in
      rw (t, fails) refl
  skip_from kept last (y ∷ ys) (suc n) one fails within h other =
      elim (alike y kept) as (λ t. alike y kept ≡ t → filter p (cond t (dedup_from alike kept ys) (kept ∷ dedup_from alike y ys)) ≡ filter p (once (drop n ys))) [
        | true ↦ λ t. skip_from kept y ys n (are_one y kept t) fails (omega (arith, within)) (λ i d low. h (suc i) d (omega (arith, low))) (λ d below. other d (omega (arith, below)))
        | false ↦ λ t. rw fails (skip_from y y ys n refl (h 0 y (omega arith)) (omega (arith, within)) (λ i d low. h (suc i) d (omega (arith, low))) (λ d below. other d (omega (arith, below))))
      ] refl

later_from : (w : Entry → ℕ) (kept last : Entry) (es : List Entry) (n : ℕ) → last.0.0 ≡ kept.0.0 → n ≤ length es → ((d : Entry) → n < length es → number es n d ≢ number (last ∷ es) n d)
    → sum_by w (once (drop n es)) ≤ sum_by w (dedup_from alike kept es)
later_from w kept last [] zero one within other = omega arith
later_from w kept last [] (suc n) one within other = absurd (omega (arith, within))
later_from w kept last (y ∷ ys) zero one within other =
    let t : alike y kept ≡ false = isnt_alike y kept (λ e. other y (omega arith) (e ∙ sym one)) in
    rw t (omega (arith, sum_by-cons w kept (dedup_from alike y ys)))
later_from w kept last (y ∷ ys) (suc n) one within other =
    elim (alike y kept) as (λ t. alike y kept ≡ t → sum_by w (once (drop n ys)) ≤ sum_by w (cond t (dedup_from alike kept ys) (kept ∷ dedup_from alike y ys))) [
      | true ↦ λ t. later_from w kept y ys n (are_one y kept t) (omega (arith, within)) (λ d below. other d (omega (arith, below)))
      | false ↦ λ t. omega (arith, sum_by-cons w kept (dedup_from alike y ys), later_from w y y ys n refl (omega (arith, within)) (λ d below. other d (omega (arith, below))))
    ] refl

-- another number stands at a place than before it
abbrev pub Changes : List Entry → ℕ → Type 0
Changes es j = (d : Entry) → j < length es → number es j d ≢ number es (j - 1) d

changes_past : (es : List Entry) (i j : ℕ) (d : Entry) → i < j → i < length es → Changes es j
    → (e : Entry) → j - suc i < length (drop (suc i) es) → number (drop (suc i) es) (j - suc i) e ≢ number (get_or es i d ∷ drop (suc i) es) (j - suc i) e
changes_past es i j d low below changes e within same =
    let before : i + (j - suc i) ≡ j - 1 = omega (arith, low) in
    let last : number (get_or es i d ∷ drop (suc i) es) (j - suc i) e ≡ number es (j - 1) e =
    ap (λ (l : List Entry). number l (j - suc i) e) (sym (front es i d below)) ∙ ap (λ (x : Entry). x.0.0) (get_or-drop i es (j - suc i) e) ∙ ap (λ (n : ℕ). number es n e) before
    in
    changes e (omega (arith, within, length-drop (suc i) es, low)) (sym (number_past es i j e low) ∙ same ∙ last)

-- entries that fail are passed over
pub skipped : (p : Entry → Bool) (es : List Entry) (i j : ℕ) (d : Entry) → i < j → j ≤ length es → ((k : ℕ) (e : Entry) → i ≤ k → k < j → p (get_or es k e) ≡ false) → Changes es j
    → filter p (once (drop i es)) ≡ filter p (once (drop j es))
skipped p es i j d low within fails changes =
    let below : i < length es = omega (arith, low, within) in
    ap (λ (l : List Entry). filter p (once l)) (front es i d below)
    ∙ skip_from p (get_or es i d) (get_or es i d) (drop (suc i) es) (j - suc i) refl (fails i d (omega arith) low) (omega (arith, length-drop (suc i) es, within)) (λ n e under. ap p (get_or-drop (suc i) es n e) ∙ fails (suc i + n) e (omega arith) (omega (arith, under))) (changes_past es i j d low below changes)
    ∙ ap (λ (l : List Entry). filter p (once l)) (rest_is es i j low)

-- and no more are left behind them
pub fewer_later : (w : Entry → ℕ) (es : List Entry) (i j : ℕ) (d : Entry) → i < j → j ≤ length es → Changes es j → sum_by w (once (drop j es)) ≤ sum_by w (once (drop i es))
fewer_later w es i j d low within changes =
    let below : i < length es = omega (arith, low, within) in
    let h = later_from w (get_or es i d) (get_or es i d) (drop (suc i) es) (j - suc i) refl (omega (arith, length-drop (suc i) es, within)) (changes_past es i j d low below changes) in
    omega (arith, h, ap (λ (l : List Entry). sum_by w (once l)) (front es i d below), ap (λ (l : List Entry). sum_by w (once l)) (rest_is es i j low))

-- entries before a place and from one on, of other numbers
pub apart_cut : (es : List Entry) (p q : ℕ) → ((k l : ℕ) (d : Entry) → k < p → q ≤ l → l < length es → number es l d ≢ number es k d) → AreApart (take p es) (drop q es)
apart_cut es p q h i j d low below same =
    let short : i < p = omega (arith, low, length-take p es) in
    let long : q + j < length es = omega (arith, below, length-drop q es) in
    h i (q + j) d short (omega arith) long (sym (ap (λ (x : Entry). x.0.0) (get_or-drop q es j d)) ∙ same ∙ ap (λ (x : Entry). x.0.0) (get_or-take p es i d short))

-- an entry of another number than all is put in
pub once_put : (w : Entry → ℕ) (es : List Entry) (p : ℕ) (e : Entry) → AreApart (take p es) (drop p es) → ((k : ℕ) (d : Entry) → k < length es → number es k d ≢ e.0.0)
    → sum_by w (once (insert es p e)) ≡ w e + sum_by w (once es)
once_put w es p e apart other =
    let all : once es ≡ once (take p es) ++ once (drop p es) = ap once (sym (take-append-drop p es)) ∙ once_split (take p es) (drop p es) apart in
    let rest : once (e ∷ drop p es) ≡ (e ∷ []) ++ once (drop p es) = once_split (e ∷ []) (drop p es) alone in
    let whole : once (insert es p e) ≡ once (take p es) ++ once (e ∷ drop p es) = once_split (take p es) (e ∷ drop p es) with_it in
    omega (
      arith,
      ap (sum_by w) all,
      sum_by-append w (once (take p es)) (once (drop p es)),
      ap (sum_by w) whole,
      sum_by-append w (once (take p es)) (once (e ∷ drop p es)),
      ap (sum_by w) rest,
      sum_by-cons w e (once (drop p es)),
    )
  where
    alone : AreApart (e ∷ []) (drop p es)
    alone zero j d low below same = other (p + j) d (omega (arith, below, length-drop p es)) (sym (ap (λ (x : Entry). x.0.0) (get_or-drop p es j d)) ∙ same)
    alone (suc i) j d low below same = absurd (omega (arith, low))

    with_it : AreApart (take p es) (e ∷ drop p es)
    with_it i zero d low below same =
        other i d (omega (arith, low, length-take p es)) (sym (same ∙ ap (λ (x : Entry). x.0.0) (get_or-take p es i d (omega (arith, low, length-take p es)))))
    with_it i (suc j) d low below same = apart i j d low (omega (arith, below)) same

-- a run is taken out
pub once_taken : (w : Entry → ℕ) (es : List Entry) (p q : ℕ) (d : Entry) → IsEntryRun es p q → AreApart (take p es) (drop p es) → AreApart (take p es) (drop q es)
    → sum_by w (once es) ≡ w (get_or es p d) + sum_by w (once (take p es ++ drop q es))
once_taken w es p q d run apart far =
    let all : once es ≡ once (take p es) ++ once (drop p es) = ap once (sym (take-append-drop p es)) ∙ once_split (take p es) (drop p es) apart in
    omega (
      arith,
      ap (sum_by w) all,
      sum_by-append w (once (take p es)) (once (drop p es)),
      ap (sum_by w) (once_at_run es p q d run),
      sum_by-cons w (get_or es p d) (once (drop q es)),
      ap (sum_by w) (once_split (take p es) (drop q es) far),
      sum_by-append w (once (take p es)) (once (drop q es)),
    )
