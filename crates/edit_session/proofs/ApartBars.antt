-- Any two lists of rectangles differ by some that go and some that come, none of which does both.
use Rattle.std.proofs.Common.{◌≡◌, ◌<◌, ◌≤◌, ◌+◌, ℕ, Bool, true, false, cond, List, [], ◌∷◌, ◌++◌, append-nil, Option, Some, None, ap, arith, refl, sum_by, subst, sym}
use Rattle.std.specs.Prelude.{◌&&◌, MatchOption, nat_eq}
use Rattle.std.specs.Bool.{beq}
use Rattle.std.specs.Cmp.{booleans_Decides, signed_Decides, unsigned_Decides}
use Rattle.std.specs.Ordering.{int_eq}
use Rattle.std.proofs.lemmas.List.Sums.{sum_by-append, sum_by-cons}
use Rattle.connection_rules.specs.NetLines.{Barrier}
use Rattle.line_laws.specs.Lines.{SameThings}
use Rattle.followed_nets.specs.Blocked.{AreNotBoth, is_bar, is_rectangle, times_barred}

both : (a b : Bool) → (a && b) ≡ true → (a ≡ true) × (b ≡ true)
both true b h = (refl, h)
both false b h = absurd (cc)

is_one : (a b : Barrier) → is_bar a b ≡ true → a ≡ b
is_one a b same =
    let layers = both (nat_eq a.layer b.layer) (beq a.spares_power b.spares_power && is_rectangle a.box b.box) same in
    let spare = both (beq a.spares_power b.spares_power) (is_rectangle a.box b.box) layers.1 in
    let x1 = both (int_eq a.box.x1 b.box.x1) (int_eq a.box.y1 b.box.y1 && (int_eq a.box.x2 b.box.x2 && int_eq a.box.y2 b.box.y2)) spare.1 in
    let y1 = both (int_eq a.box.y1 b.box.y1) (int_eq a.box.x2 b.box.x2 && int_eq a.box.y2 b.box.y2) x1.1 in
    let x2 = both (int_eq a.box.x2 b.box.x2) (int_eq a.box.y2 b.box.y2) y1.1 in
    rw (
      (unsigned_Decides a.layer b.layer).0 layers.0,
      (booleans_Decides a.spares_power b.spares_power).0 spare.0,
      (signed_Decides a.box.x1 b.box.x1).0 x1.0,
      (signed_Decides a.box.y1 b.box.y1).0 y1.0,
      (signed_Decides a.box.x2 b.box.x2).0 x2.0,
      (signed_Decides a.box.y2 b.box.y2).0 x2.1,
    ) refl

-- a rectangle that isn't among some can be put beside those that aren't either
put_beside : (bar b : Barrier) (left come : List Barrier) (same : Bool) → is_bar b bar ≡ same → times_barred bar come ≡ 0 → (0 < times_barred b left → times_barred b come ≡ 0) → 0 < times_barred b left + cond same 1 0 → times_barred b come ≡ 0
put_beside bar b left come true is none apart some = subst (λ (x : Barrier). times_barred x come ≡ 0) (sym (is_one b bar is)) none
put_beside bar b left come false is none apart some = apart (omega (arith, some))

one_beside : (bar : Barrier) (left come : List Barrier) → times_barred bar come ≡ 0 → AreNotBoth left come → AreNotBoth (left ++ (bar ∷ [])) come
one_beside bar left come none apart = λ b some.
    let more = sum_by-append (λ x. cond (is_bar b x) 1 0) left (bar ∷ []) in
    let last = sum_by-cons (λ x. cond (is_bar b x) 1 0) bar [] in
    put_beside bar b left come (is_bar b bar) refl none (apart b) (omega (arith, some, more, last))

-- none comes in where one is taken out
one_less : (bar : Barrier) (left now new : List Barrier) → SameThings now (bar ∷ new) → AreNotBoth left now → AreNotBoth left new
one_less bar left now new taken apart = λ b some.
    let before = apart b some in
    let same = taken.sums (λ x. cond (is_bar b x) 1 0) in
    let first = sum_by-cons (λ x. cond (is_bar b x) 1 0) bar new in
    omega (arith, before, same, first)

-- a rectangle is taken out of some once, if it is among them
abbrev IsTaken : Barrier → List Barrier → Option (List Barrier) → Type 0
IsTaken b come rest = MatchOption rest (times_barred b come ≡ 0) (λ r. SameThings come (b ∷ r))

taken_behind : (b x : Barrier) (xs : List Barrier) → is_bar b x ≡ false → (rest : Option (List Barrier)) → IsTaken b xs rest → (more : Option (List Barrier)) × IsTaken b (x ∷ xs) more
taken_behind b x xs is None none = (None, omega (arith, sum_by-cons (λ y. cond (is_bar b y) 1 0) x xs, ap {B = ℕ} (λ (c : Bool). cond c 1 0) is, none))
taken_behind b x xs is (Some rest) same = (
  Some (x ∷ rest),
  record {
    sums = λ w. omega (arith, same.sums w, sum_by-cons w x xs, sum_by-cons w b rest, sum_by-cons w x rest, sum_by-cons w b (x ∷ rest));
  },
)

taken : (b : Barrier) (come : List Barrier) → (rest : Option (List Barrier)) × IsTaken b come rest
taken b [] = (None, refl)
taken b (x ∷ xs) = step (is_bar b x) refl (taken b xs)
  where
    step : (same : Bool) → is_bar b x ≡ same → (rest : Option (List Barrier)) × IsTaken b xs rest → (more : Option (List Barrier)) × IsTaken b (x ∷ xs) more
    step true is later = (Some xs, record { sums = λ w. ap (λ (y : Barrier). sum_by w (y ∷ xs)) (sym (is_one b x is)) })
    step false is later = taken_behind b x xs is later.0 later.1

abbrev pub AreExchangedApart : List Barrier → List Barrier → Type 0
AreExchangedApart old new = (gone : List Barrier) × (come : List Barrier) × SameThings (old ++ come) (new ++ gone) × AreNotBoth gone come

one_more : (b : Barrier) (bs new gone come : List Barrier) → SameThings (bs ++ come) (new ++ gone) → AreNotBoth gone come → (rest : Option (List Barrier)) → IsTaken b come rest → AreExchangedApart (b ∷ bs) new
one_more b bs new gone come same apart None none = (
  gone ++ (b ∷ []),
  come,
  record {
    sums = λ w. omega (arith, same.sums w, sum_by-append w (b ∷ bs) come, sum_by-cons w b bs, sum_by-append w bs come, sum_by-append w new gone, sum_by-append w new (gone ++ (b ∷ [])), sum_by-append w gone (b ∷ []), sum_by-cons w b []);
  },
  one_beside b gone come none apart,
)
one_more b bs new gone come same apart (Some rest) took = (
  gone,
  rest,
  record {
    sums = λ w. omega (arith, same.sums w, took.sums w, sum_by-cons w b rest, sum_by-append w (b ∷ bs) rest, sum_by-cons w b bs, sum_by-append w bs come, sum_by-append w new gone);
  },
  one_less b gone come rest took apart,
)

pub exchanged_apart : (old new : List Barrier) → AreExchangedApart old new
exchanged_apart [] new = ([], new, record { sums = λ w. ap (sum_by w) (sym (append-nil new)) }, λ b some. omega (arith, some))
exchanged_apart (b ∷ bs) new =
    let had = exchanged_apart bs new in
    let found = taken b had.1 in
    one_more b bs new had.0 had.1 had.2 had.3 found.0 found.1
