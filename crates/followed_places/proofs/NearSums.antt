-- Boxes near others, in whatever order, and in part.
use Rattle.std.proofs.Common.{◌≡◌, ◌∙◌, ◌≤◌, ◌<◌, ◌+◌, ◌-◌, ◌^◌, ℕ, min, cond, List, [], ◌∷◌, ◌++◌, length, get_or, drop, sum_by, refl, sym, ap, arith}
use Rattle.std.proofs.lemmas.List.{drop_all, drop_more}
use Rattle.std.proofs.lemmas.List.Sums.{sum_by-append, sum_by-cons, sum_by-le-sum_by}
use Rattle.line_laws.specs.Lines.{SameThings}
use Rattle.line_laws.proofs.PairSums.{sum_by-same}
use Rattle.design_model.specs.Geometry.{Rectangle}
use Rattle.design_model.specs.declared.identifier.StmtId.{StmtId}
use Rattle.shape_rules.specs.Meeting.{meets}
use Rattle.statement_boxes.specs.Boxes.{is_near, met_count, near_count}
use Rattle.followed_places.specs.Tests.{met_sum, near_sum}

-- of a part no more are near
near_part : (r : Rectangle) (all part rest : List (StmtId × Rectangle)) → SameThings all (part ++ rest) → near_count r rest ≤ near_count r all
near_part r all part rest same =
    let w : StmtId × Rectangle → ℕ = λ b. cond (is_near r b) 1 0 in
    omega (arith, same.sums w, sum_by-append w part rest)

pub near_sum_part : (all part rest some : List (StmtId × Rectangle)) → SameThings all (part ++ rest) → near_sum rest some ≤ near_sum all some
near_sum_part all part rest some same =
    sum_by-le-sum_by (λ (b : StmtId × Rectangle). near_count b.1 rest) (λ (b : StmtId × Rectangle). near_count b.1 all) some (λ b. near_part b.1 all part rest same)

-- of the same as many are
pub near_sum_same : (xs ys some : List (StmtId × Rectangle)) → SameThings xs ys → near_sum xs some ≡ near_sum ys some
near_sum_same xs ys some same =
    sum_by-same (λ (b : StmtId × Rectangle). near_count b.1 xs) (λ (b : StmtId × Rectangle). near_count b.1 ys) (λ b. same.sums (λ x. cond (is_near b.1 x) 1 0)) some

-- of two lists as many are as of each
pub near_both : (r : Rectangle) (xs ys : List (StmtId × Rectangle)) (m n : ℕ) → m ≤ near_count r xs → n ≤ near_count r ys → m + n ≤ near_count r (xs ++ ys)
near_both r xs ys m n h k = omega (arith, h, k, sum_by-append (λ (x : StmtId × Rectangle). cond (is_near r x) 1 0) xs ys)

pub met_both : (r : Rectangle) (xs ys : List (StmtId × Rectangle)) (m n : ℕ) → met_count r xs ≤ m → met_count r ys ≤ n → met_count r (xs ++ ys) ≤ m + n
met_both r xs ys m n h k = omega (arith, h, k, sum_by-append (λ (x : StmtId × Rectangle). cond (meets x.1 r) 1 0) xs ys)

-- the same things before others
pub before_others : (xs ys others : List (StmtId × Rectangle)) → SameThings xs ys → SameThings (xs ++ others) (ys ++ others)
before_others xs ys others same = record { sums = λ w. sum_by-append w xs others ∙ ap (λ n. n + sum_by w others) (same.sums w) ∙ sym (sum_by-append w ys others) }

-- and where they are in parts
pub parts_and_others : (all part rest own others : List (StmtId × Rectangle)) → SameThings all (part ++ rest) → SameThings others own → SameThings (all ++ own) (part ++ (rest ++ others))
parts_and_others all part rest own others same as_own = record {
  sums = λ w.
      let a = same.sums w in
      let b = as_own.sums w in
      omega (arith, a, b, sum_by-append w all own, sum_by-append w part rest, sum_by-append w part (rest ++ others), sum_by-append w rest others);
}

-- of the same as many meet
pub met_sum_same : (xs ys some : List (StmtId × Rectangle)) → SameThings xs ys → met_sum xs some ≡ met_sum ys some
met_sum_same xs ys some same =
    sum_by-same (λ (b : StmtId × Rectangle). met_count b.1 xs) (λ (b : StmtId × Rectangle). met_count b.1 ys) (λ b. same.sums (λ x. cond (meets x.1 b.1) 1 0)) some

-- and of two parts as many as of each
pub met_parted : (all part rest some : List (StmtId × Rectangle)) → SameThings all (part ++ rest) → met_sum all some ≡ met_sum part some + met_sum rest some
met_parted all part rest [] same = refl
met_parted all part rest (b ∷ bs) same =
    let w : StmtId × Rectangle → ℕ = λ x. cond (meets x.1 b.1) 1 0 in
    let here : met_count b.1 all ≡ met_count b.1 part + met_count b.1 rest = same.sums w ∙ sum_by-append w part rest in
    let more : (boxes : List (StmtId × Rectangle)) → met_sum boxes (b ∷ bs) ≡ met_count b.1 boxes + met_sum boxes bs = λ boxes. sum_by-cons (λ (x : StmtId × Rectangle). met_count x.1 boxes) b bs in
    omega (arith, here, met_parted all part rest bs same, more all, more part, more rest)

-- what is counted at most, and at least, where a count ends at 2 ^ 64 - 1: one thing more of a list, of which something is seen
module _ {X Y : Type 0} (weigh : Y → ℕ) (see : X → Y) (seen : List X → List Y) (none : seen [] ≡ []) (each : (x : X) (xs : List X) → seen (x ∷ xs) ≡ see x ∷ seen xs) where
  parted : (xs : List X) (i : ℕ) (x : X) → i < length xs → x ≡ get_or xs i x → sum_by weigh (seen (drop i xs)) ≡ weigh (see x) + sum_by weigh (seen (drop (i + 1) xs))
  parted xs i x below is =
      let left : drop i xs ≡ x ∷ drop (i + 1) xs = drop_more xs i x below ∙ ap (λ (y : X). y ∷ drop (i + 1) xs) (sym is) in
      ap (λ (l : List X). sum_by weigh (seen l)) left ∙ ap (sum_by weigh) (each x (drop (i + 1) xs)) ∙ sum_by-cons weigh (see x) (seen (drop (i + 1) xs))

  pub next_most : (xs : List X) (i : ℕ) (x : X) (old new compared all : ℕ) → i < length xs → x ≡ get_or xs i x → compared ≤ weigh (see x) → new ≤ old + compared
      → old + sum_by weigh (seen (drop i xs)) ≤ all → new + sum_by weigh (seen (drop (i + 1) xs)) ≤ all
  next_most xs i x old new compared all below is few added so_far = omega (arith, parted xs i x below is, few, added, so_far)

  pub next_least : (xs : List X) (i : ℕ) (x : X) (old new compared all : ℕ) → i < length xs → x ≡ get_or xs i x → weigh (see x) ≤ compared → min (old + compared) (2 ^ 64 - 1) ≤ new
      → min all (2 ^ 64 - 1) ≤ old + sum_by weigh (seen (drop i xs)) → min all (2 ^ 64 - 1) ≤ new + sum_by weigh (seen (drop (i + 1) xs))
  next_least xs i x old new compared all below is some added so_far = omega (arith, parted xs i x below is, some, added, so_far)

  pub all_least : (xs : List X) (i now all : ℕ) → length xs ≤ i → min all (2 ^ 64 - 1) ≤ now + sum_by weigh (seen (drop i xs)) → min all (2 ^ 64 - 1) ≤ now
  all_least xs i now all past so_far =
      let nothing : sum_by weigh (seen (drop i xs)) ≡ 0 = ap (λ (l : List X). sum_by weigh (seen l)) (drop_all i xs past) ∙ ap (sum_by weigh) none in
      omega (arith, nothing, so_far)

-- where nothing was counted before
pub none_before : (before n tests : ℕ) → before ≡ 0 → min (before + n) (2 ^ 64 - 1) ≤ tests → min n (2 ^ 64 - 1) ≤ tests
none_before before n tests none h = omega (arith, none, h)

pub both_least : (a b out put tests : ℕ) → min a (2 ^ 64 - 1) ≤ out → min b (2 ^ 64 - 1) ≤ put → min (out + put) (2 ^ 64 - 1) ≤ tests → min (a + b) (2 ^ 64 - 1) ≤ tests
both_least a b out put tests h k sum = omega (arith, h, k, sum)
