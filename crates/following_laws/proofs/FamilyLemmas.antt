-- Families of lines that follow an exchange of things, by how often each line stands.
use Rattle.std.proofs.Common.{◌≡◌, ◌+◌, ℕ, List, [], ◌∷◌, ◌++◌, refl, ◌∙◌, arith, sum_by}
use Rattle.std.specs.List.{flat_map}
use Rattle.std.proofs.lemmas.List.Sums.{sum_by-append, sum_by-cons}
use Rattle.design_model.specs.Families.{cross_lines, pair_lines}
use Rattle.line_laws.specs.Lines.{SameThings, times}
use Rattle.line_laws.proofs.PairSums.{pairs_are_unordered, sum_by-same, times-append, times-flat_map}
use Rattle.following_laws.specs.FamilyLaws.{CrossesFollow, EachFollows, KeptLinesFollow, LinesThatStay, PairsFollow, PartsFollow, SameLinesFollow}

pub lines_that_stay : LinesThatStay
lines_that_stay lines = record { stay = lines; old_is = record { often = λ q. refl }; new_is = record { often = λ q. refl } }

pub parts_follow : PartsFollow
parts_follow a b out put c d out' put' f g = record {
  stay = f.stay ++ g.stay;
  old_is = record {
    often = λ q.
        let x = f.old_is.often q in
        let y = g.old_is.often q in
        omega (arith, x, y, times-append q a c, times-append q out f.stay, times-append q out' g.stay, times-append q (out ++ out') (f.stay ++ g.stay), times-append q out out', times-append q f.stay g.stay);
  };
  new_is = record {
    often = λ q.
        let x = f.new_is.often q in
        let y = g.new_is.often q in
        omega (arith, x, y, times-append q b d, times-append q put f.stay, times-append q put' g.stay, times-append q (put ++ put') (f.stay ++ g.stay), times-append q put put', times-append q f.stay g.stay);
  };
}

pub same_lines_follow : SameLinesFollow
same_lines_follow a b out put c d out' put' ac bd oo pp f = record {
  stay = f.stay;
  old_is = record {
    often = λ q.
        let x = f.old_is.often q in
        let y = ac.often q in
        let z = oo.often q in
        omega (arith, x, y, z, times-append q out f.stay, times-append q out' f.stay);
  };
  new_is = record {
    often = λ q.
        let x = f.new_is.often q in
        let y = bd.often q in
        let z = pp.often q in
        omega (arith, x, y, z, times-append q put f.stay, times-append q put' f.stay);
  };
}

pub kept_lines_follow : KeptLinesFollow
kept_lines_follow kept old new out put same f = record {
  stand = λ q.
      let x = same.often q in
      let y = f.old_is.often q in
      omega (arith, x, y, times-append q out f.stay);
  follow = λ left taken. record {
    often = λ q.
        let x = same.often q in
        let y = f.old_is.often q in
        let z = f.new_is.often q in
        let w = taken.often q in
        omega (arith, x, y, z, w, times-append q out f.stay, times-append q put f.stay, times-append q out left, times-append q put left);
  };
}

pub each_follows : (A : Type 0) → EachFollows A
each_follows A f old new out put stay e = record {
  stay = flat_map f stay;
  old_is = record {
    often = λ q.
        let w = λ (x : A). times q (f x) in
        let s = e.old_is.sums w in
        omega (arith, s, times-append q (flat_map f out) (flat_map f stay), times-flat_map q f old, times-flat_map q f out, times-flat_map q f stay, sum_by-append w out stay);
  };
  new_is = record {
    often = λ q.
        let w = λ (x : A). times q (f x) in
        let s = e.new_is.sums w in
        omega (arith, s, times-append q (flat_map f put) (flat_map f stay), times-flat_map q f new, times-flat_map q f put, times-flat_map q f stay, sum_by-append w put stay);
  };
}

-- weights of each thing with each of another list
abbrev row : {A B : Type 0} → List ℕ → (A → B → List (List ℕ)) → List B → A → ℕ
row q compare ys x = sum_by (λ y. times q (compare x y)) ys

times-cross_lines : {A B : Type 0} (q : List ℕ) (compare : A → B → List (List ℕ)) (xs : List A) (ys : List B) → times q (cross_lines compare xs ys) ≡ sum_by (row q compare ys) xs
times-cross_lines q compare xs ys = times-flat_map q (λ x. flat_map (compare x) ys) xs ∙ sum_by-same (λ x. times q (flat_map (compare x) ys)) (row q compare ys) (λ x. times-flat_map q (compare x) ys) xs

pair-append : {A : Type 0} (q : List ℕ) (compare : A → A → List (List ℕ)) (xs ys : List A)
    → times q (pair_lines compare (xs ++ ys)) ≡ (times q (pair_lines compare xs) + times q (cross_lines compare xs ys)) + times q (pair_lines compare ys)
pair-append q compare [] ys = omega arith
pair-append {A = A} q compare (x ∷ xs) ys =
    let r = pair-append q compare xs ys in
    let w = λ (y : A). times q (compare x y) in
    omega (
      arith,
      r,
      times-append q (flat_map (compare x) (xs ++ ys)) (pair_lines compare (xs ++ ys)),
      times-append q (flat_map (compare x) xs) (pair_lines compare xs),
      times-append q (flat_map (compare x) ys) (cross_lines compare xs ys),
      times-flat_map q (compare x) (xs ++ ys),
      times-flat_map q (compare x) xs,
      times-flat_map q (compare x) ys,
      sum_by-append w xs ys,
    )

pub pairs_follow : (A : Type 0) → PairsFollow A
pairs_follow A compare old new out put stay s e = record {
  stay = pair_lines compare stay;
  old_is = record {
    often = λ q.
        let h = (pairs_are_unordered A compare old (out ++ stay) s e.old_is).often q in
        omega (
          arith,
          h,
          pair-append q compare out stay,
          times-append q (pair_lines compare out ++ cross_lines compare out stay) (pair_lines compare stay),
          times-append q (pair_lines compare out) (cross_lines compare out stay),
        );
  };
  new_is = record {
    often = λ q.
        let h = (pairs_are_unordered A compare new (put ++ stay) s e.new_is).often q in
        omega (
          arith,
          h,
          pair-append q compare put stay,
          times-append q (pair_lines compare put ++ cross_lines compare put stay) (pair_lines compare stay),
          times-append q (pair_lines compare put) (cross_lines compare put stay),
        );
  };
}

-- the lines with each of a list of which some go out
row-parted : {A B : Type 0} (q : List ℕ) (compare : A → B → List (List ℕ)) (ys some rest : List B) → SameThings ys (some ++ rest) → (xs : List A)
    → sum_by (row q compare ys) xs ≡ sum_by (row q compare some) xs + sum_by (row q compare rest) xs
row-parted q compare ys some rest s [] = refl
row-parted {B = B} q compare ys some rest s (x ∷ xs) =
    let r = row-parted q compare ys some rest s xs in
    let w = λ (y : B). times q (compare x y) in
    let e = s.sums w in
    omega (arith, r, e, sum_by-append w some rest, sum_by-cons (row q compare ys) x xs, sum_by-cons (row q compare some) x xs, sum_by-cons (row q compare rest) x xs)

-- of two lists some things are changed each: what the changed ones have with all, what the rest has with the changed ones, and what
-- the rests have
crossed : {A B : Type 0} (q : List ℕ) (compare : A → B → List (List ℕ)) (xs some stay : List A) (ys some' stay' : List B) → SameThings xs (some ++ stay) → SameThings ys (some' ++ stay')
    → times q (cross_lines compare xs ys) ≡ times q ((cross_lines compare some ys ++ cross_lines compare stay some') ++ cross_lines compare stay stay')
crossed q compare xs some stay ys some' stay' s t =
    let h = s.sums (row q compare ys) in
    omega (
      arith,
      h,
      times-append q (cross_lines compare some ys ++ cross_lines compare stay some') (cross_lines compare stay stay'),
      times-append q (cross_lines compare some ys) (cross_lines compare stay some'),
      times-cross_lines q compare xs ys,
      times-cross_lines q compare some ys,
      times-cross_lines q compare stay some',
      times-cross_lines q compare stay stay',
      sum_by-append (row q compare ys) some stay,
      row-parted q compare ys some' stay' t stay,
    )

pub crosses_follow : (A B : Type 0) → CrossesFollow A B
crosses_follow A B compare old new out put stay old' new' out' put' stay' e f = record {
  stay = cross_lines compare stay stay';
  old_is = record { often = λ q. crossed q compare old out stay old' out' stay' e.old_is f.old_is };
  new_is = record { often = λ q. crossed q compare new put stay new' put' stay' e.new_is f.new_is };
}
