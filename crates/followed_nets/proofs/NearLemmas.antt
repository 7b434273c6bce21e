-- How many pairs of shapes are near each other, as shapes come and go.
use Rattle.std.proofs.Common.{◌≡◌, ◌∙◌, ◌+◌, ◌≤◌, ℕ, cond, List, [], ◌∷◌, ◌++◌, map, sum_by, refl, sym, ap, arith}
use Rattle.std.proofs.lemmas.List.Sums.{sum_by-append, sum_by-cons, sum_by-le-sum_by}
use Rattle.lef_grammar.specs.Measures.{Shape}
use Rattle.connection_rules.specs.NetLines.{NetShape}
use Rattle.line_laws.specs.Lines.{SameThings}
use Rattle.named_shapes.specs.Named.{named}
use Rattle.shape_index.specs.Near.{near_shape, near_shapes}
use Rattle.followed_nets.specs.Pieces.{AreAmong}
use Rattle.followed_nets.specs.Tests.{near_each, near_told, plain}
use Rattle.followed_nets.specs.Told.{Told}

pub all_among : (shapes : List NetShape) → AreAmong shapes shapes
all_among shapes = record { others = []; all_are = record { sums = λ w. refl } }

pub among_these : (some these all : List NetShape) → AreAmong some these → AreAmong these all → AreAmong some all
among_these some these all few more = record {
  others = more.others ++ few.others;
  all_are = record {
    sums = λ w.
        let a = few.all_are.sums w in
        let b = more.all_are.sums w in
        omega (arith, a, b, sum_by-append w few.others some, sum_by-append w more.others these, sum_by-append w (more.others ++ few.others) some, sum_by-append w more.others few.others);
  };
}

pub among_same : (some all others : List NetShape) → SameThings all (others ++ some) → AreAmong some all
among_same some all others same = record { others = others; all_are = same }

-- 1 for a shape that is near another
abbrev pub near_one : Shape → NetShape → ℕ
near_one s n = cond (near_shape s n.shape) 1 0

pub sum_near : (s : Shape) (shapes : List NetShape) → near_shapes s (plain shapes) ≡ sum_by (near_one s) shapes
sum_near s [] = refl
sum_near s (n ∷ shapes) =
    let r = sum_near s shapes in
    omega (arith, r, sum_by-cons (λ (t : Shape). cond (near_shape s t) 1 0) n.shape (plain shapes), sum_by-cons (near_one s) n shapes)

one_more : (s : Shape) (some all : List NetShape) → AreAmong some all → near_shapes s (plain some) ≤ near_shapes s (plain all)
one_more s some all among =
    let is = among.all_are.sums (near_one s) in
    omega (arith, is, sum_near s some, sum_near s all, sum_by-append (near_one s) among.others some)

pub near_more : (own : List Shape) (some all : List NetShape) → AreAmong some all → near_each own some ≤ near_each own all
near_more own some all among = sum_by-le-sum_by (λ (s : Shape). near_shapes s (plain some)) (λ (s : Shape). near_shapes s (plain all)) own (λ s. one_more s some all among)

-- one net more is compared with what is left, or with what is there
pub one_tested : (all ts : List Told) (t : Told) (shapes few : List NetShape) (before now next : ℕ) → all ≡ ts ++ t ∷ [] → AreAmong few shapes → next ≤ now + near_each t.shapes few
    → now + near_told all shapes ≤ before → next + near_told ts shapes ≤ before
one_tested all ts t shapes few before now next is among step h =
    let w = λ (u : Told). near_each u.shapes shapes in
    let same = ap (sum_by w) is in
    let more = near_more t.shapes few shapes among in
    omega (arith, same, more, step, h, sum_by-append w ts (t ∷ []), sum_by-cons w t [])
