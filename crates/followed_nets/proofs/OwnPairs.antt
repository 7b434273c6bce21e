-- The shapes of nets that are near others of the same net are no more than those that are near others of the whole design.
use Rattle.std.proofs.Common.{◌≡◌, ◌∙◌, ◌+◌, ◌*◌, ◌≤◌, ℕ, cond, List, [], ◌∷◌, ◌++◌, map, sum_by, refl, sym, ap, arith}
use Rattle.std.specs.Prelude.{flat_map}
use Rattle.std.proofs.lemmas.List.{map-append}
use Rattle.std.proofs.lemmas.List.Sums.{sum_by-append, sum_by-cons, sum_by-le-sum_by}
use Rattle.def_grammar.specs.Records.{Record}
use Rattle.lef_grammar.specs.Library.{Library}
use Rattle.lef_grammar.specs.Measures.{Shape}
use Rattle.connection_rules.specs.NetLines.{Barrier, NetShape, net_shapes, shapes_of_net}
use Rattle.connection_rules.specs.NetParts.{Net, all_nets, net_named}
use Rattle.design_rules.specs.Boxes.{scale}
use Rattle.line_laws.specs.Lines.{SameThings}
use Rattle.net_checks.specs.NearWithin.{near_in_net, near_themselves, near_within}
use Rattle.net_queries.proofs.Sums.{sums_mapped}
use Rattle.shape_index.specs.Near.{near_shape, near_shapes}
use Rattle.followed_nets.specs.Exchanging.{AreToldIn, name_of}
use Rattle.followed_nets.specs.StarExchanges.{nets_of}
use Rattle.followed_nets.specs.Tests.{near_own, near_pairs, plain}
use Rattle.followed_nets.specs.Told.{Told}
use Rattle.followed_nets.proofs.NearLemmas.{near_one, sum_near}
use Rattle.followed_nets.proofs.NearPairs.{shapes_told}

-- more shapes are near more
more_near : (xs ys : List Shape) → near_themselves xs + near_themselves ys ≤ near_themselves (xs ++ ys)
more_near xs ys =
    let both = λ (s : Shape). near_shapes s (xs ++ ys) in
    let one = sum_by-le-sum_by (λ (s : Shape). near_shapes s xs) both xs (λ s. let b = near_both s in omega (arith, b)) in
    let other = sum_by-le-sum_by (λ (s : Shape). near_shapes s ys) both ys (λ s. let b = near_both s in omega (arith, b)) in
    omega (arith, one, other, sum_by-append both xs ys)
  where
    near_both : (s : Shape) → near_shapes s (xs ++ ys) ≡ near_shapes s xs + near_shapes s ys
    near_both s = sum_by-append (λ (t : Shape). cond (near_shape s t) 1 0) xs ys

-- all nets together
pub near_in_all : (nets : List Net) → near_within nets ≤ near_themselves (map (λ (n : NetShape). n.shape) (flat_map shapes_of_net nets))
near_in_all [] = omega arith
near_in_all (n ∷ nets) =
    let later = near_in_all nets in
    let own = plain (shapes_of_net n) in
    let others = plain (flat_map shapes_of_net nets) in
    let together = ap near_themselves (map-append (λ (s : NetShape). s.shape) (shapes_of_net n) (flat_map shapes_of_net nets)) in
    omega (arith, later, together, more_near own others, sum_by-cons near_in_net n nets)

-- where the nets of some names are among those of a design
module _ (library : Library) (design : List Record) (names more : List (List ℕ)) (stay : List Net) (all_are : SameThings (all_nets library design (scale design)) (nets_of library design (names ++ more) ++ stay)) where
  abbrev own_of : List ℕ → List Shape
  own_of name = plain (shapes_of_net (net_named library design (scale design) name))

  abbrev near : Shape → ℕ
  near s = near_shapes s (map (λ (n : NetShape). n.shape) (net_shapes library design (scale design)))

  -- how many shapes of nets are near one
  near_nets_of : (s : Shape) (nets : List Net) → near_shapes s (plain (flat_map shapes_of_net nets)) ≡ sum_by (λ (n : Net). near_shapes s (plain (shapes_of_net n))) nets
  near_nets_of s [] = refl
  near_nets_of s (n ∷ nets) =
      let later = near_nets_of s nets in
      omega (
        arith,
        later,
        sum_near s (shapes_of_net n),
        sum_near s (flat_map shapes_of_net nets),
        sum_near s (shapes_of_net n ++ flat_map shapes_of_net nets),
        sum_by-append (near_one s) (shapes_of_net n) (flat_map shapes_of_net nets),
        sum_by-cons (λ (m : Net). near_shapes s (plain (shapes_of_net m))) n nets,
      )

  pub near_some : (s : Shape) → sum_by (λ (name : List ℕ). near_shapes s (own_of name)) names ≤ near s
  near_some s =
      let v = λ (n : Net). near_shapes s (plain (shapes_of_net n)) in
      let u = λ (name : List ℕ). near_shapes s (own_of name) in
      let whole = near_nets_of s (all_nets library design (scale design)) ∙ all_are.sums v in
      omega (arith, whole, sum_by-append v (nets_of library design (names ++ more)) stay, sums_mapped v (net_named library design (scale design)) (names ++ more), sum_by-append u names more)

  pub near_each_own : (some : List (List ℕ)) → ((s : Shape) → sum_by (λ (name : List ℕ). near_shapes s (own_of name)) some ≤ near s)
      → sum_by (λ (name : List ℕ). near_themselves (own_of name)) some ≤ sum_by (λ (name : List ℕ). sum_by near (own_of name)) some
  near_each_own [] low = omega arith
  near_each_own (name ∷ some) low =
      let one = λ (s : Shape). sum_by-cons (λ (n : List ℕ). near_shapes s (own_of n)) name some in
      let here = sum_by-le-sum_by (λ (s : Shape). near_shapes s (own_of name)) near (own_of name) (λ s. let l = low s in let c = one s in omega (arith, l, c)) in
      let later = near_each_own some (λ s. let l = low s in let c = one s in omega (arith, l, c)) in
      omega (arith, here, later, sum_by-cons (λ (n : List ℕ). near_themselves (own_of n)) name some, sum_by-cons (λ (n : List ℕ). sum_by near (own_of n)) name some)

  pub own_told : (bars : List Barrier) (ts : List Told) → AreToldIn library bars design ts → near_own ts ≡ sum_by (λ (name : List ℕ). near_themselves (own_of name)) (map name_of ts)
  own_told bars [] told = refl
  own_told bars (t ∷ ts) told =
      let here = ap near_themselves (shapes_told library design bars t told.0) in
      let later = own_told bars ts told.1 in
      omega (arith, here, later, sum_by-cons (λ (u : Told). near_themselves u.shapes) t ts, sum_by-cons (λ (name : List ℕ). near_themselves (own_of name)) t.name (map name_of ts))

  -- what is told of these nets
  pub own_is_few : (bars : List Barrier) (ts : List Told) → AreToldIn library bars design ts → map name_of ts ≡ names → near_own ts ≤ near_pairs library design (names ++ more)
  own_is_few bars ts told named =
      let own = own_told bars ts told ∙ ap (sum_by (λ (name : List ℕ). near_themselves (own_of name))) named in
      let few = near_each_own names near_some in
      omega (arith, own, few, sum_by-append (λ (name : List ℕ). sum_by near (own_of name)) names more)

-- Nets that went and nets that came are told, by few comparisons each, and then compared with others. (Over variables, as these sums are large
-- terms.)
pub told_few : (start gone come gone_tests come_tests told then_told : ℕ) → start ≤ gone + come → gone ≤ gone_tests → come ≤ come_tests → gone_tests ≤ told → come_tests ≤ then_told → start ≤ told + then_told
told_few start gone come gone_tests come_tests told then_told begun a b c d = omega (arith, begun, a, b, c, d)

pub twice : (n start out put old new : ℕ) → n ≤ start + (out + put) → start ≤ old + new → out ≤ old → put ≤ new → n ≤ 2 * (old + new)
twice n start out put old new few begun a b = omega (arith, few, begun, a, b)
