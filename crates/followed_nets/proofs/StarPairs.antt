-- The shapes of nets that are kept with their parts are near no more of the same net than of the whole design.
use Rattle.std.proofs.Common.{◌≡◌, ◌∙◌, ◌+◌, ◌≤◌, ℕ, cond, List, [], ◌∷◌, ◌++◌, map, sum_by, refl, sym, ap, arith, subst}
use Rattle.std.specs.Prelude.{reverse}
use Rattle.std.specs.List.{AllByRecursion}
use Rattle.std.proofs.lemmas.List.{append-nil}
use Rattle.std.proofs.lemmas.List.Sorted.{IsPermutation-reverse, sum_by-IsPermutation}
use Rattle.std.proofs.lemmas.List.Sums.{sum_by-append, sum_by-cons}
use Rattle.def_grammar.specs.Records.{Record}
use Rattle.lef_grammar.specs.Library.{Library}
use Rattle.lef_grammar.specs.Measures.{Shape}
use Rattle.connection_rules.specs.NetLines.{Barrier, shapes_of_net}
use Rattle.connection_rules.specs.NetParts.{Net, Part, all_nets, net_named}
use Rattle.design_rules.specs.Boxes.{scale}
use Rattle.kept_nets.specs.NearParts.{near_in_parts}
use Rattle.kept_nets.specs.Parts.{shapes_in}
use Rattle.line_laws.specs.Lines.{SameThings}
use Rattle.line_laws.proofs.PairSums.{sum_by-same}
use Rattle.net_checks.specs.NearWithin.{near_themselves}
use Rattle.shape_index.specs.Near.{near_shape, near_shapes}
use Rattle.followed_nets.specs.Exchanging.{AreToldIn, name_of}
use Rattle.followed_nets.specs.StarExchanges.{nets_of}
use Rattle.followed_nets.specs.StarTests.{near_in_nets}
use Rattle.followed_nets.specs.Stars.{IsStar, names_of}
use Rattle.followed_nets.specs.Tests.{near_own, near_pairs, plain}
use Rattle.followed_nets.specs.Told.{Told}
use Rattle.followed_nets.proofs.NearPairs.{plain_parts, sum_in_parts}
use Rattle.followed_nets.proofs.OwnPairs.{near_each_own, near_some, own_told}

-- the same parts in another order
module _ (ps qs : List Part) (same : SameThings ps qs) where
  in_any_order : (w : Shape → ℕ) → sum_by w (shapes_in ps) ≡ sum_by w (shapes_in qs)
  in_any_order w = sum_in_parts w ps ∙ same.sums (λ (p : Part). sum_by w p.shapes) ∙ sym (sum_in_parts w qs)

  pub near_alike : near_in_parts ps ≡ near_in_parts qs
  near_alike =
      sum_by-same (λ (s : Shape). near_shapes s (shapes_in ps)) (λ (s : Shape). near_shapes s (shapes_in qs)) (λ s. in_any_order (λ (t : Shape). cond (near_shape s t) 1 0)) (shapes_in ps)
      ∙ in_any_order (λ (s : Shape). near_shapes s (shapes_in qs))

module _ (library : Library) (design : List Record) where
  abbrev own_shapes : List ℕ → List Shape
  own_shapes name = plain (shapes_of_net (net_named library design (scale design) name))

  one_star : (s : Net) → IsStar library design s → near_in_parts s.parts ≡ near_themselves (own_shapes s.name)
  one_star s star =
      let net = net_named library design (scale design) s.name in
      near_alike s.parts net.parts star.net.same_parts ∙ sym (ap near_themselves (plain_parts net net.parts))

  -- each net that is kept
  pub stars_own : (stars : List Net) → AllByRecursion (IsStar library design) stars → near_in_nets stars ≡ sum_by (λ (name : List ℕ). near_themselves (own_shapes name)) (names_of stars)
  stars_own [] are = refl
  stars_own (s ∷ stars) are =
      let here = one_star s are.0 in
      let later = stars_own stars are.1 in
      omega (arith, here, later, sum_by-cons (λ (n : Net). near_in_parts n.parts) s stars, sum_by-cons (λ (name : List ℕ). near_themselves (own_shapes name)) s.name (names_of stars))

  -- with the nets that are told
  module _ (names more : List (List ℕ)) (stay : List Net) (all_are : SameThings (all_nets library design (scale design)) (nets_of library design (names ++ more) ++ stay)) where
    pub both_few : (bars : List Barrier) (ts : List Told) (stars : List Net) → AreToldIn library bars design ts → map name_of ts ≡ names → AllByRecursion (IsStar library design) stars → names_of stars ≡ more
        → near_own ts + near_in_nets stars ≤ near_pairs library design (names ++ more)
    both_few bars ts stars told named kept kept_named =
        let w = λ (name : List ℕ). near_themselves (own_shapes name) in
        let all : SameThings (all_nets library design (scale design)) (nets_of library design ((names ++ more) ++ []) ++ stay) =
        subst (λ (ns : List (List ℕ)). SameThings (all_nets library design (scale design)) (nets_of library design ns ++ stay)) (sym (append-nil (names ++ more))) all_are in
        let own = own_told library design (names ++ more) [] stay all bars ts told ∙ ap (sum_by w) named in
        let others = stars_own stars kept ∙ ap (sum_by w) kept_named in
        let few = near_each_own library design (names ++ more) [] stay all (names ++ more) (near_some library design (names ++ more) [] stay all) in
        omega (arith, own, others, few, sum_by-append w names more)

-- nets are told, and those that are kept follow, by few comparisons (over variables, as these sums are large terms)
pub stars_few : (tests begun own then_own stars then old new : ℕ) → begun ≤ own + then_own → tests ≤ begun + (stars + then) → own + stars ≤ old → then_own + then ≤ new → tests ≤ old + new
stars_few tests begun own then_own stars then old new a b c d = omega (arith, a, b, c, d)

pub plainly_few : (tests begun own then_own old new : ℕ) → begun ≤ own + then_own → tests ≡ begun → own ≤ old → then_own ≤ new → tests ≤ old + new
plainly_few tests begun own then_own old new a b c d = omega (arith, a, b, c, d)

-- One more net has followed.
pub next_few : (stars rest done done_then all : List Net) (old new : Net) (now one next : ℕ) → stars ≡ rest ++ old ∷ [] → done_then ≡ done ++ new ∷ [] → one ≤ near_in_parts old.parts + near_in_parts new.parts → next ≤ now + one
    → now + near_in_nets stars ≤ near_in_nets all + near_in_nets done → next + near_in_nets rest ≤ near_in_nets all + near_in_nets done_then
next_few stars rest done done_then all old new now one next is is_then few step h =
    let w = λ (n : Net). near_in_parts n.parts in
    let a = ap near_in_nets is in
    let b = ap near_in_nets is_then in
    omega (arith, few, step, h, a, b, sum_by-append w rest (old ∷ []), sum_by-append w done (new ∷ []), sum_by-cons w old [], sum_by-cons w new [])

-- In the end all have.
pub all_followed_few : (stars done done_then all : List Net) (tests : ℕ) → stars ≡ [] → done_then ≡ reverse done → tests + near_in_nets stars ≤ near_in_nets all + near_in_nets done → tests ≤ near_in_nets all + near_in_nets done_then
all_followed_few stars done done_then all tests none turned h =
    let w = λ (n : Net). near_in_parts n.parts in
    let a = ap near_in_nets turned in
    let b = sum_by-IsPermutation w done (reverse done) (IsPermutation-reverse done) in
    omega (arith, h, a, b)
