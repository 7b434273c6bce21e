-- Lines on nets don't hang on the order of the rectangles where routing is blocked.
use Rattle.std.proofs.Common.{◌≡◌, ◌∙◌, ℕ, List, [], ◌∷◌, ◌++◌, map, sum_by, refl, sym, ap, arith}
use Rattle.std.specs.Prelude.{flat_map}
use Rattle.design_model.specs.Families.{cross_lines, pair_lines}
use Rattle.design_model.specs.Order.{sorted_by_bytes}
use Rattle.def_grammar.specs.Records.{Record}
use Rattle.lef_grammar.specs.Library.{Library}
use Rattle.connection_rules.specs.NetLines.{Barrier, NetShape, class_lines, layer_name, routeblock_of, shapes_of_net, short_of}
use Rattle.connection_rules.specs.NetParts.{Net, net_named}
use Rattle.design_rules.specs.Boxes.{scale}
use Rattle.following_laws.specs.DesignLaws.{lines_on_nets}
use Rattle.line_laws.specs.Lines.{SameLines, SameThings, times}
use Rattle.line_laws.proofs.PairSums.{sum_by-same, times-append, times-flat_map}
use Rattle.followed_nets.specs.Exchanging.{AreToldIn}
use Rattle.followed_nets.specs.Told.{Told}

-- the lines of things with others
pub crossed_alike : {A B : Type 0} (f : A → B → List (List ℕ)) (q : List ℕ) (xs : List A) (ys zs : List B) → SameThings ys zs → times q (cross_lines f xs ys) ≡ times q (cross_lines f xs zs)
crossed_alike {A = A} {B = B} f q xs ys zs same =
    times-flat_map q (λ (x : A). flat_map (f x) ys) xs
    ∙ sum_by-same (λ (x : A). times q (flat_map (f x) ys)) (λ (x : A). times q (flat_map (f x) zs))
    (λ x. times-flat_map q (f x) ys ∙ same.sums (λ (y : B). times q (f x y)) ∙ sym (times-flat_map q (f x) zs)) xs
    ∙ sym (times-flat_map q (λ (x : A). flat_map (f x) zs) xs)

pub same_barred : (name_of : ℕ → List ℕ) (nets : List Net) (bars others : List Barrier) → SameThings bars others → SameLines (lines_on_nets name_of nets bars) (lines_on_nets name_of nets others)
same_barred name_of nets bars others same = record {
  often = λ q.
      let shapes = flat_map shapes_of_net nets in
      let pairs = pair_lines (short_of name_of) shapes in
      let classes = flat_map class_lines nets in
      let walls = λ (bs : List Barrier). cross_lines (routeblock_of name_of) shapes bs in
      let alike = crossed_alike (routeblock_of name_of) q shapes bars others same in
      omega (
        arith,
        alike,
        times-append q pairs (walls bars ++ classes),
        times-append q (walls bars) classes,
        times-append q pairs (walls others ++ classes),
        times-append q (walls others) classes,
      );
}

pub same_order : {A : Type 0} {xs ys : List A} → SameThings xs ys → SameThings ys xs
same_order same = record { sums = λ w. sym (same.sums w) }

-- what is told of nets doesn't either
pub told_alike : (library : Library) (bars others : List Barrier) → SameThings bars others → (design : List Record) (ts : List Told) → AreToldIn library bars design ts → AreToldIn library others design ts
told_alike library bars others same design [] told = tt
told_alike library bars others same design (t ∷ ts) told =
    let is = told.0.told in
    let net = net_named library design (scale design) t.name in (
      record {
        some = told.0.some;
        tell = told.0.tell;
        told = record {
          name_is = is.name_is;
          lines_are = record { often = λ q. is.lines_are.often q ∙ (same_barred (layer_name library.layers) (net ∷ []) bars others same).often q };
          shapes_are = is.shapes_are;
        };
      },
      told_alike library bars others same design ts told.1,
    )
