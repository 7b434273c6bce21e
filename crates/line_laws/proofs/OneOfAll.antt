-- The lines that one thing of a list takes with it.
use Rattle.std.proofs.Common.{List, ◌∷◌, ◌++◌, refl, arith}
use Rattle.std.specs.List.{flat_map}
use Rattle.design_model.specs.Geometry.{Rectangle}
use Rattle.design_rules.specs.Boxes.{Boxed, boxes}
use Rattle.design_model.specs.Families.{cross_lines, lines_with, pair_lines}
use Rattle.design_rules.specs.OverlapLines.{overlap_of}
use Rattle.design_rules.specs.PlaceLines.{blocked_of, lines_in}
use Rattle.design_rules.specs.Surroundings.{keep_outs, surroundings}
use Rattle.line_laws.specs.OneLaws.{OneTakesItsLines, OneComponentTakesItsLines, DesignHasComponentLines, ComponentsInAnyOrder, component_lines, own_lines}
use Rattle.line_laws.proofs.EachSums.{crosses_are_unordered, each_is_unordered}
use Rattle.line_laws.proofs.Overlaps.{overlaps_are_symmetric}
use Rattle.line_laws.proofs.PairSums.{pairs_are_unordered, times-append}

pub one_takes_its_lines : (A : Type 0) → OneTakesItsLines A
one_takes_its_lines A compare all rest x s h = pairs_are_unordered A compare all (x ∷ rest) s h

pub one_component_takes_its_lines : OneComponentTakesItsLines
one_component_takes_its_lines s outs all rest c h =
    let pairs = pair_lines overlap_of in
    let each = flat_map (lines_in s) in
    let out = λ (b : Boxed). flat_map (blocked_of b) outs in
    let all_pairs = one_takes_its_lines Boxed overlap_of all rest c overlaps_are_symmetric h in
    let all_each = each_is_unordered Boxed (lines_in s) all (c ∷ rest) h in
    let all_outs = each_is_unordered Boxed out all (c ∷ rest) h in
    record {
      often = λ q.
          let a = all_pairs.often q in
          let b = all_each.often q in
          let d = all_outs.often q in
          omega (
            arith,
            a,
            b,
            d,
            times-append q (pairs all) (each all ++ flat_map out all),
            times-append q (each all) (flat_map out all),
            times-append q (lines_with overlap_of c rest) (pairs rest),
            times-append q (lines_in s c) (each rest),
            times-append q (out c) (flat_map out rest),
            times-append q (own_lines s outs c rest) (component_lines s outs rest),
            times-append q (lines_with overlap_of c rest) (lines_in s c ++ out c),
            times-append q (lines_in s c) (out c),
            times-append q (pairs rest) (each rest ++ flat_map out rest),
            times-append q (each rest) (flat_map out rest),
          );
    }

pub design_has_component_lines : DesignHasComponentLines
design_has_component_lines library design = refl

pub components_in_any_order : ComponentsInAnyOrder
components_in_any_order library design cs before blocked same is_blocked =
    let bs = boxes library design in
    let outs = keep_outs design in
    let pairs = pair_lines overlap_of in
    let each = flat_map (lines_in (surroundings library design)) in
    let cross = λ (xs : List Boxed). cross_lines blocked_of xs outs in
    let same_outs = crosses_are_unordered Boxed Rectangle blocked_of bs cs outs outs same (record { sums = λ w. refl }) in
    let all_pairs = pairs_are_unordered Boxed overlap_of bs cs overlaps_are_symmetric same in
    let all_each = each_is_unordered Boxed (lines_in (surroundings library design)) bs cs same in
    record {
      often = λ q.
          let a = all_pairs.often q in
          let b = all_each.often q in
          let d = same_outs.often q in
          let e = is_blocked.often q in
          omega (
            arith,
            a,
            b,
            d,
            e,
            times-append q ((before ++ pairs cs) ++ each cs) blocked,
            times-append q (before ++ pairs cs) (each cs),
            times-append q before (pairs cs),
            times-append q before (pairs bs ++ (each bs ++ cross bs)),
            times-append q (pairs bs) (each bs ++ cross bs),
            times-append q (each bs) (cross bs),
          );
    }
