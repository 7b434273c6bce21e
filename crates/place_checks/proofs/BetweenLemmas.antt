-- The lines of components with others and with rectangles depend on their names and their boxes alone.
use Rattle.std.proofs.Common.{◌≡◌, ℕ, List, [], ◌∷◌, ◌++◌, map, refl, ap, ap₂, ◌∙◌, arith, subst}
use Rattle.std.specs.Prelude.{flat_map}
use Rattle.design_model.specs.Families.{cross_lines, lines_with, pair_lines}
use Rattle.design_model.specs.Geometry.{Rectangle}
use Rattle.design_rules.specs.Boxes.{Boxed}
use Rattle.design_rules.specs.OverlapLines.{overlap_of}
use Rattle.design_rules.specs.PlaceLines.{blocked_of}
use Rattle.line_laws.specs.Lines.{SameLines, SameThings}
use Rattle.line_laws.specs.EachLaws.{CrossesAreUnordered}
use Rattle.line_laws.specs.PairLaws.{OverlapLinesAreUnordered}
use Rattle.line_laws.specs.SameLaws.{MapsAreSame}
use Rattle.line_laws.proofs.PairSums.{times-append}
use Rattle.place_checks.specs.declared.swept_box.SweptBox.{SweptBox}
use Rattle.place_checks.specs.Views.{bare, swept_view}

abbrev Lines : Type 0
Lines = List (List ℕ)

bare_with : (x : Boxed) (xs : List Boxed) → lines_with overlap_of (bare x) (map bare xs) ≡ lines_with overlap_of x xs
bare_with x [] = refl
bare_with x (y ∷ ys) = ap (λ (ls : Lines). overlap_of x y ++ ls) (bare_with x ys)

bare_pairs : (xs : List Boxed) → pair_lines overlap_of (map bare xs) ≡ pair_lines overlap_of xs
bare_pairs [] = refl
bare_pairs (x ∷ xs) = ap₂ (λ (a b : Lines). a ++ b) (bare_with x xs) (bare_pairs xs)

bare_on : (x : Boxed) (outs : List Rectangle) → flat_map (blocked_of (bare x)) outs ≡ flat_map (blocked_of x) outs
bare_on x [] = refl
bare_on x (r ∷ rs) = ap (λ (ls : Lines). blocked_of x r ++ ls) (bare_on x rs)

bare_crosses : (xs : List Boxed) (outs : List Rectangle) → cross_lines blocked_of (map bare xs) outs ≡ cross_lines blocked_of xs outs
bare_crosses [] outs = refl
bare_crosses (x ∷ xs) outs = ap₂ (λ (a b : Lines). a ++ b) (bare_on x outs) (bare_crosses xs outs)

-- and not on the order in which a sweep has them
pub between : OverlapLinesAreUnordered → CrossesAreUnordered Boxed Rectangle → MapsAreSame SweptBox Boxed → (outs : List Rectangle) (boxes sorted : List SweptBox)
    (components : List Boxed) (before own old pairs new : Lines) → SameThings boxes sorted → SameThings outs outs → map swept_view boxes ≡ map bare components → old ≡ before ++ own
    → pairs ≡ old ++ pair_lines overlap_of (map swept_view sorted) → SameLines new (pairs ++ cross_lines blocked_of (map swept_view sorted) outs)
    → SameLines new (before ++ (pair_lines overlap_of components ++ (own ++ cross_lines blocked_of components outs)))
between pairs_turn crosses_turn maps outs boxes sorted components before own old pairs new same outs_same are begun paired crossed =
    let moved : SameThings (map bare components) (map swept_view sorted) = subst (λ (l : List Boxed). SameThings l (map swept_view sorted)) are (maps swept_view boxes sorted same) in
    let a : SameLines (pair_lines overlap_of components) (pair_lines overlap_of (map swept_view sorted)) =
    subst (λ (l : Lines). SameLines l (pair_lines overlap_of (map swept_view sorted))) (bare_pairs components) (pairs_turn (map bare components) (map swept_view sorted) moved) in
    let b : SameLines (cross_lines blocked_of components outs) (cross_lines blocked_of (map swept_view sorted) outs) =
    subst (λ (l : Lines). SameLines l (cross_lines blocked_of (map swept_view sorted) outs)) (bare_crosses components outs) (crosses_turn blocked_of (map bare components) (map swept_view sorted) outs outs moved outs_same) in
    let ps = pair_lines overlap_of components in
    let qs = pair_lines overlap_of (map swept_view sorted) in
    let cs = cross_lines blocked_of components outs in
    let ds = cross_lines blocked_of (map swept_view sorted) outs in
    let all : SameLines new (((before ++ own) ++ qs) ++ ds) = subst (λ (l : Lines). SameLines new (l ++ ds)) (paired ∙ ap (λ (l : Lines). l ++ qs) begun) crossed in
    record {
      often = λ q.
          omega (
            arith,
            all.often q,
            a.often q,
            b.often q,
            times-append q ((before ++ own) ++ qs) ds,
            times-append q (before ++ own) qs,
            times-append q before own,
            times-append q before (ps ++ (own ++ cs)),
            times-append q ps (own ++ cs),
            times-append q own cs,
          );
    }
