-- Components that go out of those whose boxes are kept, and others that come in.
use Rattle.std.proofs.Common.{◌≡◌, ◌≤◌, ◌+◌, ◌-◌, ◌^◌, ℕ, min, List, [], ◌∷◌, ◌++◌, map, sum_by, Option, refl, sym, ap, arith}
use Rattle.std.proofs.lemmas.List.Sums.{sum_by-append}
use Rattle.design_model.specs.declared.identifier.StmtId.{StmtId}
use Rattle.design_model.specs.Geometry.{Rectangle}
use Rattle.design_model.specs.Families.{cross_lines}
use Rattle.design_rules.specs.Boxes.{Boxed}
use Rattle.design_rules.specs.PlaceLines.{blocked_of}
use Rattle.design_rules.specs.Surroundings.{Surroundings}
use Rattle.lef_grammar.specs.Library.{Library}
use Rattle.line_laws.specs.Lines.{SameLines, SameThings}
use Rattle.following_laws.specs.DesignLaws.{lines_of_components}
use Rattle.following_laws.specs.FamilyLaws.{SameLinesFollow}
use Rattle.following_laws.specs.Following.{LinesFollow}
use Rattle.text_pieces.specs.KeptRecords.{records_under}
use Rattle.text_pieces.specs.Tables.{Kept}
use Rattle.followed_places.specs.Lines.{AreBoxesOf, Awaits, boxed_under}
use Rattle.followed_places.specs.Placed.{component_of, placed_view}
use Rattle.followed_places.specs.Places.{components_under, place_under}
use Rattle.followed_places.specs.Tests.{met_sum, near_sum}
use Rattle.followed_places.specs.declared.components.Placed.{Placed}
use Rattle.followed_places.proofs.NearSums.{before_others, both_least, met_sum_same, near_sum_same}

same_components : (ps : List Placed) → map (λ (x : StmtId × Boxed). x.1) (map placed_view ps) ≡ map component_of ps
same_components [] = refl
same_components (p ∷ ps) = ap (λ (bs : List Boxed). component_of p ∷ bs) (same_components ps)

same_places : (ps : List Placed) → map (λ p. place_under (placed_view p)) ps ≡ map place_under (map placed_view ps)
same_places [] = refl
same_places (p ∷ ps) = ap (λ (bs : List (StmtId × Rectangle)). place_under (placed_view p) ∷ bs) (same_places ps)

-- each that goes or comes is compared with those that are left alone
pub few_compared : (these left outs puts went came gone come : List (StmtId × Rectangle)) (out put tests : ℕ) → SameThings left these
    → out ≤ near_sum (left ++ outs) went + near_sum left gone → put ≤ near_sum (left ++ puts) came + near_sum left come → tests ≤ out + put
    → tests ≤ (near_sum (these ++ outs) went + near_sum these gone) + (near_sum (these ++ puts) came + near_sum these come)
few_compared these left outs puts went came gone come out put tests same out_few put_few few =
    omega (
      arith,
      out_few,
      put_few,
      few,
      near_sum_same (left ++ outs) (these ++ outs) went (before_others left these outs same),
      near_sum_same left these gone same,
      near_sum_same (left ++ puts) (these ++ puts) came (before_others left these puts same),
      near_sum_same left these come same,
    )

-- and with all of them that it meets
pub met_compared : (these left outs puts went came gone come : List (StmtId × Rectangle)) (out put tests : ℕ) → SameThings left these
    → min (met_sum (left ++ outs) went + met_sum left gone) (2 ^ 64 - 1) ≤ out → min (met_sum (left ++ puts) came + met_sum left come) (2 ^ 64 - 1) ≤ put → min (out + put) (2 ^ 64 - 1) ≤ tests
    → min ((met_sum (these ++ outs) went + met_sum these gone) + (met_sum (these ++ puts) came + met_sum these come)) (2 ^ 64 - 1) ≤ tests
met_compared these left outs puts went came gone come out put tests same out_some put_some sum =
    rw (
      ← met_sum_same (left ++ outs) (these ++ outs) went (before_others left these outs same),
      ← met_sum_same left these gone same,
      ← met_sum_same (left ++ puts) (these ++ puts) came (before_others left these puts same),
      ← met_sum_same left these come same,
    )
    (both_least _ _ out put tests out_some put_some sum)

-- rectangles without the numbers of their statements
abbrev rects_of : List (StmtId × Rectangle) → List Rectangle
rects_of outs = map (λ x. x.1) outs

module _ (library : Library) (u : ℕ) (slots : List (Option Kept)) (stay : List StmtId) (s : Surroundings)
    (went came : List Placed) (gone come boxes outs : List (StmtId × Rectangle)) (kept after : List (List ℕ))
    (a : Awaits library u slots stay s (map placed_view went) (map placed_view came) gone come boxes outs kept after) where
  -- those that stay are left
  pub boxes_left : (left : List (StmtId × Rectangle)) → SameThings boxes (map (λ p. place_under (placed_view p)) went ++ left) → AreBoxesOf library u slots stay left
  boxes_left left taken = record {
    kept = a.pieces;
    boxes_are = record {
      sums = λ w.
          let these = map place_under (components_under library u (records_under slots stay)) in
          let x = taken.sums w in
          let y = a.boxes_are.sums w in
          let z = ap (sum_by w) (same_places went) in
          omega (arith, x, y, z, sum_by-append w (map (λ p. place_under (placed_view p)) went) left, sum_by-append w (map place_under (map placed_view went)) these);
    };
  }

  -- and those that come stand with them
  pub boxes_grown : (left grown : List (StmtId × Rectangle)) → SameThings boxes (map (λ p. place_under (placed_view p)) went ++ left) → SameThings grown (map (λ p. place_under (placed_view p)) came ++ left)
      → SameThings grown (map place_under (map placed_view came) ++ map place_under (components_under library u (records_under slots stay)))
  boxes_grown left grown taken put = record {
    sums = λ w.
        let these = map place_under (components_under library u (records_under slots stay)) in
        let x = put.sums w in
        let y = (boxes_left left taken).boxes_are.sums w in
        let z = ap (sum_by w) (same_places came) in
        omega (arith, x, y, z, sum_by-append w (map (λ p. place_under (placed_view p)) came) left, sum_by-append w (map place_under (map placed_view came)) these);
  }

  abbrev on : List Placed → List (StmtId × Rectangle) → List (StmtId × Rectangle) → List (List ℕ)
  on some around changed = lines_of_components s (map component_of some) (boxed_under library u slots stay) (rects_of around) (rects_of changed)

  turned : (lines : List (List ℕ)) (some : List Placed) (around changed : List (StmtId × Rectangle)) → SameLines lines (on some around changed)
      → SameLines (lines_of_components s (map (λ (x : StmtId × Boxed). x.1) (map placed_view some)) (boxed_under library u slots stay) (rects_of around) (rects_of changed)) lines
  turned lines some around changed same = rw (same_components some) (record { often = λ q. sym (same.often q) })

  same_lines : (lines : List (List ℕ)) → SameLines lines lines
  same_lines lines = record { often = λ q. refl }

  pub lines_follow : SameLinesFollow → (later : List (StmtId × Rectangle)) → SameThings (outs ++ come) (gone ++ later) → (out put : List (List ℕ)) → SameLines out (on went outs gone) → SameLines put (on came later come)
      → LinesFollow a.before after out put
  lines_follow law later same out put left comes =
      law _ _ _ _ a.before after out put (same_lines a.before) (same_lines after) (turned out went outs gone left) (turned put came later come comes) (a.follow later same)

-- the same where rectangles alone go and come
pub rectangle_lines_follow : (library : Library) (u : ℕ) (slots : List (Option Kept)) (stay : List StmtId) (s : Surroundings) (gone come boxes outs : List (StmtId × Rectangle)) (kept after : List (List ℕ))
    (a : Awaits library u slots stay s [] [] gone come boxes outs kept after) → SameLinesFollow → (later : List (StmtId × Rectangle)) → SameThings (outs ++ come) (gone ++ later) → (out put : List (List ℕ))
    → SameLines out (cross_lines blocked_of (boxed_under library u slots stay) (rects_of gone)) → SameLines put (cross_lines blocked_of (boxed_under library u slots stay) (rects_of come)) → LinesFollow a.before after out put
rectangle_lines_follow library u slots stay s gone come boxes outs kept after a law later same out put left comes =
    law _ _ _ _ a.before after out put (record { often = λ q. refl }) (record { often = λ q. refl }) (record { often = λ q. sym (left.often q) }) (record { often = λ q. sym (comes.often q) }) (a.follow later same)
