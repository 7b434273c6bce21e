-- The pairs that are told bin by bin are those that meet.
use Rattle.std.proofs.Common.{ℕ, List, filter, rules, arith}
use Rattle.std.specs.Prelude.{pos}
use Rattle.std.specs.List.{flat_map}
use Rattle.std.specs.Int.{int_max}
use Rattle.design_model.specs.Views.{rectangle_of}
use Rattle.shape_rules.specs.Classes.{numbers}
use Rattle.line_laws.specs.Lines.{SameThings}
use Rattle.shape_pairs.specs.declared.grid.Grid.{Grid}
use Rattle.shape_pairs.specs.declared.pairs.Numbered.{Numbered}
use Rattle.shape_pairs.specs.Grids.{bin_count, covered, home}
use Rattle.shape_pairs.specs.Entries.{covers, pairs_at_home}
use Rattle.shape_pairs.specs.Pairs.{is_meeting, meeting_pairs}
use Rattle.shape_pairs.proofs.BinSums.{AreAtHome, told_weigh}
use Rattle.shape_pairs.proofs.HomeLemmas.{among, bin_below, first_once, second_once}
use Rattle.shape_pairs.proofs.CoverLemmas.{once_found}

module _ (grid : Grid) where
  abbrev home_of : Numbered → Numbered → ℕ
  home_of x y = home grid (rectangle_of x.rect) (rectangle_of y.rect)

  at_home : AreAtHome is_meeting home_of (covers grid) (numbers 0 (bin_count grid))
  at_home = record {
    once = λ x y t. among (home_of x y) 0 (bin_count grid) (omega arith) (let b = bin_below grid (int_max x.rect.x1 y.rect.x1) (int_max x.rect.y1 y.rect.y1) in omega (arith, b));
    first = λ x y t. once_found (home_of x y) (covered grid (rectangle_of x.rect)) (first_once grid x.rect y.rect t);
    second = λ x y t. once_found (home_of x y) (covered grid (rectangle_of y.rect)) (second_once grid x.rect y.rect t);
  }

  -- the pairs of a bin that are at home there, and those of all bins
  abbrev pub told_in : List Numbered → ℕ → List (Numbered × Numbered)
  told_in items bin = pairs_at_home grid bin (filter (covers grid bin) items)

  abbrev pub told_pairs : List Numbered → List (Numbered × Numbered)
  told_pairs items = flat_map (told_in items) (numbers 0 (bin_count grid))

  pub told_are_meeting : (items : List Numbered) → SameThings (told_pairs items) (meeting_pairs items)
  told_are_meeting items = record { sums = λ w. told_weigh is_meeting home_of (covers grid) (numbers 0 (bin_count grid)) at_home w items }

-- any one
pub blank : Numbered
blank = record { rect = record { x1 = pos 0; y1 = pos 0; x2 = pos 0; y2 = pos 0; wide = search rules; high = search rules }; id = 0 }
