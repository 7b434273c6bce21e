-- Lines that are kept, and follow a change.
use Rattle.std.proofs.Common.{◌≡◌, ◌≤◌, ℕ, List, ap, sym, ◌∙◌, cond}
use Rattle.std.specs.Str.{bytes_eq}
use Rattle.std.proofs.lemmas.List.Sorted.{sum_by-IsPermutation}
use Rattle.design_model.specs.Order.{sorted_by_bytes}
use Rattle.line_laws.specs.Lines.{SameLines, times}
use Rattle.line_laws.specs.SortingLaws.{SameLinesSortAlike, SortingIsByLines}
use Rattle.following_laws.specs.FamilyLaws.{CanFollow, KeptLinesFollow}
use Rattle.following_laws.specs.Following.{LinesFollow}

module _ (sorting : SortingIsByLines) (law : KeptLinesFollow) (kept before after out put : List (List ℕ)) (is : kept ≡ sorted_by_bytes before) (follow : LinesFollow before after out put) where
  -- the sorted lines have each line as often
  kept_are : SameLines kept before
  kept_are = record { often = λ q. ap (times q) is ∙ sum_by-IsPermutation (λ x. cond (bytes_eq q x) 1 0) before (sorted_by_bytes before) (sorting.0 before).same }

  can_follow : CanFollow kept after out put
  can_follow = law kept before after out put kept_are follow

  pub out_stands : (q : List ℕ) → times q out ≤ times q kept
  out_stands q = can_follow.stand q

  pub followed_are : SameLinesSortAlike → (now : List (List ℕ)) → LinesFollow kept now out put → sorted_by_bytes now ≡ now → now ≡ sorted_by_bytes after
  followed_are alike now exchanged in_order =
      let left = can_follow.follow exchanged.stay exchanged.old_is in
      sym in_order ∙ alike now after (record { often = λ q. exchanged.new_is.often q ∙ left.often q })
