use Rattle.std.proofs.Common.{rules}
use Rattle.std.proofs.lemmas.List.Sorted.{IsPermutation-map, answers_always}
use Rattle.place_checks.specs.PlaceViews.{placed_row_view}
use Rattle.place_checks.specs.RowEdges.{edge_of}
use Rattle.place_checks.proofs.row_index.RowIndex.new.Goals as goal

pub invariant_of-result : goal.invariant_of-result
invariant_of-result g c = record { sorted = c.sort_unstable_by_key.ensures.sorted edge_of (answers_always _ _ _ (λ f a r f' k. search rules)) }

pub returns : goal.returns
returns g c = IsPermutation-map placed_row_view _ _ c.sort_unstable_by_key.ensures.permutation
