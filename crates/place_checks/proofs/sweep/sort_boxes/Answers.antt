use Rattle.std.proofs.Common.{rules}
use Rattle.std.proofs.lemmas.List.Sorted.{answers_always}
use Rattle.place_checks.proofs.SweepLemmas.{is_order}
use Rattle.place_checks.proofs.sweep.sort_boxes.Goals as goal

pub returns-clause-sorted : goal.returns-clause-sorted
returns-clause-sorted g c = record { rises = c.sort_unstable_by.ensures.sorted _ is_order (answers_always _ _ _ (λ f a r f' k. search rules)) }
