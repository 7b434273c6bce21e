use Rattle.std.proofs.lemmas.List.{take_rest}
use Rattle.std.specs.Prelude.{int_lt}
use Rattle.place_checks.proofs.SweepLemmas.{sorted_as}
use Rattle.place_checks.proofs.sweep.begin_above.Goals as goal

pub returns-clause-those : goal.returns-clause-those
returns-clause-those c = rw take_rest c.begin_up_to.ensures.others

pub returns-clause-sorted : goal.returns-clause-sorted
returns-clause-sorted c = sorted_as (λ b. int_lt c.args.rect.now.y1 b.rect.y1) _ _ c.requires (returns-clause-those c)
