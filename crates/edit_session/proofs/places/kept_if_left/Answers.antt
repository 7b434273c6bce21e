use Rattle.std.proofs.Common.{◌∙◌}
use Rattle.edit_session.proofs.places.kept_if_left.Goals as goal

pub returns-in-Ok-true-clause-lines : goal.returns-in-Ok-true-clause-lines
returns-in-Ok-true-clause-lines g c = λ library old made are.
    are ∙ c.same_lines_sort_alike.ensures _ _ (c.in-Ok-true.ensures old made c.in-Ok-true.field-0-test library)
