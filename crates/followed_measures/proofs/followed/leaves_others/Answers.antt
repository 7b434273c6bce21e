use Rattle.std.proofs.Common.{◌≡◌, Bool, true, Err, Ok, Result, List, None, subst}
use Rattle.std.specs.Prelude.{IfOk}
use Rattle.net_laws.specs.Within.{Listed}
use Rattle.design_text.specs.Exchanges.{records_in}
use Rattle.followed_nets.specs.Noted.{said}
use Rattle.followed_nets.specs.Within.{Leaves}
use Rattle.followed_measures.proofs.followed.leaves_others.Goals as goal

-- what is said of nets, with what is said of cells where they are left
with_cells : {E : Type 0} (nets common cells : Type 0) (r : Result Bool E) → nets → common → IfOk r (λ b. b ≡ true → cells) → IfOk r (λ b. b ≡ true → nets × common × cells)
with_cells nets common cells (Ok b) left stay are_left = λ yes. (left, stay, are_left yes)
with_cells nets common cells (Err e) left stay are_left = tt

pub returns : goal.returns
returns g c = λ old common exchanged are.
    let within = c.in_ok-exchanges_are_within.ensures old common exchanged c.if-not-branch.false in
    let left = subst (λ (s : Listed). Leaves (said old) (said (records_in c.args.text.now)) c.args.nets.now s) c.subject_of.ensures.subject within.0 in
    with_cells _ _ _ c.exchanges_leave_cells.result left (within.1 c.subject_of.ensures.no_pin are) (c.exchanges_leave_cells.ensures old exchanged)
