use Rattle.std.proofs.Common.{rules}
use Rattle.std.proofs.lemmas.Fn.{chained_keeps}
use Rattle.shape_index.proofs.Pushed.{Holds, pushed, found}
use Rattle.shape_index.proofs.met.met_of.Goals as goal

pub returns : goal.returns
returns g c =
    let run = c.for_met-found.ensures.folded in
    let held = chained_keeps _ (λ xs q. Holds (λ v. v.items) xs q) (λ xs q x v h k. pushed (λ v. v.items) q v x xs h (search rules)) run.0 _ _ c.new.ensures.items run.2 in
    found (λ v. v.items) _ run.0 _ held run.1
