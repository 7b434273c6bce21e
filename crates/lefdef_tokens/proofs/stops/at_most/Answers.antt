use Rattle.std.proofs.Common.{cond, leb, get_or, replicate, sym, subst, w8}
use Rattle.lefdef_tokens.proofs.LaneLemmas.{HasLanes-select}
use Rattle.lefdef_tokens.specs.Runs.{HasLanes}
use Rattle.std.proofs.lemmas.Simd.{tops_compared}
use Rattle.std.specs.Simd.Lanes.{sel_l}
use Rattle.lefdef_tokens.proofs.stops.at_most.Goals as goal

pub returns : goal.returns
returns c =
    let v = c.args.bytes in
    let b = c.args.low in
    subst (λ ms. HasLanes (sel_l ms (replicate 16 255) (replicate 16 0)) (λ k. cond (leb (get_or v k 0) b) 255 0))
    (sym (tops_compared w8 leb v (replicate 16 b))) (HasLanes-select leb v b 255 0 c.fits-bytes.0)
