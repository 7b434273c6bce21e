use Rattle.std.proofs.Common.{Bool, true, false, ◌-◌, ◌++◌, List, if◌then◌else◌, is_ok, replicate, subst, sym, take}
use Rattle.std.specs.Vec.{vec_len}
use Rattle.std.proofs.lemmas.List.Elements.{All-append, All-replicate, All-take}
use Rattle.cell_sums.specs.Blocks.{Key}
use Rattle.cell_sums.specs.NotedBlocks.{AreNoted, IsNoted}
use Rattle.cell_sums.specs.declared.block_places.NotedBlock.{NotedBlock}
use Rattle.cell_sums.proofs.block_places.add_slots.Goals as goal

more : (keys : List Key) (b : Bool) (old taken added : List NotedBlock) → AreNoted keys old → AreNoted keys taken → AreNoted keys added → AreNoted keys (if b then taken ++ added else old)
more keys true old taken added was some rest = All-append (IsNoted keys) taken added some rest
more keys false old taken added was some rest = was

pub returns : goal.returns
returns g c = λ keys noted one.
    let old = c.args.slots.now.items in
    let count = c.max-count.result in
    subst (λ (xs : List NotedBlock). AreNoted keys xs) (sym c.resize.ensures.items)
    (more keys (is_ok c.resize.result) old (take count old) (replicate (count - vec_len c.args.slots.now) c.args.block) noted (All-take (IsNoted keys) count old noted) (All-replicate (IsNoted keys) (count - vec_len c.args.slots.now) c.args.block one))
