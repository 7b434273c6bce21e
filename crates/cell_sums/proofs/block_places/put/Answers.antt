use Rattle.std.proofs.lemmas.List.Elements.{All-set}
use Rattle.cell_sums.specs.NotedBlocks.{IsNoted}
use Rattle.cell_sums.proofs.block_places.put.Goals as goal

pub returns-then-slot-slots : goal.returns-then-slot-slots
returns-then-slot-slots c = λ keys noted one. All-set (IsNoted keys) c.args.slots.now c.args.slot c.args.block one noted
