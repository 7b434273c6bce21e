-- Blocks that are noted with their places.
use Rattle.std.specs.Prelude.{◌≡◌, All, List, Some}
use Rattle.cell_sums.specs.Blocks.{Key, block_at}
use Rattle.cell_sums.specs.declared.block_places.NotedBlock.{NotedBlock}

abbrev pub key_of : NotedBlock → Key
key_of b = (b.layer, b.major, b.number)

-- one stands at its place,
abbrev pub IsNoted : List Key → NotedBlock → Type 0
IsNoted keys b = block_at keys (key_of b) ≡ Some b.place

-- and each of them
abbrev pub AreNoted : List Key → List NotedBlock → Type 0
AreNoted keys slots = All (IsNoted keys) slots
