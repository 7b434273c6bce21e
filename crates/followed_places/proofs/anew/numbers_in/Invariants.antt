use Rattle.std.proofs.Common.{◌≡◌, ◌++◌, drop, filter, map}
use Rattle.staying_laws.specs.PlaceStatements.{surrounds_or_blocks}
use Rattle.text_pieces.specs.Chunks.{all_ids}
use Rattle.text_pieces.specs.KeptRecords.{records_under}
use Rattle.followed_places.proofs.anew.numbers_in.Given as goal

abbrev pub invariant-loop-place : goal.invariant-loop-place
invariant-loop-place g l =
    l.numbers.items ++ map (λ x. x.0) (filter (λ x. surrounds_or_blocks x.1) (records_under l.text.pieces.table.slots (all_ids (drop l.place l.text.pieces.table.chunks))))
    ≡ map (λ x. x.0) (filter (λ x. surrounds_or_blocks x.1) (records_under l.text.pieces.table.slots (all_ids l.text.pieces.table.chunks)))
