use Rattle.std.proofs.Common.{map, filter, ap, ◌∙◌}
use Rattle.staying_laws.specs.PlaceStatements.{surrounds_or_blocks}
use Rattle.text_pieces.specs.Tables.{ids_of}
use Rattle.design_text.specs.Exchanges.{records_in}
use Rattle.design_text.proofs.ChunkWalks.{says}
use Rattle.followed_places.proofs.FollowedLemmas.{their_pieces, their_records}
use Rattle.followed_places.proofs.anew.statements_around.Goals as goal

pub kept-requires : goal.kept-requires
kept-requires g c =
    let text = c.args.text.now in
    let kept = c.statements_are_kept.ensures.kept in
    rw (c.deref.ensures.value ∙ c.in_ok-numbers.ensures) (their_pieces text.pieces.table.slots (records_in text) (ids_of text.pieces.table) kept.says kept.pieces)

pub returns : goal.returns
returns g c =
    let text = c.args.text.now in
    let slots = text.pieces.table.slots in
    let kept = c.statements_are_kept.ensures.kept in
    c.in_ok-around.ensures
    ∙ ap (map (says slots)) (c.deref.ensures.value ∙ c.in_ok-numbers.ensures)
    ∙ their_records slots (records_in text) (ids_of text.pieces.table) kept.says kept.pieces
    ∙ ap (filter surrounds_or_blocks) c.statements_are_kept.ensures.said
