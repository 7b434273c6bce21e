use Rattle.std.proofs.Common.{◌∙◌, filter, map, ap}
use Rattle.def_reader.specs.StatementViews.{record_view}
use Rattle.text_pieces.specs.KeptRecords.{record_of}
use Rattle.text_pieces.specs.Tables.{ids_of, kept_at}
use Rattle.design_text.specs.DesignTexts.{design_of}
use Rattle.design_text.specs.Exchanges.{records_in}
use Rattle.followed_nets.specs.Entries.{said_by}
use Rattle.followed_nets.specs.Noted.{tells_any}
use Rattle.followed_nets.proofs.KeptStatements.{their_pieces, their_records}
use Rattle.followed_nets.proofs.TellLemmas.{these_tell}
use Rattle.followed_nets.proofs.told_statements.told_statements.Goals as goal

pub kept-requires : goal.kept-requires
kept-requires g c =
    let text = c.args.text.now in
    let kept = c.statements_are_kept.ensures.kept in
    rw (c.requires) (their_pieces text.pieces.table.slots tells_any (records_in text) (ids_of text.pieces.table) kept.says kept.pieces)

pub returns : goal.returns
returns g c =
    let text = c.args.text.now in
    let slots = text.pieces.table.slots in
    let kept = c.statements_are_kept.ensures.kept in
    let commons_are =
    c.in_ok-statements.ensures
    ∙ ap (map (λ id. record_of (kept_at slots id))) c.requires
    ∙ their_records slots tells_any (records_in text) (ids_of text.pieces.table) kept.says
    ∙ ap (filter tells_any) c.statements_are_kept.ensures.said in
    let entries = c.in-Some.entries in
    these_tell c.all_pins_tell.ensures c.entries_name_one_net.ensures (design_of text) c.args.net.now (record_view entries.first) (said_by entries.second) _ _ c.in-Some.ensures commons_are
    (c.in_ok-push_entries.ensures c.if-not-branch.false)
