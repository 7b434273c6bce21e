use Rattle.std.proofs.Common.{◌∙◌, get_or, map, refl, ap, arith}
use Rattle.std.proofs.lemmas.List.{take_all}
use Rattle.def_reader.specs.StatementViews.{record_view}
use Rattle.text_pieces.specs.KeptRecords.{record_of}
use Rattle.text_pieces.specs.Tables.{kept_at}
use Rattle.design_text.proofs.Pushing.{has_piece, pushed}
use Rattle.design_text.proofs.records.statements_under.Goals as goal

pub kept_statement-requires : goal.kept_statement-requires
kept_statement-requires g c = has_piece c.args.pieces.now.table.slots c.args.ids.now c.loop-id.id-index (record { 0 = 0 }) c.requires c.loop-id-test.true

pub loop-id-preserved : goal.loop-id-preserved
loop-id-preserved g c =
    let slots = c.args.pieces.now.table.slots in
    let ids = c.args.ids.now in
    let i = c.loop-id.id-index in
    let id = get_or ids i (record { 0 = 0 }) in
    pushed record_view (λ x. record_of (kept_at slots x)) ids i (record { 0 = 0 }) id c.loop-id.statements.items c.push.new.self.items _ c.loop-id-test.true refl c.in-Ok-push.ensures.items
    c.kept_statement.ensures c.loop-id.invariant

pub returns : goal.returns
returns g c =
    let slots = c.args.pieces.now.table.slots in
    c.loop-id.invariant ∙ ap (λ ids. map (λ x. record_of (kept_at slots x)) ids) (take_all c.loop-id.id-index c.args.ids.now (omega (arith, c.loop-id-test.false)))
