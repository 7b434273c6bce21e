use Rattle.std.proofs.Common.{◌∙◌, [], sym}
use Rattle.design_text.proofs.Opened.{none_told, opened}
use Rattle.design_text.proofs.text.DesignText.open_owned.Goals as goal

pub check_keys-requires-clause-told : goal.check_keys-requires-clause-told
check_keys-requires-clause-told g c = c.in-Ok.ensures.told [] (none_told c.with_room-tables.result c.with_room-tables.ensures)

pub invariant_of-result : goal.invariant_of-result
invariant_of-result g c =
    opened c.records_are_read.ensures.located c.in-Ok.pieces c.open_telling.new.told.tables c.as_slice-text.result.now (c.in-Ok.ensures.opens.0 ∙ sym c.as_slice-text.ensures) c.in_ok-check_keys-in-Ok.ensures
    (c.in-Ok.ensures.told [] (none_told c.with_room-tables.result c.with_room-tables.ensures)).0
