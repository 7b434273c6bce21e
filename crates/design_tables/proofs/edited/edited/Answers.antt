use Rattle.std.proofs.Common.{map}
use Rattle.std.specs.Prelude.{flat_map}
use Rattle.design_tables.specs.Changes.{has_number, is_gone}
use Rattle.design_tables.specs.Listings.{marks_in}
use Rattle.design_tables.specs.TableViews.{numbered_view}
use Rattle.design_tables.proofs.EditLemmas.{edited_agrees, edited_start}
use Rattle.design_tables.proofs.edited.edited.Goals as goal

pub returns : goal.returns
returns g c =
    let gone = is_gone c.in_ok-gone.gone.keys in
    let outs = flat_map marks_in (map numbered_view c.args.out.now) in
    let puts = flat_map marks_in (map numbered_view c.args.put.now) in
    let names = c.args.from.now in
    edited_agrees gone (has_number (map numbered_view c.args.out.now)) c.in_ok-gone.ensures names c.put_all.new.self outs puts
    (c.in_ok-put_all.ensures outs (c.in_ok-take_all.ensures (edited_start gone names c.new-table.result c.new-table.ensures)))
