use Rattle.std.proofs.Common.{◌≡◌, ◌++◌, drop, flat_map, map}
use Rattle.std.specs.Option.{option_to_list}
use Rattle.design_model.specs.declared.identifier.StmtId.{StmtId}
use Rattle.def_reader.specs.StatementViews.{record_view}
use Rattle.design_text.specs.Listings.{said_under}
use Rattle.design_text.proofs.text.DesignText.all_found.Given as goal

abbrev pub invariant-loop-id : goal.invariant-loop-id
invariant-loop-id g l =
    let said = λ (id : StmtId). option_to_list (said_under l.self id) in
    map record_view l.statements.items ++ flat_map said (drop l.id-index l.ids) ≡ flat_map said l.ids
