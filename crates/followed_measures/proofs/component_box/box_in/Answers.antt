use Rattle.std.proofs.Common.{◌≡◌, ◌∙◌, ap, filter, map, sym, refl, Some, None}
use Rattle.std.specs.Option.{option_map}
use Rattle.design_model.specs.Views.{rectangle_of}
use Rattle.def_reader.specs.StatementViews.{record_view}
use Rattle.design_rules.specs.Boxes.{Boxed, scale}
use Rattle.text_pieces.specs.KeptRecords.{record_of}
use Rattle.text_pieces.specs.Tables.{ids_of, kept_at}
use Rattle.design_text.specs.DesignTexts.{design_of, text_of}
use Rattle.design_text.specs.Exchanges.{records_in}
use Rattle.followed_nets.specs.Noted.{tells_any}
use Rattle.followed_nets.proofs.KeptStatements.{their_pieces, their_records}
use Rattle.followed_measures.proofs.ToldEditLemmas.{common_scale, own_box}
use Rattle.followed_measures.proofs.component_box.box_in.Goals as goal

pub kept-requires : goal.kept-requires
kept-requires g c =
    let text = c.args.text.now in
    let kept = c.statements_are_kept.ensures.kept in
    rw (c.requires) (their_pieces text.pieces.table.slots tells_any (records_in text) (ids_of text.pieces.table) kept.says kept.pieces)

pub returns-in_default : goal.returns-in_default
returns-in_default g c =
    let design = design_of c.args.text.now in
    own_box c.args.library.now design c.args.component.now None (scale design) None refl (rw (c.in_default.is) at c.entry_in.ensures) refl

pub new-macros-requires-clause-some : goal.new-macros-requires-clause-some
new-macros-requires-clause-some g c =
    let text = c.args.text.now in
    let slots = text.pieces.table.slots in
    let kept = c.statements_are_kept.ensures.kept in
    let design = design_of text in
    let some = map record_view c.in_ok-statements.statements.items in
    let are : some ≡ filter tells_any design =
    c.in_ok-statements.ensures ∙ ap (map (λ id. record_of (kept_at slots id))) c.requires ∙ their_records slots tells_any (records_in text) (ids_of text.pieces.table) kept.says ∙ ap (filter tells_any) c.statements_are_kept.ensures.said in
    rw (c.scale_of.ensures ∙ ap (λ l. scale (map record_view l)) c.deref.ensures.value ∙ common_scale some design are) (c.scales_are_good.ensures (text_of text) design c.design_is_read.ensures.reads).some

pub new-macros-requires-clause-few : goal.new-macros-requires-clause-few
new-macros-requires-clause-few g c =
    let text = c.args.text.now in
    let slots = text.pieces.table.slots in
    let kept = c.statements_are_kept.ensures.kept in
    let design = design_of text in
    let some = map record_view c.in_ok-statements.statements.items in
    let are : some ≡ filter tells_any design =
    c.in_ok-statements.ensures ∙ ap (map (λ id. record_of (kept_at slots id))) c.requires ∙ their_records slots tells_any (records_in text) (ids_of text.pieces.table) kept.says ∙ ap (filter tells_any) c.statements_are_kept.ensures.said in
    rw (c.scale_of.ensures ∙ ap (λ l. scale (map record_view l)) c.deref.ensures.value ∙ common_scale some design are) (c.scales_are_good.ensures (text_of text) design c.design_is_read.ensures.reads).few

pub returns-in_default-box_of : goal.returns-in_default-box_of
returns-in_default-box_of g c =
    let text = c.args.text.now in
    let slots = text.pieces.table.slots in
    let kept = c.statements_are_kept.ensures.kept in
    let design = design_of text in
    let some = map record_view c.in_ok-statements.statements.items in
    let are : some ≡ filter tells_any design =
    c.in_ok-statements.ensures ∙ ap (map (λ id. record_of (kept_at slots id))) c.requires ∙ their_records slots tells_any (records_in text) (ids_of text.pieces.table) kept.says ∙ ap (filter tells_any) c.statements_are_kept.ensures.said in
    let scaled = c.scale_of.ensures ∙ ap (λ l. scale (map record_view l)) c.deref.ensures.value ∙ common_scale some design are in
    let value = rw (c.new-macros.ensures, c.in_default-box_of.is) at c.box_of.ensures.value in
    own_box c.args.library.now design c.args.component.now (Some (record_view c.in-Some.entry)) c.scale_of.result None scaled c.in-Some.ensures (ap (option_map (λ (b : Boxed). b.box)) (sym value))

pub returns : goal.returns
returns g c =
    let text = c.args.text.now in
    let slots = text.pieces.table.slots in
    let kept = c.statements_are_kept.ensures.kept in
    let design = design_of text in
    let some = map record_view c.in_ok-statements.statements.items in
    let are : some ≡ filter tells_any design =
    c.in_ok-statements.ensures ∙ ap (map (λ id. record_of (kept_at slots id))) c.requires ∙ their_records slots tells_any (records_in text) (ids_of text.pieces.table) kept.says ∙ ap (filter tells_any) c.statements_are_kept.ensures.said in
    let scaled = c.scale_of.ensures ∙ ap (λ l. scale (map record_view l)) c.deref.ensures.value ∙ common_scale some design are in
    let value = rw (c.new-macros.ensures) at c.in-Some-box_of.ensures.value in
    own_box c.args.library.now design c.args.component.now (Some (record_view c.in-Some.entry)) c.scale_of.result (Some (rectangle_of c.in-Some-box_of.placed.rect)) scaled c.in-Some.ensures (ap (option_map (λ (b : Boxed). b.box)) (sym value))
