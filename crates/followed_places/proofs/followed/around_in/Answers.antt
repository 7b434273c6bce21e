use Rattle.std.proofs.Common.{◌≡◌, ◌∙◌, List, filter, map, ap}
use Rattle.design_model.specs.declared.identifier.StmtId.{StmtId}
use Rattle.def_grammar.specs.Records.{Record}
use Rattle.def_reader.specs.StatementViews.{record_view}
use Rattle.design_rules.specs.Boxes.{scale}
use Rattle.design_rules.specs.Surroundings.{surroundings}
use Rattle.staying_laws.specs.PlaceStatements.{surrounds_or_blocks}
use Rattle.text_pieces.specs.KeptRecords.{record_of}
use Rattle.text_pieces.specs.Tables.{ids_of, kept_at}
use Rattle.design_text.specs.Exchanges.{records_in}
use Rattle.followed_places.specs.Places.{said}
use Rattle.followed_places.proofs.FollowedLemmas.{their_pieces, their_records}
use Rattle.followed_places.proofs.followed.around_in.Goals as goal

pub kept-requires : goal.kept-requires
kept-requires g c =
    let text = c.args.text.now in
    let kept = c.statements_are_kept.ensures.kept in
    let around_is = c.deref.ensures.value ∙ c.in_ok-numbers.ensures ∙ ap (λ (rs : List (StmtId × Record)). map (λ x. x.0) (filter (λ x. surrounds_or_blocks x.1) rs)) c.requires in
    rw around_is (their_pieces text.pieces.table.slots (records_in text) (ids_of text.pieces.table) kept.says kept.pieces)

pub of-requires-clause-some : goal.of-requires-clause-some
of-requires-clause-some g c =
    let text = c.args.text.now in
    let slots = text.pieces.table.slots in
    let kept = c.statements_are_kept.ensures.kept in
    let around_is = c.deref.ensures.value ∙ c.in_ok-numbers.ensures ∙ ap (λ (rs : List (StmtId × Record)). map (λ x. x.0) (filter (λ x. surrounds_or_blocks x.1) rs)) c.requires in
    let read : map record_view c.deref-2.result.now ≡ filter surrounds_or_blocks (said (records_in text)) =
    ap (map record_view) c.deref-2.ensures.value
    ∙ c.in_ok-around.ensures
    ∙ ap (map (λ id. record_of (kept_at slots id))) around_is
    ∙ their_records slots (records_in text) (ids_of text.pieces.table) kept.says kept.pieces in
    let told = c.surroundings_are_told.ensures c.args.library.now (said (records_in text)) in
    rw (ap scale read ∙ told.scale) c.units_are_good.ensures.some

pub of-requires-clause-few : goal.of-requires-clause-few
of-requires-clause-few g c =
    let text = c.args.text.now in
    let slots = text.pieces.table.slots in
    let kept = c.statements_are_kept.ensures.kept in
    let around_is = c.deref.ensures.value ∙ c.in_ok-numbers.ensures ∙ ap (λ (rs : List (StmtId × Record)). map (λ x. x.0) (filter (λ x. surrounds_or_blocks x.1) rs)) c.requires in
    let read : map record_view c.deref-2.result.now ≡ filter surrounds_or_blocks (said (records_in text)) =
    ap (map record_view) c.deref-2.ensures.value
    ∙ c.in_ok-around.ensures
    ∙ ap (map (λ id. record_of (kept_at slots id))) around_is
    ∙ their_records slots (records_in text) (ids_of text.pieces.table) kept.says kept.pieces in
    let told = c.surroundings_are_told.ensures c.args.library.now (said (records_in text)) in
    rw (ap scale read ∙ told.scale) c.units_are_good.ensures.few

pub returns : goal.returns
returns g c =
    let text = c.args.text.now in
    let slots = text.pieces.table.slots in
    let kept = c.statements_are_kept.ensures.kept in
    let around_is = c.deref.ensures.value ∙ c.in_ok-numbers.ensures ∙ ap (λ (rs : List (StmtId × Record)). map (λ x. x.0) (filter (λ x. surrounds_or_blocks x.1) rs)) c.requires in
    let read : map record_view c.deref-2.result.now ≡ filter surrounds_or_blocks (said (records_in text)) =
    ap (map record_view) c.deref-2.ensures.value
    ∙ c.in_ok-around.ensures
    ∙ ap (map (λ id. record_of (kept_at slots id))) around_is
    ∙ their_records slots (records_in text) (ids_of text.pieces.table) kept.says kept.pieces in
    let told = c.surroundings_are_told.ensures c.args.library.now (said (records_in text)) in
    record {
      surroundings = rw (ap (surroundings c.args.library.now) read ∙ told.surroundings) at c.of.ensures.surroundings;
      scale = rw (ap scale read ∙ told.scale) at c.of.ensures.scale;
    }
