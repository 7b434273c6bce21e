use Rattle.std.proofs.Common.{◌≡◌, List, ap, sym, subst, ◌∙◌}
use Rattle.std.specs.List.{filter_map}
use Rattle.statement_model.specs.Grammar.{Key}
use Rattle.def_grammar.specs.Records.{Record, entry_of}
use Rattle.def_reader.specs.StatementViews.{records_view}
use Rattle.design_names.specs.Apart.{are_apart}
use Rattle.net_pins.specs.Unseen.{AreUnseen}
use Rattle.net_pins.specs.Walking.{Walk}
use Rattle.net_pins.proofs.UnseenLemmas.{all_unseen, not_both}
use Rattle.net_pins.proofs.listed_pins.put_pins_of_all.Goals as goal
use Rattle.net_pins.proofs.listed_pins.put_pins_of_all.Goals.{else-is_empty, then-is_empty}

pub put_pins_in-requires-clause-new : goal.put_pins_in-requires-clause-new
put_pins_in-requires-clause-new g c new =
    let records = records_view c.records.result.now in
    elim c.if-is_empty.branch [
      | then-is_empty w ↦
          subst (λ (seen : List Key). AreUnseen c.args.pin.now seen records) (sym (c.is_empty.ensures.none w.if-is_empty.true) ∙ ap (λ (s : Walk). s.seen) c.walk.view_is) (all_unseen c.args.pin.now records)
      | else-is_empty w ↦ absurd (not_both c.if-is_empty.are_new (w.are_new-is ∙ w.if-is_empty.false) new)
    ]

pub put_pins_in-requires-clause-apart : goal.put_pins_in-requires-clause-apart
put_pins_in-requires-clause-apart g c new =
    elim c.if-is_empty.branch [
      | then-is_empty w ↦
          ap (λ (rs : List Record). are_apart (filter_map entry_of rs)) c.records.ensures ∙ sym w.are_apart-are_new.ensures ∙ sym w.are_new-is ∙ new
      | else-is_empty w ↦ absurd (not_both c.if-is_empty.are_new (w.are_new-is ∙ w.if-is_empty.false) new)
    ]
