use Rattle.std.proofs.Common.{sym, ap, ◌∙◌}
use Rattle.std.specs.Option.{option_map}
use Rattle.lef_reader.specs.StatementViews.{lef_view}
use Rattle.lefdef_tokens.specs.Views.{word_view}
use Rattle.cell_library.proofs.AddingLemmas.{added_at, none_at, at_end}
use Rattle.cell_library.proofs.definition.add_all.Goals as goal
use Rattle.cell_library.proofs.definition.add_all.Goals.{in-Some+in_ok-definition+in_ok-add, in_default}

pub loop-place-preserved : goal.loop-place-preserved
loop-place-preserved g c =
    let d = g.D.Definition in
    let l = c.loop-place in
    elim c.match-opened.branch [
      | in-Some+in_ok-definition+in_ok-add w ↦
          added_at lef_view d.view d.name_in d.header d.part d.define (g.met.D.Definition c.lifetimes (assumption)).named_so c.args.statements.now l.place c.index-statements-place.result c.loop-place-test.true c.index-statements-place.is l.named c.match-opened.named w.in-Some.name.now w.in_ok-definition.definition
          (sym c.opened.ensures ∙ ap (option_map word_view) w.in-Some.is)
          (w.in_ok-definition.ensures w.in-Some.name.now ∙ ap (λ ps. d.define (w.in-Some.name.now, ps)) w.inner_of-inner.ensures.all)
          (w.named-is ∙ w.in_ok-add.ensures.ok)
          ∙ l.invariant
      | in_default w ↦
          rw (w.named-is)
          (none_at lef_view d.view d.name_in d.header d.part d.define c.args.statements.now l.place c.index-statements-place.result c.loop-place-test.true c.index-statements-place.is l.named (sym c.opened.ensures ∙ ap (option_map word_view) w.in_default.is)
          ∙ l.invariant)
    ]

pub returns : goal.returns
returns g c =
    let d = g.D.Definition in
    let l = c.loop-place in
    sym (at_end lef_view d.view d.name_in d.header d.part d.define c.args.statements.now l.place l.named c.loop-place-test.false) ∙ l.invariant
