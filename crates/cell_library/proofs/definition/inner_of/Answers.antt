use Rattle.std.proofs.Common.{sym, ◌∙◌}
use Rattle.lef_reader.specs.StatementViews.{lef_view}
use Rattle.cell_library.proofs.InnerLemmas.{inside_end, inside_on, parts_end, parts_on, parts_stop}
use Rattle.cell_library.proofs.definition.inner_of.Goals as goal

pub loop-place-preserved : goal.loop-place-preserved
loop-place-preserved g c =
    let l = c.loop-place in
    let part = g.D.Definition.part in
    let yes = sym c.holds.ensures ∙ c.if-not-holds.false in
    record {
      inside = inside_on lef_view part c.args.behind.now l.place c.index-behind-place.result c.loop-place-test.true c.index-behind-place.is l.invariant.inside yes;
      all = parts_on lef_view part c.args.behind.now l.place c.index-behind-place.result c.loop-place-test.true c.index-behind-place.is yes ∙ l.invariant.all;
    }

pub returns-then-not-holds-clause-all : goal.returns-then-not-holds-clause-all
returns-then-not-holds-clause-all g c =
    let l = c.loop-place in
    let no = sym c.holds.ensures ∙ c.if-not-holds.true in
    sym (parts_stop lef_view g.D.Definition.part c.args.behind.now l.place c.index-behind-place.result c.loop-place-test.true c.index-behind-place.is no) ∙ l.invariant.all

pub returns : goal.returns
returns g c =
    let l = c.loop-place in
    let part = g.D.Definition.part in
    record {
      inside = inside_end lef_view part c.args.behind.now l.place c.loop-place-test.false l.invariant.inside;
      all = sym (parts_end lef_view part c.args.behind.now l.place c.loop-place-test.false) ∙ l.invariant.all;
    }
