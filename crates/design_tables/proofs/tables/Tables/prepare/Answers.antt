use Rattle.std.proofs.Common.{◌++◌, map, sym, ◌∙◌}
use Rattle.std.proofs.lemmas.Result.{err_from_is_err_and}
use Rattle.design_tables.specs.TableViews.{numbered_view}
use Rattle.design_tables.proofs.ChangeLemmas.{edited_are, leads_still, placed_behind, placed_same}
use Rattle.design_tables.proofs.KeyedLemmas.{keyed, lacking, repeated}
use Rattle.design_tables.proofs.tables.Tables.prepare.Goals.{then-has_repeated-via-then-has_repeated, then-has_repeated-via-else-has_repeated+then-lacks_units}
use Rattle.design_tables.proofs.tables.Tables.prepare.Goals as goal

pub returns-clause-keyed : goal.returns-clause-keyed
returns-clause-keyed g c = λ xs kept are is before.
    let out = map numbered_view c.args.out.now in
    let put = map numbered_view c.args.put.now in
    let names = c.self.inside.names in
    let new = c.in_ok-names.names in
    let after = edited_are xs out kept is names (rw c.self.view_is are) put new c.in_ok-names.ensures in
    keyed xs out kept put is names new c.in_ok-names.ensures after before (sym c.has_repeated.ensures ∙ c.if-has_repeated.false) (sym c.lacks_units.ensures ∙ c.if-lacks_units.false)

pub returns-clause-between : goal.returns-clause-between
returns-clause-between g c = λ xs kept are is.
    let out = map numbered_view c.args.out.now in
    let put = map numbered_view c.args.put.now in
    let names = c.self.inside.names in
    let new = c.in_ok-names.names in
    let after = edited_are xs out kept is names (rw c.self.view_is are) put new c.in_ok-names.ensures in
    record {
      base_is = placed_same xs names c.make_places.new.self c.in_ok-make_places.ensures.same (rw c.self.view_is are);
      other_is = placed_behind (kept ++ put) names c.make_places.new.self new c.in_ok-make_places.ensures.same after;
      apart = c.in_ok-make_places.ensures.apart;
      places = c.in_ok-make_places.ensures.there;
    }

pub returns-clause-same : goal.returns-clause-same
returns-clause-same g c = λ xs are. placed_same xs c.self.inside.names c.make_places.new.self c.make_places.ensures.same (rw c.self.view_is are)

pub returns-then-has_repeated-clause-duplicate : goal.returns-then-has_repeated-clause-duplicate
returns-then-has_repeated-clause-duplicate g c = λ xs kept are is before e keyed_after.
    let out = map numbered_view c.args.out.now in
    let put = map numbered_view c.args.put.now in
    let names = c.self.inside.names in
    let new = c.in_ok-names.names in
    let after = edited_are xs out kept is names (rw c.self.view_is are) put new c.in_ok-names.ensures in
    elim c.then-has_repeated.branch [
      | then-has_repeated-via-then-has_repeated w ↦ repeated xs out kept put is names new c.in_ok-names.ensures after (sym c.has_repeated.ensures ∙ w.if-has_repeated.true) keyed_after
      | then-has_repeated-via-else-has_repeated+then-lacks_units w ↦ lacking xs out kept put is names new c.in_ok-names.ensures after (sym w.lacks_units.ensures ∙ w.if-lacks_units.true) keyed_after
    ]

pub returns-in_err-make_places-clause-duplicate : goal.returns-in_err-make_places-clause-duplicate
returns-in_err-make_places-clause-duplicate g c = λ xs kept are is before.
    let p = err_from_is_err_and c.from_residual-in_err-make_places.result c.from_residual-in_err-make_places.ensures.1 in
    rw (p.1, p.2) (λ same after. cc)

pub returns-clause-lasts : goal.returns-clause-lasts
returns-clause-lasts g c = λ change base other is.
    leads_still c.self.inside.names c.make_places.new.self change base other c.make_places.ensures.same c.make_places.ensures.kept (rw c.self.view_is is)

pub returns-in_err-make_places-clause-lasts : goal.returns-in_err-make_places-clause-lasts
returns-in_err-make_places-clause-lasts g c = λ change base other is.
    leads_still c.self.inside.names c.make_places.new.self change base other c.make_places.ensures.same c.make_places.ensures.kept (rw c.self.view_is is)
