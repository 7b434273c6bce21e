use Rattle.std.proofs.Common.{refl}
use Rattle.def_reader.specs.StatementViews.{record_view}
use Rattle.design_tables.proofs.OnceLemmas.{added_once}
use Rattle.design_tables.proofs.PutLemmas.{one_added}
use Rattle.design_tables.proofs.tables.Tables.add.Goals as goal

pub returns-then-is_new-clause-added : goal.returns-then-is_new-clause-added
returns-then-is_new-clause-added g c = λ xs are. one_added xs c.args.id (record_view c.args.statement.now) c.self.inside.names c.add.new.self (rw c.self.view_is are) c.in_ok-is_new.ensures.put

pub returns-then-is_new-clause-once : goal.returns-then-is_new-clause-once
returns-then-is_new-clause-once g c = λ xs are before.
    let all = one_added xs c.args.id (record_view c.args.statement.now) c.self.inside.names c.add.new.self (rw c.self.view_is are) c.in_ok-is_new.ensures.put in
    let same = added_once xs (c.args.id, record_view c.args.statement.now) c.add.new.self all before in
    (λ e. same.0 (c.in_ok-is_new.ensures.once c.if-is_new.true), λ once. refl)

pub returns-clause-added : goal.returns-clause-added
returns-clause-added g c = λ xs are. one_added xs c.args.id (record_view c.args.statement.now) c.self.inside.names c.add.new.self (rw c.self.view_is are) c.in_ok-is_new.ensures.put

pub returns-clause-once : goal.returns-clause-once
returns-clause-once g c = λ xs are before.
    let all = one_added xs c.args.id (record_view c.args.statement.now) c.self.inside.names c.add.new.self (rw c.self.view_is are) c.in_ok-is_new.ensures.put in
    rw c.is_repeated.ensures (added_once xs (c.args.id, record_view c.args.statement.now) c.add.new.self all before)
