use Rattle.std.proofs.Common.{length, sym, ◌∙◌}
use Rattle.std.proofs.lemmas.Result.{err_from_is_err_and}
use Rattle.statement_model.specs.Tokens.{left_from}
use Rattle.statement_reader.proofs.StatementSteps.{fault_read, end_read, early_end_read}
use Rattle.statement_reader.proofs.read_statement.read_statement.Goals as goal

pub returns-in_err-first-clause-reads : goal.returns-in_err-first-clause-reads
returns-in_err-first-clause-reads g c =
    let p = err_from_is_err_and c.from_residual.result c.from_residual.ensures.1 in
    rw (p.1, p.2) (fault_read g.S.Statement.grammar (g.S.Statement.place_view c.args.place) (left_from c.args.text.now c.args.pos) c.in_err-first.field-0.0 c.in_err-first.ensures.steps)

pub returns-then-may_end-clause-reads : goal.returns-then-may_end-clause-reads
returns-then-may_end-clause-reads g c =
    let s = rw c.in_default.is at c.in_ok-first.ensures.steps in
    end_read g.S.Statement.grammar (g.S.Statement.place_view c.args.place) (left_from c.args.text.now c.args.pos) (length c.args.text.now) s (sym c.may_end.ensures ∙ c.if-may_end.true)

pub returns-else-may_end-clause-reads : goal.returns-else-may_end-clause-reads
returns-else-may_end-clause-reads g c =
    let s = rw c.in_default.is at c.in_ok-first.ensures.steps in
    early_end_read g.S.Statement.grammar (g.S.Statement.place_view c.args.place) (left_from c.args.text.now c.args.pos) (length c.args.text.now) s (sym c.may_end.ensures ∙ c.if-may_end.false)
