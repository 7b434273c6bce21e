use Rattle.std.proofs.Common.{◌-◌, arith, sym}
use Rattle.lefdef_tokens.specs.Views.{rest_of}
use Rattle.statement_reader.proofs.PartLoops.{no_items, no_item_left, no_item_reads, item_read}
use Rattle.statement_reader.proofs.parts.Parts.next.Goals as goal
use Rattle.statement_reader.proofs.parts.Parts.next.Goals.{then-self-eq0-via-then-self-eq0, then-self-eq0-via-else-self-eq0+then-not-next_begins}

pub returns-then-self-eq0-clause-step : goal.returns-then-self-eq0-clause-step
returns-then-self-eq0-clause-step g c =
    let self = c.args.self.now in
    elim c.then-self-eq0.branch [
      | then-self-eq0-via-then-self-eq0 w ↦ no_item_left g.P.Part.test g.P.Part.reads self.most (rest_of self.cursor) w.if-self-eq0.true
      | then-self-eq0-via-else-self-eq0+then-not-next_begins w ↦ no_items g.P.Part.test g.P.Part.reads self.most (rest_of self.cursor) (sym w.if-not-next_begins.ensures)
    ]

pub returns-in_err-part-clause-step : goal.returns-in_err-part-clause-step
returns-in_err-part-clause-step g c =
    let self = c.args.self.now in
    rw c.from_residual.ensures (no_item_reads g.P.Part.test g.P.Part.reads self.most (rest_of self.cursor) c.in_err-part.ensures.gives)

pub returns-clause-step : goal.returns-clause-step
returns-clause-step g c =
    let self = c.args.self.now in
    let some = c.if-self-eq0.false in
    item_read g.P.Part.test g.P.Part.reads self.most (self.most - 1) (rest_of self.cursor) (rest_of c.in_ok-part.later) (g.P.Part.view c.in_ok-part.part) (omega arith) (sym c.if-not-next_begins.ensures) c.in_ok-part.ensures.gives
