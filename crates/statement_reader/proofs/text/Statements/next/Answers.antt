use Rattle.std.proofs.Common.{length}
use Rattle.statement_model.specs.Tokens.{left_from}
use Rattle.lefdef_tokens.specs.Views.{pieces_of}
use Rattle.statement_reader.proofs.LocatedSteps.{located_first, located_ends, located_fault}
use Rattle.statement_reader.proofs.text.Statements.next.Goals as goal

pub returns-in_default-clause-gives : goal.returns-in_default-clause-gives
returns-in_default-clause-gives g c =
    let s = c.args.self.now in
    located_fault g.S.Statement.grammar (g.S.Statement.place_view s.place) (left_from s.text.now s.pos) c.in_default.field-0 c.in_default.ensures.reads

pub returns-in_err-read-clause-gives : goal.returns-in_err-read-clause-gives
returns-in_err-read-clause-gives g c =
    let s = c.args.self.now in
    let cut = rw c.in_err-read.was at c.in-Ok.ensures.cuts in
    rw c.from_residual.ensures (located_ends g.S.Statement.grammar (g.S.Statement.place_view s.place) (left_from s.text.now s.pos) (length s.text.now) cut)

pub returns-clause-gives : goal.returns-clause-gives
returns-clause-gives g c =
    let s = c.args.self.now in
    let read = c.in_ok-read.read in
    let reads = rw c.in_ok-read.was at c.in-Ok.ensures.reads in
    let cut = rw c.in_ok-read.was at c.in-Ok.ensures.cuts in
    located_first g.S.Statement.grammar (g.S.Statement.place_view s.place) (g.S.Statement.place_view read.place) (left_from s.text.now s.pos) (left_from s.text.now read.end) (pieces_of read.tokens) (g.S.Statement.view read.statement) cut reads.2
