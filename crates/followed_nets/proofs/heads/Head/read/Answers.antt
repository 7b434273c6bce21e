use Rattle.std.proofs.Common.{◌∙◌, List, ℕ, ap, sym}
use Rattle.statement_model.specs.Reading.{read_at}
use Rattle.statement_model.specs.Tokens.{left_from}
use Rattle.def_grammar.specs.Records.{def}
use Rattle.followed_nets.proofs.heads.Head.read.Goals as goal

pub returns-in-Ok-Some : goal.returns-in-Ok-Some
returns-in-Ok-Some g c =
    let said = rw c.in-Ok-Some.field-0-is at c.in-Ok-Some.ensures.reads in
    record {
      after = c.in-Ok-Some.read.place;
      rest = left_from c.deref.result.now c.in-Ok-Some.read.end;
      reads = ap (λ (b : List ℕ). read_at def c.args.self.now.mode (left_from b 0)) (sym c.deref.ensures.value) ∙ said.2;
    }
