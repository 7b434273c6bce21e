use Rattle.std.proofs.Common.{ℕ, List, IsOk, subst}
use Rattle.def_grammar.specs.Records.{read_def}
use Rattle.text_pieces.specs.Lent.{numbered_records}
use Rattle.design_text.proofs.ToldKeys.{keyed_reads}
use Rattle.design_text.proofs.opening.check_keys.Goals as goal

pub returns-then-is_keyed : goal.returns-then-is_keyed
returns-then-is_keyed g c =
    let s = c.statements_are_numbered.ensures in
    let keyed = c.is_keyed.ensures (numbered_records c.args.pieces.now) c.requires.told c.if-is_keyed.true in
    subst (λ (t : List ℕ). IsOk (read_def t)) c.requires.is (keyed_reads c.keys_decide.ensures c.fresh_is_once.ensures c.args.pieces.now s.reads s.all keyed)
