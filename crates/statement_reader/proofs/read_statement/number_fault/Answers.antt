use Rattle.std.proofs.Common.{◌≡◌, ◌-◌, ap, Some, None}
use Rattle.std.specs.List.{slice_get}
use Rattle.design_model.specs.declared.fault.FaultCode.TheVariants.{Number}
use Rattle.statement_model.specs.Reading.{fault_at}
use Rattle.lefdef_tokens.specs.Views.{pieces_of, token_of}
use Rattle.statement_reader.proofs.TokenLemmas.{left_found, left_past}
use Rattle.statement_reader.proofs.read_statement.number_fault.Goals as goal

pub returns-in-Some : goal.returns-in-Some
returns-in-Some c =
    let ps = pieces_of c.args.tokens in
    let found : slice_get ps (c.len.result - c.args.left) ≡ Some (token_of c.in-Some.token) = rw (← c.saturating_sub.ensures) c.in-Some.ensures.gives in
    ap (fault_at Number) (left_found ps c.args.left c.len.result (token_of c.in-Some.token) c.len.ensures found)

pub returns-in-None : goal.returns-in-None
returns-in-None c =
    let ps = pieces_of c.args.tokens in
    let past : slice_get ps (c.len.result - c.args.left) ≡ None = rw (← c.saturating_sub.ensures) c.in-None.ensures.gives in
    ap (fault_at Number) (left_past ps c.args.left c.len.result c.len.ensures past)
