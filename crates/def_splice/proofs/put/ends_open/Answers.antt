use Rattle.std.proofs.Common.{◌≡◌, not, sym, ap, ◌∙◌, rules}
use Rattle.std.specs.Option.{option_copied}
use Rattle.statement_model.specs.Tokens.{is_white}
use Rattle.def_splice.proofs.PutLemmas.{open_by, open_by_last}
use Rattle.def_splice.proofs.put.ends_open.Goals as goal

pub returns-in-Some : goal.returns-in-Some
returns-in-Some c =
    let same : c.is_white.result ≡ is_white c.in-Some.field-0.now = search rules in
    let value = sym c.last.ensures.value ∙ ap option_copied c.in-Some.is in
    ap not same ∙ (ap open_by (sym value) ∙ open_by_last c.args.put.now)
