use Rattle.std.proofs.Common.{◌≡◌, ◌∙◌, ◌≤◌, ◌+◌, ◌-◌, ℕ, List, Ok, IsOk, false, length, sym, ap, subst, arith}
use Rattle.std.specs.Prelude.{nat_le}
use Rattle.design_model.specs.declared.TheConstants.{MAX_TEXT}
use Rattle.def_grammar.specs.Records.{read_def}
use Rattle.edit_rules.specs.Edits.{is_long}
use Rattle.edit_rules.specs.Runs.{new_text}
use Rattle.design_text.specs.DesignTexts.{Content, text_of}
use Rattle.design_text.proofs.FewMade.{one_few}
use Rattle.design_text.proofs.ReadTexts.{is_short, outcome_is}
use Rattle.design_text.proofs.text.DesignText.replace.Goals as goal

pub returns-in-Ok-clause-replaces : goal.returns-in-Ok-clause-replaces
returns-in-Ok-clause-replaces g c =
    let old = text_of c.args.self.now in
    let lo = c.args.lo in
    let hi = c.args.hi in
    let put = c.args.put.now in
    let long : c.len.result ≡ length old = c.len.ensures ∙ ap (λ (v : Content). length (text_of v)) c.self.view_is in
    let order : lo ≤ hi = omega (arith, c.if-lo-hi.false) in
    let within : hi ≤ length old = omega (arith, c.if-hi-len.false, long) in
    let fits : c.fits.result ≡ nat_le ((length old - (hi - lo)) + length put) MAX_TEXT =
    c.fits.ensures ∙ ap (λ (v : Content). nat_le ((length (text_of v) - (hi - lo)) + length put) MAX_TEXT) c.self.view_is in
    let short = is_short old lo hi put order within (sym fits ∙ c.if-not-fits.false) in
    let same : text_of c.make.new.self ≡ new_text old lo hi put = c.in-Ok.ensures.makes in
    outcome_is old lo hi put order within short (subst (λ t. IsOk (read_def t)) same c.text_reads.ensures.reads) ∙ ap (λ (t : List ℕ). Ok t) (sym same)

pub refusal-requires-clause-short : goal.refusal-requires-clause-short
refusal-requires-clause-short g c =
    let old = text_of c.args.self.now in
    let lo = c.args.lo in
    let hi = c.args.hi in
    let put = c.args.put.now in
    let long : c.len.result ≡ length old = c.len.ensures ∙ ap (λ (v : Content). length (text_of v)) c.self.view_is in
    let order : lo ≤ hi = omega (arith, c.if-lo-hi.false) in
    let within : hi ≤ length old = omega (arith, c.if-hi-len.false, long) in
    let fits : c.fits.result ≡ nat_le ((length old - (hi - lo)) + length put) MAX_TEXT =
    c.fits.ensures ∙ ap (λ (v : Content). nat_le ((length (text_of v) - (hi - lo)) + length put) MAX_TEXT) c.self.view_is in
    let short = is_short old lo hi put order within (sym fits ∙ c.if-not-fits.false) in
    subst (λ t. is_long (new_text t lo hi put) ≡ false) (sym (rw c.in-Err-Fault.field-0-is at c.in-Err-Fault.ensures.makes).0) short

pub returns-in-Ok-clause-few : goal.returns-in-Ok-clause-few
returns-in-Ok-clause-few g c = one_few (text_of c.args.self.now) (record { lo = c.args.lo; hi = c.args.hi; put = c.args.put.now }) c.in-Ok.made.reads c.in-Ok.ensures.few
