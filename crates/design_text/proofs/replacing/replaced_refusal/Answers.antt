use Rattle.std.proofs.Common.{◌∙◌, List, ℕ, IsOk, ap, subst, sym}
use Rattle.def_grammar.specs.Records.{read_def}
use Rattle.design_text.proofs.ReadTexts.{has_fault, refused_is, spliced_is}
use Rattle.design_text.proofs.replacing.replaced_refusal.Goals as goal

pub unreachable-requires : goal.unreachable-requires
unreachable-requires g c =
    let all = c.deref.ensures.value ∙ c.in-Ok.ensures ∙ spliced_is c.args.text.now c.args.a c.args.b c.args.new.now c.requires.order c.requires.within in
    has_fault _ c.requires.fault.0 c.requires.fault.1 (subst (λ (t : List ℕ). IsOk (read_def t)) all c.in-Ok-read_def.ensures.reads)

pub returns-in-Err-Fault : goal.returns-in-Err-Fault
returns-in-Err-Fault g c =
    let text = c.args.text.now in
    let all = c.deref.ensures.value ∙ c.in-Ok.ensures ∙ spliced_is text c.args.a c.args.b c.args.new.now c.requires.order c.requires.within in
    refused_is text c.args.a c.args.b c.args.new.now c.requires.order c.requires.within c.requires.short _ (ap read_def (sym all) ∙ (rw c.in-Err-Fault.field-0-is at c.in-Err-Fault.ensures.reads))
