use Rattle.std.proofs.Common.{◌≡◌, map, ap, sym, ◌∙◌, refl, rules}
use Rattle.edit_rules.specs.Plans.{is_long}
use Rattle.def_splice.specs.SpliceViews.{cut_view, made}
use Rattle.def_splice.proofs.fitting.unless_long.Goals as goal

pub returns-then-is_long-clause-cuts : goal.returns-then-is_long-clause-cuts
returns-then-is_long-clause-cuts g c = λ text fits.
    let same : c.deref.result.now ≡ c.args.splices.items = search rules in
    (refl, ap (λ ss. is_long (made ss text)) (sym same) ∙ sym (c.is_long.ensures text fits) ∙ c.if-is_long.true)

pub returns-clause-cuts : goal.returns-clause-cuts
returns-clause-cuts g c = λ text fits.
    let same : c.deref.result.now ≡ c.args.splices.items = search rules in
    (ap (λ ss. map cut_view ss) c.from_vec.ensures, ap (λ ss. is_long (made ss text)) (sym same) ∙ sym (c.is_long.ensures text fits) ∙ c.if-is_long.false)
