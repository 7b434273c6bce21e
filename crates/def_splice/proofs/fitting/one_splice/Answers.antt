use Rattle.std.proofs.Common.{◌≡◌, ◌∷◌, [], ◌++◌, map, ap, ◌∙◌, subst, arith}
use Rattle.def_splice.specs.SpliceViews.{AreCuts, cut_view}
use Rattle.def_splice.proofs.fitting.one_splice.Goals as goal

pub unless_long-requires : goal.unless_long-requires
unless_long-requires g c =
    let same : c.push.new.self.items ≡ c.args.splice ∷ [] = c.in_ok-push.ensures.items ∙ ap (λ ss. ss ++ c.args.splice ∷ []) c.in_ok-splices.ensures.items in
    rw same (record { order = (omega arith, c.requires.order, c.requires.within) })

pub returns-clause-cuts : goal.returns-clause-cuts
returns-clause-cuts g c = λ text fits.
    let same : c.push.new.self.items ≡ c.args.splice ∷ [] = c.in_ok-push.ensures.items ∙ ap (λ ss. ss ++ c.args.splice ∷ []) c.in_ok-splices.ensures.items in
    subst (λ ss. AreCuts {A = g.row.A.Denot} text (map cut_view ss) c.unless_long.result) same (c.unless_long.ensures.cuts text fits)
