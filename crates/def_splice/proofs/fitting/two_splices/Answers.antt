use Rattle.std.proofs.Common.{◌≡◌, ◌∷◌, [], ◌++◌, map, ap, ◌∙◌, subst, arith}
use Rattle.def_splice.specs.SpliceViews.{AreCuts, cut_view}
use Rattle.def_splice.proofs.fitting.two_splices.Goals as goal

pub unless_long-requires : goal.unless_long-requires
unless_long-requires g c =
    let first = c.in_ok-push.ensures.items ∙ ap (λ ss. ss ++ c.args.first ∷ []) c.in_ok-splices.ensures.items in
    let same : c.push-2.new.self.items ≡ c.args.first ∷ c.args.second ∷ [] = c.in_ok-push-2.ensures.items ∙ ap (λ ss. ss ++ c.args.second ∷ []) first in
    rw same (record { order = (omega arith, c.requires.first, (c.requires.apart, c.requires.second, c.requires.within)) })

pub returns-clause-cuts : goal.returns-clause-cuts
returns-clause-cuts g c = λ text fits.
    let first = c.in_ok-push.ensures.items ∙ ap (λ ss. ss ++ c.args.first ∷ []) c.in_ok-splices.ensures.items in
    let same : c.push-2.new.self.items ≡ c.args.first ∷ c.args.second ∷ [] = c.in_ok-push-2.ensures.items ∙ ap (λ ss. ss ++ c.args.second ∷ []) first in
    subst (λ ss. AreCuts {A = g.row.A.Denot} text (map cut_view ss) c.unless_long.result) same (c.unless_long.ensures.cuts text fits)
