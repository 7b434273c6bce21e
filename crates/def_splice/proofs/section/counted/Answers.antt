use Rattle.std.proofs.Common.{◌≡◌, ◌∷◌, [], List, ℕ, decimal, take, drop, ap, ap₂, sym, subst, ◌∙◌, arith, rules}
use Rattle.statement_model.specs.Cuts.{Cut, end_of_all}
use Rattle.def_splice.specs.Lying.{lying_tokens}
use Rattle.def_splice.specs.SpliceViews.{AreCuts, change_cut, cut_view}
use Rattle.def_splice.proofs.SomeTokens.{words_there}
use Rattle.def_splice.proofs.section.counted.Goals as goal

pub change_splice-requires-clause-some : goal.change_splice-requires-clause-some
change_splice-requires-clause-some g c = omega (arith, c.requires.behind.0, words_there c.args.header)

pub change_splice-requires-clause-tokens : goal.change_splice-requires-clause-tokens
change_splice-requires-clause-tokens g c = omega (arith, c.requires.behind.0, words_there c.args.header)

pub change_splice-requires-clause-fits : goal.change_splice-requires-clause-fits
change_splice-requires-clause-fits g c = omega (arith, c.requires.head.within, c.requires.fits)

pub change_splice-requires-2-clause-fits : goal.change_splice-requires-2-clause-fits
change_splice-requires-2-clause-fits g c = omega (arith, c.requires.lies.within, c.requires.fits)

pub two_splices-requires-clause-apart : goal.two_splices-requires-clause-apart
two_splices-requires-clause-apart g c =
    let text = g.L.LookUps.text c.args.lookups.now in
    let hi : c.in_ok-first.first.hi ≡ end_of_all (take 1 (drop 1 (lying_tokens c.args.header))) = ap (λ (x : Cut). x.hi) (c.in_ok-first.ensures.cut text c.requires.head) in
    let lo : c.in_ok-second.second.lo ≡ (change_cut text (lying_tokens c.args.statement) 0 c.args.taken c.args.put.now).lo = ap (λ (x : Cut). x.lo) (c.in_ok-second.ensures.cut text c.requires.lies) in
    rw (hi, lo) c.requires.behind.1

pub returns-clause-cuts : goal.returns-clause-cuts
returns-clause-cuts g c =
    let text = g.L.LookUps.text c.args.lookups.now in
    let number : c.as_bytes-number.result.now ≡ decimal c.args.count = search rules in
    let first = c.in_ok-first.ensures.cut text c.requires.head ∙ ap (λ (p : List ℕ). change_cut text (lying_tokens c.args.header) 1 1 p) number in
    let both = ap₂ (λ (a b : Cut). a ∷ b ∷ []) first (c.in_ok-second.ensures.cut text c.requires.lies) in
    subst (λ (cuts : List Cut). AreCuts {A = g.row.A.Denot} text cuts c.two_splices.result) both (c.two_splices.ensures.cuts text (sym c.len.ensures))
