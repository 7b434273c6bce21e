use Rattle.std.proofs.Common.{◌≡◌, ◌<◌, ◌≤◌, ◌∙◌, ℕ, List, length, sym, ap, subst, arith}
use Rattle.std.specs.Prelude.{IfOk}
use Rattle.statement_model.specs.Cuts.{Cut}
use Rattle.text_pieces.specs.Content.{Content, text_of}
use Rattle.text_pieces.specs.NewStretches.{new_stretch}
use Rattle.text_pieces.specs.Preparing.{Prepares}
use Rattle.text_pieces.proofs.CoveredCuts.{cover_is, past_first, prepared_cuts}
use Rattle.text_pieces.proofs.text.TextPieces.prepare_all.Goals as goal

pub returns-then-first-self-clause-prepares : goal.returns-then-first-self-clause-prepares
returns-then-first-self-clause-prepares g c = λ all.
    let size : c.self.inside.len ≡ length (text_of c.args.self.now) = c.self.invariant.whole ∙ ap (λ (d : Content). length (text_of d)) c.self.view_is in
    let past : length (text_of c.args.self.now) < c.in-Some.first.now.lo = omega (arith, size, c.if-first-self.true) in
    past_first c.args.cuts.now c.in-Some.first.now (length (text_of c.args.self.now)) (sym c.in-Some.ensures.value) past all

pub returns-clause-prepares : goal.returns-clause-prepares
returns-clause-prepares g c =
    let put = c.in_ok-put.put.items in
    let one = subst (λ (l : List ℕ). Prepares c.args.self.now c.prepare-2.new.self (record { lo = c.in-Some.first.now.lo; hi = c.in_ok-put.hi; put = l }) c.prepare-2.result) c.deref.ensures.value c.prepare-2.ensures.prepares in
    prepared_cuts c.args.self.now c.prepare-2.new.self c.args.cuts.now c.in-Some.first.now put c.in_ok-put.hi c.prepare-2.result (sym c.in-Some.ensures.value) c.in_ok-put.ensures.covers one

pub returns-clause-few : goal.returns-clause-few
returns-clause-few g c =
    let text = text_of c.args.self.now in
    let cover = cover_is text c.args.cuts.now c.in-Some.first.now c.in_ok-put.put.items c.in_ok-put.hi (sym c.in-Some.ensures.value) c.in_ok-put.ensures.covers in
    let put = ap (λ (l : List ℕ). record { lo = c.in-Some.first.now.lo; hi = c.in_ok-put.hi; put = l }) c.deref.ensures.value in
    subst (λ (cut : Cut). IfOk c.prepare-2.result (λ p. p.reads ≤ length (new_stretch text cut))) (put ∙ cover) c.prepare-2.ensures.few
