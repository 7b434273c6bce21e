use Rattle.std.proofs.Common.{◌≡◌, ◌∙◌, ℕ, suc, sym, refl, ap, add-one, arith, length, ◌+◌}
use Rattle.std.proofs.lemmas.Result.{err_from_is_err_and}
use Rattle.statement_model.specs.Tokens.{Lexed, left_from}
use Rattle.lefdef_tokens.specs.Views.{token_of}
use Rattle.lefdef_tokens.specs.declared.span.Span.{Span}
use Rattle.statement_reader.specs.Endings.{ending_view}
use Rattle.statement_reader.proofs.Cutting.{going_from, going_on, going_done, none_later, going_fault, going_ends, one_later}
use Rattle.statement_reader.proofs.boundary.statement_run.Goals as goal

pub loop-done-init : goal.loop-done-init
loop-done-init c =
    let further = c.requires.further in
    let past = c.passed_over-at.ensures.passes in
    let low = c.passed_over-at.ensures.low in
    let few = c.passed_over-at.ensures.few in
    record {
      further = omega arith;
      within = c.passed_over-at.ensures.high;
      few = omega arith;
      end = λ alone. none_later (c.args.first.now.pos + length c.args.first.now.bytes.now) c.passed_over-at.result.0 c.passed_over-at.result.1 c.args.second (left_from c.args.text.now c.args.second).pieces c.requires.next.end (past.none (sym c.is_alone-done.ensures ∙ alone));
      going = λ e same. going_from e c.args.text.now c.args.second c.passed_over-at.result.0 c.passed_over-at.result.1 (ending_view c.args.ending) (left_from c.args.text.now c.args.pos) (token_of c.args.first.now) c.is_alone-done.result c.requires.begins same past c.is_alone-done.ensures;
    }

pub loop-done-preserved : goal.loop-done-preserved
loop-done-preserved c =
    let s = rw c.in-Some.is at c.in_ok-token.ensures.steps in
    let i = c.loop-done.invariant in
    record {
      further = omega (arith, s.0, i.further);
      within = s.1;
      few = omega (arith, s.0, i.few);
      end = λ last.
          let n = rw c.in-Some.is at c.in_ok-token.ensures.span in
          let g = rw c.loop-done-test.true at i.going (λ w. ending_view c.args.ending) refl in
          one_later c.args.first.now.pos (length c.args.first.now.bytes.now) (left_from c.args.text.now c.args.second).pieces (left_from c.args.text.now c.in-Some.after).pieces c.loop-done.later (token_of c.in-Some.token) (g.left ∙ ap (λ (x : Lexed). x.pieces) s.2) ∙ n.end;
      going = λ e same.
          let g = rw c.loop-done-test.true at i.going e same in
          rw (c.is_last-done.ensures, sym same) (going_on e (left_from c.args.text.now c.args.pos) (left_from c.args.text.now c.args.second) (left_from c.args.text.now c.loop-done.at) (left_from c.args.text.now c.in-Some.after) (token_of c.args.first.now) (token_of c.in-Some.token) c.loop-done.later g s.2);
    }

pub returns-in-None-clause-runs : goal.returns-in-None-clause-runs
returns-in-None-clause-runs c = λ e same.
    let s = rw c.in-None.is at c.in_ok-token.ensures.steps in
    let g = rw c.loop-done-test.true at c.loop-done.invariant.going e same in
    going_ends e (left_from c.args.text.now c.args.pos) (left_from c.args.text.now c.args.second) (left_from c.args.text.now c.loop-done.at) (token_of c.args.first.now) c.loop-done.later (length c.args.text.now) g s

pub returns-in_err-token-clause-runs : goal.returns-in_err-token-clause-runs
returns-in_err-token-clause-runs c = λ e same.
    let p = err_from_is_err_and c.from_residual.result c.from_residual.ensures.1 in
    let g = rw c.loop-done-test.true at c.loop-done.invariant.going e same in
    rw (p.1, p.2) (going_fault e (left_from c.args.text.now c.args.pos) (left_from c.args.text.now c.args.second) (left_from c.args.text.now c.loop-done.at) (token_of c.args.first.now) c.loop-done.later c.in_err-token.field-0.0 g c.in_err-token.ensures.steps)

pub returns-clause-runs : goal.returns-clause-runs
returns-clause-runs c = λ e same.
    let g = rw c.loop-done-test.false at c.loop-done.invariant.going e same in
    going_done e (left_from c.args.text.now c.args.pos) (left_from c.args.text.now c.args.second) (left_from c.args.text.now c.loop-done.at) (token_of c.args.first.now) c.loop-done.later g

pub invariant_of-tokens : goal.invariant_of-tokens
invariant_of-tokens c =
    let l = left_from c.args.text.now c.args.pos in
    let q = left_from c.args.text.now c.args.second in
    let first = token_of c.args.first.now in
    let g = c.loop-done.invariant.going (λ w. ending_view c.args.ending) refl in
    let few = g.few in
    let n : length l.pieces ≡ suc (length q.pieces) = ap (λ (x : Lexed). length x.pieces) g.whole in
    let further = c.requires.further in
    let within = c.requires.within in
    record { within = omega arith; there = omega arith }

pub returns-clause-span : goal.returns-clause-span
returns-clause-span c =
    let g = c.loop-done.invariant.going (λ w. ending_view c.args.ending) refl in
    rw (g.whole, add-one) (ap (λ (n : ℕ). let s : Span = record { lo = c.args.first.now.pos; hi = n } in s) (c.loop-done.invariant.end c.loop-done-test.false))
