use Rattle.std.proofs.Common.{◌∷◌, ◌∙◌, ap, sym}
use Rattle.std.proofs.lemmas.List.{take_rest}
use Rattle.via_parts.specs.RuleViews.{rule_clause_view, rule_clauses_of, rule_layer_view}
use Rattle.entry_references.proofs.RuleLemmas.{all_listed, listed_already, listed_now, no_fewer}
use Rattle.entry_references.proofs.rules.push_rule.Goals as goal

pub loop-clause-preserved-in-Continue-1 : goal.loop-clause-preserved-in-Continue-1
loop-clause-preserved-in-Continue-1 g c =
    let l = c.loop-clause in
    let all = rule_clauses_of c.args.parts.now.clauses in
    let later = rule_clauses_of c.next.new.self in
    let step = c.in-Some.ensures.step ∙ ap (λ z. rule_clause_view z ∷ later) c.in-Layer.is in
    let test = rw (take_rest, c.deref.ensures.value, l.invariant.start) at c.has_layer.ensures in
    let listed = listed_now c.args.found.now.items l.found.items (rule_clauses_of l.left) all l.invariant.listed later (rule_layer_view c.in-Layer.layer) step c.push.new.found.items c.in_ok-push.ensures (sym test ∙ c.if-not-has_layer.true) in
    record { listed = listed; start = l.invariant.start; within = rw l.invariant.start (no_fewer c.args.found.now.items c.push.new.found.items later all listed) }

pub loop-clause-preserved : goal.loop-clause-preserved
loop-clause-preserved g c =
    let l = c.loop-clause in
    let all = rule_clauses_of c.args.parts.now.clauses in
    let later = rule_clauses_of c.next.new.self in
    let step = c.in-Some.ensures.step ∙ ap (λ z. rule_clause_view z ∷ later) c.in-Layer.is in
    let test = rw (take_rest, c.deref.ensures.value, l.invariant.start) at c.has_layer.ensures in
    record {
      listed = listed_already c.args.found.now.items l.found.items (rule_clauses_of l.left) all l.invariant.listed later (rule_layer_view c.in-Layer.layer) step (sym test ∙ c.if-not-has_layer.false);
      start = l.invariant.start;
      within = l.invariant.within;
    }

pub returns : goal.returns
returns g c = all_listed c.args.found.now.items c.loop-clause.found.items (rule_clauses_of c.loop-clause.left) (rule_clauses_of c.args.parts.now.clauses) c.loop-clause.invariant.listed c.in_default.ensures.step
