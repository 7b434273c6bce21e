use Rattle.std.proofs.Common.{◌∷◌, length, ap, sym, ◌∙◌}
use Rattle.statement_model.specs.Form.{spell}
use Rattle.def_grammar.specs.Nets.{net_clause}
use Rattle.edit_rules.specs.NetEdits.{Role, net_role}
use Rattle.lefdef_tokens.specs.Views.{rest_of}
use Rattle.wire_parts.specs.NetViews.{net_clause_view, net_clauses_of}
use Rattle.net_wiring.specs.WiringViews.{shown}
use Rattle.net_wiring.proofs.WiringLemmas.{words_read}
use Rattle.net_wiring.proofs.wiring_clauses.PartsNetClauseWiringClauses.next_role.Goals as goal

pub returns : goal.returns
returns c =
    let e = c.in-Some.ensures in
    let clause = net_clause_view c.in-Some.clause in
    let count = length (spell net_clause clause) in
    let later = shown net_clause net_role (net_clauses_of c.next.new.self) in
    record {
      count = count;
      step = ap (shown net_clause net_role) e.step ∙ ap (λ (r : Role). (r, count) ∷ later) (sym c.net_role.ensures);
      fewer = words_read net_clause (rest_of c.args.self.now.cursor) (rest_of c.next.new.self.cursor) clause e.reads;
    }
