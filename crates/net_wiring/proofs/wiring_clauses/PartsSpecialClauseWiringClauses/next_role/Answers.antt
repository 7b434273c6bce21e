use Rattle.std.proofs.Common.{◌∷◌, length, ap, sym, ◌∙◌}
use Rattle.statement_model.specs.Form.{spell}
use Rattle.def_grammar.specs.SpecialNets.{special_clause}
use Rattle.edit_rules.specs.NetEdits.{Role, special_role}
use Rattle.lefdef_tokens.specs.Views.{rest_of}
use Rattle.wire_parts.specs.SpecialNetViews.{special_clause_view, special_clauses_of}
use Rattle.net_wiring.specs.WiringViews.{shown}
use Rattle.net_wiring.proofs.WiringLemmas.{words_read}
use Rattle.net_wiring.proofs.wiring_clauses.PartsSpecialClauseWiringClauses.next_role.Goals as goal

pub returns : goal.returns
returns c =
    let e = c.in-Some.ensures in
    let clause = special_clause_view c.in-Some.clause in
    let count = length (spell special_clause clause) in
    let later = shown special_clause special_role (special_clauses_of c.next.new.self) in
    record {
      count = count;
      step = ap (shown special_clause special_role) e.step ∙ ap (λ (r : Role). (r, count) ∷ later) (sym c.special_role.ensures);
      fewer = words_read special_clause (rest_of c.args.self.now.cursor) (rest_of c.next.new.self.cursor) clause e.reads;
    }
