-- Entries of NONDEFAULTRULES of the program as those of the definitions, and which tokens they are.
use Rattle.std.specs.Prelude.{List}
use Rattle.form_meanings.specs.Words.{is_plus}
use Rattle.form_meanings.specs.Meaning.{items}
use Rattle.statement_model.specs.Form.{read}
use Rattle.def_grammar.specs.Rules.{RuleLayer, RuleClause, rule_has_layer, rule_kept, rule_clause, Rule}
use Rattle.statement_model.specs.Tokens.{Token}
use Rattle.lefdef_tokens.specs.Places.{RunAt, StandsAt, past}
use Rattle.lefdef_tokens.specs.Views.{rest_of, words_of}
use Rattle.statement_reader.specs.declared.parts.Parts.{Parts}
use Rattle.def_parts.specs.ClauseViews.{KeptAt, kept_view}
use Rattle.statement_reader.specs.PartViews.{PartsAt}
use Rattle.via_parts.specs.declared.rules.RuleLayer as code_layer
use Rattle.via_parts.specs.declared.rules.RuleClause as code_clause
use Rattle.via_parts.specs.declared.rules.RuleClause.TheVariants as clauses
use Rattle.via_parts.specs.declared.rules.RuleParts as code_rule

abbrev pub rule_layer_view : code_layer.RuleLayer → RuleLayer
rule_layer_view l = record { layer = l.layer.bytes.now; width = l.width.bytes.now; rest = words_of l.rest }

abbrev pub rule_clause_view : code_clause.RuleClause → RuleClause
rule_clause_view (clauses.Layer layer) = rule_has_layer (rule_layer_view layer)
rule_clause_view (clauses.Other clause) = rule_kept (kept_view clause)

-- the clauses that are left
abbrev pub rule_clauses_of : Parts code_clause.RuleClause → List RuleClause
rule_clauses_of parts = items parts.most is_plus (read rule_clause) (rest_of parts.cursor)

abbrev pub rule_view : code_rule.RuleParts → Rule
rule_view r = record { name = r.name.bytes.now; clauses = rule_clauses_of r.clauses }

-- of these tokens, the first is the layer and the third its width, behind WIDTH
abbrev pub RuleLayerAt : List Token → code_layer.RuleLayer → Type 0
RuleLayerAt ps l = StandsAt ps l.layer × StandsAt (past 2 ps) l.width × RunAt (past 3 ps) l.rest

-- behind the +, and the word LAYER
abbrev pub RuleClauseAt : List Token → code_clause.RuleClause → Type 0
RuleClauseAt ps (clauses.Layer layer) = RuleLayerAt (past 2 ps) layer
RuleClauseAt ps (clauses.Other clause) = KeptAt (past 1 ps) clause

-- of these tokens, the second is the name, and behind it come the clauses
abbrev pub RuleAt : List Token → code_rule.RuleParts → Type 0
RuleAt ps r = StandsAt (past 1 ps) r.name × PartsAt (past 2 ps) r.clauses
