-- The section NONDEFAULTRULES (LEF/DEF 5.8 Language Reference, "Nondefault Rules").
use Rattle.std.specs.Prelude.{◌⊎◌, ℕ, List, codes, refl, Option, Some, None}
use Rattle.std.proofs.Common.{inl, inr}
use Rattle.form_meanings.specs.Words.{is_plus}
use Rattle.form_meanings.specs.Meaning.{Seen}
use Rattle.statement_model.specs.Form.{Form, number, ◌▸◌, ◌◂◌, ◌⨟◌, many, seen, on}
use Rattle.def_grammar.specs.Limits.{is_size}
use Rattle.def_grammar.specs.Parts.{name, rest}
use Rattle.def_grammar.specs.Clauses.{KeptClause, kept_clause}

-- the width of a rule on a layer, and tokens without meaning
pub record RuleLayer : Type 0 where
  pub layer : List ℕ
  pub width : List ℕ
  pub rest : List (List ℕ)

abbrev pub as_rule_layer : Seen (List ℕ × (List ℕ × List (List ℕ))) RuleLayer
as_rule_layer = record { to = λ p. record { layer = p.0; width = p.1.0; rest = p.1.1 }; from = λ l. (l.layer, (l.width, l.rest)); to_from = λ l. refl; from_to = λ p. refl }

-- name WIDTH int rest, after LAYER
unfoldable pub rule_layer : Form RuleLayer
rule_layer = seen as_rule_layer (name ⨟ codes "WIDTH" ▸ number is_size ⨟ rest)

-- a clause of an entry, without its +
abbrev pub RuleClause : Type 0
RuleClause = RuleLayer ⊎ KeptClause

pattern abbrev pub rule_has_layer : RuleLayer → RuleClause
rule_has_layer layer = inl layer

pattern abbrev pub rule_kept : KeptClause → RuleClause
rule_kept clause = inr clause

-- LAYER name WIDTH int rest, or word rest, each after a +
unfoldable pub rule_clause : Form RuleClause
rule_clause = codes "+" ▸ on (codes "LAYER") rule_layer kept_clause

-- an entry: its name, and its clauses
pub record Rule : Type 0 where
  pub name : List ℕ
  pub clauses : List RuleClause

abbrev pub as_rule : Seen (List ℕ × List RuleClause) Rule
as_rule = record { to = λ p. record { name = p.0; clauses = p.1 }; from = λ r. (r.name, r.clauses); to_from = λ r. refl; from_to = λ p. refl }

-- - name (+ clause)* ;
unfoldable pub rule_form : Form Rule
rule_form = seen as_rule (codes "-" ▸ name ⨟ many is_plus rule_clause ◂ codes ";")

-- what one clause says of a layer
abbrev pub layer_of_rule : RuleClause → Option RuleLayer
layer_of_rule (rule_has_layer l) = Some l
layer_of_rule _ = None
