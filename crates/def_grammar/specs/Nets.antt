-- The section NETS (LEF/DEF 5.8 Language Reference, "Nets").
use Rattle.std.specs.Prelude.{◌⊎◌, ℕ, List, Option, Some, None, codes, refl}
use Rattle.std.proofs.Common.{inl, inr}
use Rattle.form_meanings.specs.Words.{is_plain, is_plus, is_stop, is_semicolon}
use Rattle.form_meanings.specs.Meaning.{Seen}
use Rattle.statement_model.specs.Form.{Form, word, upto, ◌▸◌, ◌◂◌, ◌⨟◌, closed, many, or_else, seen, on}
use Rattle.def_grammar.specs.Parts.{name}
use Rattle.def_grammar.specs.Points.{is_open}
use Rattle.def_grammar.specs.Clauses.{KeptClause, kept_clause}
use Rattle.def_grammar.specs.Terminals.{Terminal, terminal}
use Rattle.def_grammar.specs.Wiring.{Wiring, wiring}

-- a clause that has its form: the use of the net, its rule, or wiring
abbrev pub ListedClause : Type 0
ListedClause = List ℕ ⊎ (List ℕ ⊎ Wiring)

-- a clause of an entry, without its +. SUBNET takes all tokens up to the ;.
abbrev pub NetClause : Type 0
NetClause = List (List ℕ) ⊎ (ListedClause ⊎ KeptClause)

pattern abbrev pub net_subnet : List (List ℕ) → NetClause
net_subnet tokens = inl tokens

pattern abbrev pub net_use : List ℕ → NetClause
net_use word = inr (inl (inl word))

pattern abbrev pub net_rule : List ℕ → NetClause
net_rule name = inr (inl (inr (inl name)))

pattern abbrev pub net_wiring : Wiring → NetClause
net_wiring wiring = inr (inl (inr (inr wiring)))

pattern abbrev pub net_kept : KeptClause → NetClause
net_kept clause = inr (inr clause)

-- USE word, NONDEFAULTRULE name, or wiring, before a + or ;
unfoldable pub net_listed : Form ListedClause
net_listed = closed is_stop (on (codes "USE") (word is_plain) (on (codes "NONDEFAULTRULE") name wiring))

-- SUBNET any*, a clause that has its form, or word rest, each after a +. A clause that begins as one with a form and
-- hasn't it is kept: code reads it as listed first, and where that fails, once more as tokens.
unfoldable pub net_clause : Form NetClause
net_clause = codes "+" ▸ on (codes "SUBNET") (upto is_semicolon) (or_else net_listed kept_clause)

-- a net: its name, its terminals, and its clauses
pub record Net : Type 0 where
  pub name : List ℕ
  pub terminals : List Terminal
  pub clauses : List NetClause

abbrev pub as_net : Seen (List ℕ × (List Terminal × List NetClause)) Net
as_net = record { to = λ p. record { name = p.0; terminals = p.1.0; clauses = p.1.1 }; from = λ n. (n.name, (n.terminals, n.clauses)); to_from = λ n. refl; from_to = λ p. refl }

-- name term* (+ clause)*
unfoldable pub net : Form Net
net = seen as_net (name ⨟ many is_open terminal ⨟ many is_plus net_clause)

-- an entry: MUSTJOIN with tokens that mean nothing, or a net
abbrev pub NetEntry : Type 0
NetEntry = List (List ℕ) ⊎ Net

pattern abbrev pub must_join : List (List ℕ) → NetEntry
must_join tokens = inl tokens

pattern abbrev pub is_net : Net → NetEntry
is_net net = inr net

abbrev pub net_name : NetEntry → Option (List ℕ)
net_name (is_net net) = Some net.name
net_name (must_join tokens) = None

-- - MUSTJOIN any* ;, or - name term* (+ clause)* ;
unfoldable pub net_form : Form NetEntry
net_form = codes "-" ▸ on (codes "MUSTJOIN") (upto is_semicolon) net ◂ codes ";"

-- the rule that one clause names
abbrev pub rule_of_clause : NetClause → Option (List ℕ)
rule_of_clause (net_rule name) = Some name
rule_of_clause _ = None
