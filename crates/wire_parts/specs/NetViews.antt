-- Entries of NETS of the program as those of the definitions, and which tokens they are.
use Rattle.std.specs.Prelude.{List, codes}
use Rattle.form_meanings.specs.Words.{is_plain, is_plus}
use Rattle.form_meanings.specs.Meaning.{items, spell_all}
use Rattle.statement_model.specs.Form.{Form, on, read, spell, word}
use Rattle.statement_model.specs.Tokens.{Token}
use Rattle.def_grammar.specs.Parts.{name}
use Rattle.def_grammar.specs.Nets.{ListedClause, NetClause, net_subnet, net_use, net_rule, net_wiring, net_kept, net_clause, Net, NetEntry, must_join, is_net}
use Rattle.def_grammar.specs.Terminals.{terminal}
use Rattle.def_grammar.specs.Wiring.{wiring}
use Rattle.lefdef_tokens.specs.Places.{RunAt, StandsAt, behind, past}
use Rattle.lefdef_tokens.specs.Views.{rest_of, words_of}
use Rattle.statement_reader.specs.declared.parts.Parts.{Parts}
use Rattle.def_parts.specs.ClauseViews.{KeptAt, kept_view}
use Rattle.statement_reader.specs.PartViews.{PartsAt}
use Rattle.wire_parts.specs.TerminalViews.{terminals_of}
use Rattle.wire_parts.specs.WiringViews.{WiringAt, wiring_view}
use Rattle.wire_parts.specs.declared.nets.NetClause as code_clause
use Rattle.wire_parts.specs.declared.nets.NetClause.TheVariants as clauses
use Rattle.wire_parts.specs.declared.nets.NetParts as code_net
use Rattle.wire_parts.specs.declared.nets.NetEntry as code_entry
use Rattle.wire_parts.specs.declared.nets.NetEntry.TheVariants as entries

-- a clause that has its form, whatever stands behind it
abbrev pub net_by_word : Form ListedClause
net_by_word = on (codes "USE") (word is_plain) (on (codes "NONDEFAULTRULE") name wiring)

abbrev pub net_clause_view : code_clause.NetClause → NetClause
net_clause_view (clauses.Subnet tokens) = net_subnet (words_of tokens)
net_clause_view (clauses.Use word) = net_use word.bytes.now
net_clause_view (clauses.Rule name) = net_rule name.bytes.now
net_clause_view (clauses.Wiring wiring) = net_wiring (wiring_view wiring)
net_clause_view (clauses.Other clause) = net_kept (kept_view clause)

-- the clauses that are left
abbrev pub net_clauses_of : Parts code_clause.NetClause → List NetClause
net_clauses_of parts = items parts.most is_plus (read net_clause) (rest_of parts.cursor)

abbrev pub net_view : code_net.NetParts → Net
net_view n = record { name = n.name.bytes.now; terminals = terminals_of n.terminals; clauses = net_clauses_of n.clauses }

abbrev pub net_entry_view : code_entry.NetEntry → NetEntry
net_entry_view (entries.MustJoin tokens) = must_join (words_of tokens)
net_entry_view (entries.Net net) = is_net (net_view net)

-- from the clause's word on
abbrev pub NetClauseAt : List Token → code_clause.NetClause → Type 0
NetClauseAt ps (clauses.Subnet tokens) = RunAt (past 1 ps) tokens
NetClauseAt ps (clauses.Use word) = StandsAt (past 1 ps) word
NetClauseAt ps (clauses.Rule name) = StandsAt (past 1 ps) name
NetClauseAt ps (clauses.Wiring wiring) = WiringAt ps wiring
NetClauseAt ps (clauses.Other clause) = KeptAt ps clause

-- of these tokens, the first is the name, behind it come the terminals, and behind these the clauses
abbrev pub NetAt : List Token → code_net.NetParts → Type 0
NetAt ps n = StandsAt ps n.name × PartsAt (past 1 ps) n.terminals × PartsAt (behind (spell_all (spell terminal) (terminals_of n.terminals)) (past 1 ps)) n.clauses

-- behind the -
abbrev pub NetEntryAt : List Token → code_entry.NetEntry → Type 0
NetEntryAt ps (entries.MustJoin tokens) = RunAt (past 1 ps) tokens
NetEntryAt ps (entries.Net net) = NetAt ps net
