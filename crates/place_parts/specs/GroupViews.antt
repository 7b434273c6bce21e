-- Entries of GROUPS of the program as those of the definitions, and which tokens they are.
use Rattle.std.specs.Prelude.{ℕ, List}
use Rattle.form_meanings.specs.Words.{is_plain, is_plus}
use Rattle.form_meanings.specs.Meaning.{items, spell_all}
use Rattle.statement_model.specs.Form.{read, spell, word}
use Rattle.statement_model.specs.Tokens.{Token}
use Rattle.def_grammar.specs.Groups.{Group, GroupClause, group_clause, group_kept, group_region}
use Rattle.lefdef_tokens.specs.Places.{RunAt, StandsAt, behind, past}
use Rattle.lefdef_tokens.specs.Views.{rest_of, words_of}
use Rattle.statement_reader.specs.PartViews.{PartsAt}
use Rattle.statement_reader.specs.declared.parts.Parts.{Parts}
use Rattle.def_parts.specs.ClauseViews.{KeptAt, kept_view}
use Rattle.place_parts.specs.declared.groups.GroupClause as code
use Rattle.place_parts.specs.declared.groups.GroupClause.TheVariants as clauses
use Rattle.place_parts.specs.declared.groups.GroupParts.{GroupParts}
use Rattle.place_parts.specs.declared.groups.Pattern.{Pattern}

abbrev pub pattern_view : Pattern → List ℕ
pattern_view p = p.word.bytes.now

abbrev pub group_clause_view : code.GroupClause → GroupClause
group_clause_view (clauses.Region rest) = group_region (words_of rest)
group_clause_view (clauses.Kept kept) = group_kept (kept_view kept)

-- the patterns that are left
abbrev pub patterns_of : Parts Pattern → List (List ℕ)
patterns_of parts = items parts.most is_plain (read (word is_plain)) (rest_of parts.cursor)

-- the clauses that are left
abbrev pub group_clauses_of : Parts code.GroupClause → List GroupClause
group_clauses_of parts = items parts.most is_plus (read group_clause) (rest_of parts.cursor)

abbrev pub group_view : GroupParts → Group
group_view g = record { name = g.name.bytes.now; patterns = patterns_of g.patterns; clauses = group_clauses_of g.clauses }

-- the words of these patterns
abbrev pub pattern_words : List (List ℕ) → List (List ℕ)
pattern_words patterns = spell_all (spell (word is_plain)) patterns

-- a pattern is the first of these tokens
abbrev pub PatternAt : List Token → Pattern → Type 0
PatternAt ps p = StandsAt ps p.word

-- of these tokens, the first is a clause's +
abbrev pub GroupClauseAt : List Token → code.GroupClause → Type 0
GroupClauseAt ps (clauses.Region rest) = RunAt (past 2 ps) rest
GroupClauseAt ps (clauses.Kept kept) = KeptAt (past 1 ps) kept

-- of these tokens, the first is an entry's -, and the second its name; its clauses begin behind its patterns
abbrev pub GroupAt : List Token → GroupParts → Type 0
GroupAt ps g = StandsAt (past 1 ps) g.name × PartsAt (past 2 ps) g.patterns × PartsAt (behind (pattern_words (patterns_of g.patterns)) (past 2 ps)) g.clauses
