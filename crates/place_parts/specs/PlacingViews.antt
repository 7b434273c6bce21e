-- The clause that places a component, and its tokens.
use Rattle.std.specs.Prelude.{◌≡◌, ℕ, ◌+◌, ◌-◌, length, take, drop, Some}
use Rattle.form_meanings.specs.Meaning.{spell_all}
use Rattle.statement_model.specs.Form.{spell}
use Rattle.def_grammar.specs.Components.{Clause, Component, clause}
use Rattle.def_grammar.specs.Placing.{placing, before_placing}
use Rattle.lefdef_tokens.specs.Views.{pieces_of, words_of}
use Rattle.lefdef_tokens.specs.declared.token_run.TokenRun.{TokenRun}
use Rattle.place_parts.specs.ClauseViews.{clause_view}
use Rattle.place_parts.specs.declared.placing.PlacingClause.{PlacingClause}

abbrev pub placing_view : PlacingClause → Clause
placing_view p = clause_view p.clause

-- how many tokens of an entry stand before the word of the clause that places it
abbrev pub before_word : Component → ℕ
before_word c = 3 + length c.rest + length (spell_all (spell clause) (before_placing c.clauses)) + 1

-- of an entry's tokens, these are the clause that places it, without its +
pub record IsPlacing (c : Component) (entry run : TokenRun) : Type 0 where
  pub old : Clause
  pub places : placing c.clauses ≡ Some old
  pub words : words_of run ≡ drop 1 (spell clause old)
  pub pieces : pieces_of run ≡ take (length (spell clause old) - 1) (drop (before_word c) (pieces_of entry))
