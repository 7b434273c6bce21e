-- Bytes that lie in a text at a place, and what is said of them where they lie.
use Rattle.std.specs.Prelude.{◌≡◌, ◌≤◌, ◌<◌, ◌+◌, ℕ, List, [], ◌∷◌, length, map, take, drop}
use Rattle.statement_model.specs.Cuts.{Cut}
use Rattle.statement_model.specs.Tokens.{Token}
use Rattle.lefdef_tokens.specs.Laws.{BeginsApart, moved_token}
use Rattle.lefdef_tokens.specs.Views.{pieces_of}
use Rattle.def_grammar.specs.Components.{Component}
use Rattle.def_grammar.specs.Records.{Record}
use Rattle.def_reader.specs.StatementViews.{record_view}
use Rattle.def_reader.specs.declared.statement.Statement.{Statement}
use Rattle.place_parts.specs.ComponentViews.{component_view}
use Rattle.place_parts.specs.declared.component_parts.ComponentParts.{ComponentParts}
use Rattle.edit_rules.specs.Plans.{Plan, StatementChange}
use Rattle.def_splice.specs.declared.lying.Lying.{Lying}

-- these bytes lie in a text at a place, and what comes behind them there begins apart
pub record LiesAt (text : List ℕ) (at : ℕ) (part : List ℕ) : Type 0 where
  pub within : at + length part ≤ length text
  pub bytes : take (length part) (drop at text) ≡ part
  pub apart : BeginsApart (drop (at + length part) text)

-- tokens, cuts, changes and plans of the bytes as those of the text
abbrev pub moved_tokens : ℕ → List Token → List Token
moved_tokens at ps = map (moved_token at) ps

abbrev pub moved_cut : ℕ → Cut → Cut
moved_cut at c = record { lo = at + c.lo; hi = at + c.hi; put = c.put }

abbrev pub moved_change : ℕ → List Token × StatementChange → List Token × StatementChange
moved_change at x = (moved_tokens at x.0, x.1)

abbrev pub moved_plan : ℕ → Plan → Plan
moved_plan at plan = record { refusals = plan.refusals; changes = map (moved_change at) plan.changes }

-- the tokens that each change takes are some of its statement's, which has some
abbrev pub AreFirm : List (List Token × StatementChange) → Type 0
AreFirm [] = Unit {0}
AreFirm (x ∷ xs) = (0 < length x.0) × (x.1.before + x.1.taken ≤ length x.0) × AreFirm xs

-- a statement that is found in a text, by the bytes that its tokens are over
abbrev pub LiesIn : List ℕ → Lying → Type 0
LiesIn text x = LiesAt text x.at x.tokens.text.now

abbrev pub lying_tokens : Lying → List Token
lying_tokens x = moved_tokens x.at (pieces_of x.tokens)

abbrev pub lying_statement : Statement × Lying → List Token × Record
lying_statement x = (lying_tokens x.1, record_view x.0)

abbrev pub lying_component : ComponentParts × Lying → List Token × Component
lying_component x = (lying_tokens x.1, component_view x.0)
