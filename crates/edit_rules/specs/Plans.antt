-- What an edit is to do to a text, as a value (own): why it is refused, and which statements it changes.
use Rattle.std.specs.Prelude.{ℕ, Bool, true, false, not, ◌==◌, nat_lt, List, [], ◌∷◌, ◌++◌, length, map, take, drop, Option, Some, None, Result, Ok, Err, cond, if◌then◌else◌}
use Rattle.design_model.specs.declared.TheConstants.{MAX_TEXT}
use Rattle.edit_model.specs.declared.edit.EditCode.{EditCode}
use Rattle.edit_model.specs.declared.edit.EditCode.TheVariants.{TooLong}
use Rattle.statement_model.specs.Tokens.{Token, is_white}
use Rattle.statement_model.specs.Cuts.{Cut, with_cuts, space_before, end_of_all}
use Rattle.statement_model.specs.Reading.{pos_of}
use Rattle.def_grammar.specs.Records.{Record}

-- A change of one statement: after so many of its tokens, so many are taken, bytes are put there, and these records then
-- stand in the place of its own.
pub record StatementChange : Type 0 where
  pub before : ℕ
  pub taken : ℕ
  pub put : List ℕ
  pub said : List Record

-- An edit as a value: the tests that refuse it, each with its code, in the order of their numbers, and the changes that
-- it makes, each with the tokens of its statement, in the order of the text.
pub record Plan : Type 0 where
  pub refusals : List (Bool × EditCode)
  pub changes : List (List Token × StatementChange)

-- the tokens that are taken, and those before them
abbrev pub taken_tokens : StatementChange → List Token → List Token
taken_tokens c ps = take c.taken (drop c.before ps)

abbrev pub tokens_before : StatementChange → List Token → List Token
tokens_before c ps = take c.before ps

-- bytes that a byte behind them would be glued to: there are some, and the last is no white space
abbrev pub ends_open : List ℕ → Bool
ends_open [] = false
ends_open (b ∷ []) = not (is_white b)
ends_open (b ∷ c ∷ cs) = ends_open (c ∷ cs)

-- the space that comes between them and what is left of a text
abbrev pub space_between : List ℕ → List ℕ → List ℕ
space_between put rest = if ends_open put then space_before rest else []

-- bytes in the place of those from lo up to hi, with that space behind them
abbrev pub put_apart : List ℕ → ℕ → ℕ → List ℕ → Cut
put_apart text lo hi put = record { lo = lo; hi = hi; put = put ++ space_between put (drop hi text) }

-- where bytes go that take no token: right after the token before, or to the place of the first
abbrev pub gap_after : ℕ → List Token → ℕ
gap_after before ps = if before == 0 then pos_of ps else end_of_all (take before ps)

-- the cut of a change: from the first token that is taken to the last, or in the gap
abbrev pub cut_of : List ℕ → List Token → StatementChange → Cut
cut_of text ps c =
    if c.taken == 0 then put_apart text (gap_after c.before ps) (gap_after c.before ps) c.put
    else put_apart text (pos_of (taken_tokens c ps)) (end_of_all (taken_tokens c ps)) c.put

abbrev pub cuts_for : List ℕ → List (List Token × StatementChange) → List Cut
cuts_for text changes = map (λ s. cut_of text s.0 s.1) changes

-- the first refusal that applies
abbrev pub lowest : List (Bool × EditCode) → Option EditCode
lowest [] = None
lowest (r ∷ rs) = cond r.0 (Some r.1) (lowest rs)

abbrev pub unless : {A : Type 0} → Option EditCode → A → Result A EditCode
unless None a = Ok a
unless (Some code) a = Err code

abbrev pub is_long : List ℕ → Bool
is_long text = nat_lt MAX_TEXT (length text)

-- its changes' cuts, or why a plan is refused: for a reason of its own, and then for the length of the new text
abbrev pub outcome_of : List ℕ → Plan → Result (List Cut) EditCode
outcome_of text plan =
    let cuts = cuts_for text plan.changes in
    unless (lowest (plan.refusals ++ (is_long (with_cuts cuts text), TooLong) ∷ [])) cuts

-- a plan that is refused for this alone
abbrev pub refused_plan : EditCode → Plan
refused_plan code = record { refusals = (true, code) ∷ []; changes = [] }
