-- The tokens of a run stand in its text.
use Rattle.std.proofs.Common.{◌≡◌, refl, ℕ, zero, suc, ◌+◌, ◌-◌, ◌≤◌, List, [], ◌∷◌, length, take, Some, ap, sym, subst, ◌∙◌, le_refl, arith}
use Rattle.form_meanings.specs.Words.{first}
use Rattle.std.specs.List.{slice_range}
use Rattle.statement_model.specs.Tokens.{Token, left_from}
use Rattle.statement_model.specs.Tokens.Open.{between}
use Rattle.lefdef_tokens.specs.Laws.{StandIn}
use Rattle.lefdef_tokens.specs.Places.{past}
use Rattle.lefdef_tokens.specs.RunLaws.{TokensOfRuns}
use Rattle.lefdef_tokens.specs.TokenViews.{IsIn, token_of}
use Rattle.lefdef_tokens.specs.declared.token.Token as code
use Rattle.lefdef_tokens.proofs.Standing.{stands}

past_none : (n : ℕ) → past n [] ≡ []
past_none zero = refl
past_none (suc n) = past_none n

front_stands : (text : List ℕ) (from n : ℕ) (ps : List Token) → StandIn text from ps → StandIn text from (take n ps)
front_stands text from zero [] s = tt
front_stands text from (suc n) [] s = tt
front_stands text from zero (p ∷ ps) s = tt
front_stands text from (suc n) (p ∷ ps) s = (s.0, s.1, s.2, s.3, front_stands text (p.pos + length p.bytes) n ps s.4)

first_stands : (text : List ℕ) (from n : ℕ) (ps : List Token) (t : code.Token) → StandIn text from ps → first (past n ps) ≡ Some (token_of t) → IsIn text t
first_stands text from zero [] t s e = cc
first_stands text from (suc n) [] t s e = let none = past_none n in cc
first_stands text from zero (p ∷ ps) t s e =
    let same : p ≡ token_of t = cc in
    subst (λ (q : Token). (q.pos + length q.bytes ≤ length text) × (q.bytes ≡ slice_range text q.pos (q.pos + length q.bytes)) → IsIn text t) (sym same) (λ h. record { within = h.0; there = h.1 }) (s.2, s.3)
first_stands text from (suc n) (p ∷ ps) t s e = first_stands text (p.pos + length p.bytes) n ps t s.4 e

pub tokens_of_runs : TokensOfRuns
tokens_of_runs run n t e =
    let all = stands run.text.now (length run.text.now - run.pos) run.pos (omega (arith, run.within)) run.pos between (le_refl run.pos) in
    first_stands run.text.now run.pos n (take run.count (left_from run.text.now run.pos).pieces) t (front_stands run.text.now run.pos run.count (left_from run.text.now run.pos).pieces all) e
