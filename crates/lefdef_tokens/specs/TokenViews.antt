-- Tokens and runs of them in the program, as pieces of a text and as words.
use Rattle.std.specs.Prelude.{◌≡◌, ◌≤◌, ◌<◌, ◌+◌, ℕ, List, [], ◌∷◌, length, take, map, Option, Some, None, Result, Ok, Err, MatchResult, MatchOption}
use Rattle.std.specs.List.{slice_range}
use Rattle.statement_model.specs.Tokens.{Token, before, left_from, only_fault}
use Rattle.design_model.specs.declared.fault.Fault.{Fault}
use Rattle.lefdef_tokens.specs.declared.span.Span.{Span}
use Rattle.lefdef_tokens.specs.declared.token.Token as code
use Rattle.lefdef_tokens.specs.declared.token_run.TokenRun.{TokenRun}

abbrev pub token_of : code.Token → Token
token_of t = record { kind = t.kind; bytes = t.bytes.now; pos = t.pos }

-- what a call of `next` gave
abbrev pub found_of : Result (Option code.Token) Fault → Result (Option Token) Fault
found_of (Ok None) = Ok None
found_of (Ok (Some t)) = Ok (Some (token_of t))
found_of (Err f) = Err f

-- a token is the slice of a text at its place
pub record IsIn (text : List ℕ) (t : code.Token) : Type 0 where
  pub within : t.pos + length t.bytes.now ≤ length text
  pub there : t.bytes.now ≡ slice_range text t.pos (t.pos + length t.bytes.now)

-- a token at or after a place, and the place right after it
pub record IsNext (from : ℕ) (t : code.Token) (after : ℕ) : Type 0 where
  pub low : from ≤ t.pos
  pub end : t.pos + length t.bytes.now ≡ after

-- what a step from a place between two tokens says: the end of the text, a token and the place after it, or a fault
abbrev pub Steps : List ℕ → ℕ → Result (Option (code.Token × ℕ)) Fault → Type 0
Steps text pos r =
    MatchResult r
    (λ found. MatchOption found (left_from text pos ≡ record { pieces = []; end = Ok (length text) })
    (λ x. (pos < x.1) × (x.1 ≤ length text) × (left_from text pos ≡ before (token_of x.0 ∷ []) (left_from text x.1))))
    (λ f. left_from text pos ≡ only_fault f)

-- a token is the first of a run, and what is left begins right after it
pub record StandsFirst (run : TokenRun) (t : code.Token) : Type 0 where
  pub some : 0 < run.count
  pub inside : IsIn run.text.now t
  pub low : run.pos ≤ t.pos
  pub left : left_from run.text.now run.pos ≡ before (token_of t ∷ []) (left_from run.text.now (t.pos + length t.bytes.now))

-- the tokens of a run
abbrev pub pieces_of : TokenRun → List Token
pieces_of r = take r.count (left_from r.text.now r.pos).pieces

-- their bytes
abbrev pub words_of : TokenRun → List (List ℕ)
words_of r = map (λ p. p.bytes) (pieces_of r)

-- where the last of some tokens ends, or this place where there are no tokens
abbrev pub end_after : ℕ → List Token → ℕ
end_after place [] = place
end_after place (p ∷ ps) = end_after (p.pos + length p.bytes) ps

-- from the first token's start to the last one's end
abbrev pub span_of : List Token → Span
span_of [] = record { lo = 0; hi = 0 }
span_of (p ∷ ps) = record { lo = p.pos; hi = end_after (p.pos + length p.bytes) ps }
