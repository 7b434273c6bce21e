-- Pieces of a text, each of which is read by itself.
use Rattle.std.specs.Prelude.{◌≡◌, ℕ, List, [], ◌∷◌, ◌++◌, length, Some, None, Ok}
use Rattle.std.specs.List.{concat}
use Rattle.statement_model.specs.Tokens.{Token, tokens}
use Rattle.statement_model.specs.Boundaries.{cut}
use Rattle.statement_model.specs.Grammar.{Grammar}
use Rattle.statement_model.specs.Reading.{read_form, read_at}
use Rattle.lefdef_tokens.specs.Laws.{BeginsApart}
use Rattle.lefdef_tokens.specs.TokenViews.{span_of}
use Rattle.splicing_laws.specs.SplicingLaws.{AreTokens}

-- the same grammar for texts that may say everything more than once, and need say nothing
abbrev pub keyless : {M R : Type 0} → Grammar M R → Grammar M R
keyless g = record g { key = λ r. []; lacks = λ keys. None }

-- what comes after each of some pieces begins apart from it
abbrev pub AreApart : List (List ℕ) → List ℕ → Type 0
AreApart [] rest = Unit {0}
AreApart (p ∷ ps) rest = BeginsApart (concat ps ++ rest) × AreApart ps rest

module _ {M R : Type 0} (g : Grammar M R) where
  -- bytes that are one statement, with the blanks and comments before it and nothing behind it: where it stands it says this,
  -- and the next one stands there
  pub record IsPiece (m : M) (bytes : List ℕ) (rec : R) (after : M) : Type 0 where
    pub statement : List Token
    pub tokens : AreTokens bytes statement
    pub ends : (span_of statement).hi ≡ length bytes
    pub one : cut (g.ending m) [] statement ≡ Some (statement, [])
    pub says : read_form g m statement ≡ Ok (rec, after)

  -- pieces one after the other, with what they say: where the next one stands is where the one before leads to
  abbrev pub AreChained : M → List (List ℕ) → List R → M → Type 0
  AreChained m [] [] last = m ≡ last
  AreChained m [] (r ∷ rs) last = ⊥
  AreChained m (p ∷ ps) [] last = ⊥
  AreChained m (p ∷ ps) (r ∷ rs) last = (after : M) × IsPiece m p r after × AreChained after ps rs last

  -- bytes without a statement, with which a text may end in this mode
  abbrev pub IsTail : M → List ℕ → Type 0
  IsTail m bytes = read_at g m (tokens bytes) ≡ Ok None

  -- the modes in which records stand one after the other, from a mode on
  abbrev pub modes_from : M → List R → List M
  modes_from m [] = []
  modes_from m (r ∷ rs) = m ∷ modes_from (g.after m r) rs
