-- Laws of the bytes that a cut keeps.
use Rattle.std.specs.Prelude.{◌≡◌, ◌≤◌, ℕ, ◌+◌, List, [], ◌∷◌, length, take, drop}
use Rattle.statement_model.specs.Cuts.{Cut, with_cuts}

-- the cuts are one, within the text, and the text with it made differs only there
pub record IsOneCut (text : List ℕ) (cuts : List Cut) : Type 0 where
  pub cut : Cut
  pub one : cuts ≡ cut ∷ []
  pub forward : cut.lo ≤ cut.hi
  pub within : cut.hi ≤ length text
  pub before : take cut.lo (with_cuts cuts text) ≡ take cut.lo text
  pub behind : drop (cut.lo + length cut.put) (with_cuts cuts text) ≡ drop cut.hi text

-- One cut within a text keeps the bytes before it and after it.
abbrev pub OneCutKeepsTheRest : Type 0
OneCutKeepsTheRest = (text : List ℕ) (cut : Cut) → cut.lo ≤ cut.hi → cut.hi ≤ length text → IsOneCut text (cut ∷ [])

-- cuts from a place on, in order and within a length: the bytes around them stay, as with_cuts has them
abbrev pub AreInOrder : ℕ → List Cut → ℕ → Type 0
AreInOrder at [] n = at ≤ n
AreInOrder at (c ∷ cs) n = (at ≤ c.lo) × (c.lo ≤ c.hi) × AreInOrder c.hi cs n
