-- Cuts of a text (own): bytes that take the place of others.
use Rattle.std.specs.Prelude.{ℕ, ◌+◌, List, [], ◌∷◌, ◌++◌, length, drop, slice_range, if◌then◌else◌}
use Rattle.statement_model.specs.Tokens.{Token, is_white}

-- bytes that take the place of those from lo up to hi
pub record Cut : Type 0 where
  pub lo : ℕ
  pub hi : ℕ
  pub put : List ℕ

-- what is left of a text from a place on, with cuts made
abbrev pub cut_from : ℕ → List Cut → List ℕ → List ℕ
cut_from at [] text = drop at text
cut_from at (c ∷ cs) text = slice_range text at c.lo ++ (c.put ++ cut_from c.hi cs text)

abbrev pub with_cuts : List Cut → List ℕ → List ℕ
with_cuts cuts text = cut_from 0 cuts text

-- the place after a token, and after the last of some
abbrev pub end_of : Token → ℕ
end_of p = p.pos + length p.bytes

abbrev pub end_of_all : List Token → ℕ
end_of_all [] = 0
end_of_all (p ∷ []) = end_of p
end_of_all (p ∷ q ∷ qs) = end_of_all (q ∷ qs)

-- a put text that would be glued to the byte behind it takes one space more
abbrev pub space_before : List ℕ → List ℕ
space_before [] = []
space_before (b ∷ bs) = if is_white b then [] else 32 ∷ []
