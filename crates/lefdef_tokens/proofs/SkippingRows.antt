-- Worked rows of words that are gone over many bytes at a time, by computing.
use Rattle.std.proofs.Common.{◌≡◌, ℕ, List, [], ◌∷◌, false, refl, codes}
use Rattle.std.specs.List.{filter, range_with_len}
use Rattle.std.proofs.lemmas.List.Elements.{All-cons, All-nil}
use Rattle.form_meanings.specs.Words.{is_semicolon}
use Rattle.statement_model.specs.Tokens.{Token, lex}
use Rattle.design_model.specs.declared.token_kind.TokenKind.TheVariants.{Word}
use Rattle.lefdef_tokens.specs.Skipping.{Skips, begins_at, is_special}

-- tab, line feed, carriage return, space, $, -, A, a backslash and a byte past 127 are plain
plain_bytes : filter is_special (9 ∷ 10 ∷ 13 ∷ 32 ∷ 36 ∷ 45 ∷ 65 ∷ 92 ∷ 200 ∷ []) ≡ []
plain_bytes = refl

-- 0, 8, 11, 14, 31, !, ", #, ; and 127 are special
special_bytes : filter is_special (0 ∷ 8 ∷ 11 ∷ 14 ∷ 31 ∷ 33 ∷ 34 ∷ 35 ∷ 59 ∷ 127 ∷ []) ≡ 0 ∷ 8 ∷ 11 ∷ 14 ∷ 31 ∷ 33 ∷ 34 ∷ 35 ∷ 59 ∷ 127 ∷ []
special_bytes = refl

-- words begin where white space stands before
words_begin : filter (begins_at (codes "- a  bc\td")) (range_with_len 1 8) ≡ 2 ∷ 5 ∷ 8 ∷ []
words_begin = refl

abbrev IsPlain : Token → Type 0
IsPlain p = is_semicolon p.bytes ≡ false

abbrev word : List ℕ → ℕ → Token
word bytes pos = record { kind = Word; bytes = bytes; pos = pos }

-- between the first word and the semicolon stand two
two_words : Skips (codes "- a bc; ;") 1 8 2
unfolding lex
two_words = record {
  passed = word (codes "a") 2 ∷ word (codes "bc;") 4 ∷ [];
  many = refl;
  goes = refl;
  plain = All-cons IsPlain (word (codes "a") 2) (word (codes "bc;") 4 ∷ []) refl (All-cons IsPlain (word (codes "bc;") 4) [] refl (All-nil IsPlain));
}
