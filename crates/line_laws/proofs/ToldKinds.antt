-- The kind of a line is told by its first word.
use Rattle.std.proofs.Common.{◌≡◌, ℕ, Bool, true, false, ◌&&◌, cond, List, [], ◌∷◌, ◌++◌, Some, flat_map, refl, sym, ap, ◌∙◌}
use Rattle.std.specs.Prelude.{ℤ}
use Rattle.std.specs.Fmt.{signed_decimal}
use Rattle.std.specs.List.{take_while}
use Rattle.std.proofs.lemmas.List.{append_assoc}
use Rattle.std.proofs.lemmas.List.Sums.{take_while-cons}
use Rattle.design_model.specs.declared.diagnostic.DiagKind.{DiagKind}
use Rattle.design_model.specs.declared.diagnostic.DiagKind.TheVariants.{Count}
use Rattle.design_model.specs.Lines.{IsLineOf, kind_word, line_text, kinds}
use Rattle.form_meanings.specs.Meaning.{find}
use Rattle.form_meanings.proofs.Steps.{some_same}
use Rattle.line_laws.specs.KindLaws.{is_no_space, kind_of, KindsAreTold}

-- a word before the first space
abbrev has_no_space : List ℕ → Bool
has_no_space [] = true
has_no_space (b ∷ bs) = is_no_space b && has_no_space bs

begins : (t : Bool) (b : ℕ) (bs xs : List ℕ) (later : Bool) → (later ≡ true → xs ≡ bs) → (t && later) ≡ true → cond t (b ∷ xs) [] ≡ b ∷ bs
begins true b bs xs later same whole = ap (λ l. b ∷ l) (same whole)
begins false b bs xs later same whole = absurd (cc)

word_before : (word more : List ℕ) → has_no_space word ≡ true → take_while is_no_space more ≡ [] → take_while is_no_space (word ++ more) ≡ word
word_before [] more whole parted = parted
word_before (b ∷ bs) more whole parted =
    take_while-cons is_no_space b (bs ++ more) ∙ begins (is_no_space b) b bs _ (has_no_space bs) (λ later. word_before bs more later parted) whole

-- what stands behind it is empty or begins with a space
parted : (words : List (List ℕ)) (nums : List ℤ) → take_while is_no_space (flat_map (λ w. 32 ∷ w) words ++ flat_map (λ n. 32 ∷ signed_decimal n) nums) ≡ []
parted [] [] = refl
parted [] (n ∷ nums) = refl
parted (w ∷ words) nums = refl

words_have_no_space : (k : DiagKind) → has_no_space (kind_word k) ≡ true
words_have_no_space Count = refl
words_have_no_space other = refl

words_are_told : (k : DiagKind) → find kind_word kinds (kind_word k) ≡ Some k
words_are_told Count = refl
words_are_told other = refl

line_is_told : (k : DiagKind) (words : List (List ℕ)) (nums : List ℤ) → kind_of (line_text k words nums) ≡ Some k
line_is_told k words nums =
    ap kind_of (append_assoc (kind_word k) _ _)
    ∙ ap (find kind_word kinds) (word_before (kind_word k) _ (words_have_no_space k) (parted words nums))
    ∙ words_are_told k

kind_is_told : (text : List ℕ) (k : DiagKind) → IsLineOf k text → kind_of text ≡ Some k
kind_is_told text k l = ap kind_of l.is ∙ line_is_told k l.words l.nums

pub kinds_are_told : KindsAreTold
kinds_are_told text k l is other = some_same k l (sym (kind_is_told text k is) ∙ kind_is_told text l other)
