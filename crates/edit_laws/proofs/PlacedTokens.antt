-- The bytes of a placement are its tokens.
use Rattle.std.proofs.Common.{◌≡◌, ℕ, true, List, [], ◌∷◌, ◌++◌, ℤ, refl, sym, ap, subst, ◌∙◌, append_assoc, codes}
use Rattle.std.specs.Fmt.{signed_decimal}
use Rattle.std.specs.List.{list_all}
use Rattle.design_model.specs.declared.geometry.Orient.{Orient}
use Rattle.design_model.specs.declared.geometry.Orient.TheVariants.{N, W, S, E, FN, FS, FW, FE}
use Rattle.design_model.specs.EnumWords.{orient_word, status_word}
use Rattle.statement_model.specs.Form.{spell}
use Rattle.def_grammar.specs.Parts.{point, orient}
use Rattle.def_grammar.specs.Components.{clause, placement}
use Rattle.edit_rules.specs.ComponentEdits.{placement_at, placed_text}
use Rattle.splicing_laws.specs.SplicingLaws.{AreTokens}
use Rattle.splicing_laws.specs.WordLaws.{is_one_word, spaced, SpacedAreTokens, PrintedNumbersAreWords}
use Rattle.edit_laws.specs.PlacingLaws.{PlacementsAreTokens}

-- the words of a placement without its +
abbrev placed_words : ℤ → ℤ → Orient → List (List ℕ)
placed_words x y o = codes "PLACED" ∷ codes "(" ∷ signed_decimal x ∷ signed_decimal y ∷ codes ")" ∷ orient_word o ∷ []

spelled_so : (x y : ℤ) (o : Orient) → spell clause (placement_at x y o) ≡ codes "+" ∷ placed_words x y o
unfolding clause placement point orient status_word
spelled_so x y o = refl

orient_is_one_word : (o : Orient) → is_one_word (orient_word o) ≡ true
unfolding orient_word
orient_is_one_word N = refl
orient_is_one_word W = refl
orient_is_one_word S = refl
orient_is_one_word E = refl
orient_is_one_word FN = refl
orient_is_one_word FS = refl
orient_is_one_word FW = refl
orient_is_one_word FE = refl

spaced_in_parts : (a b c d : List ℕ) → (((a ++ 32 ∷ []) ++ b) ++ c) ++ d ≡ a ++ 32 ∷ (b ++ (c ++ d))
spaced_in_parts a b c d = simp append_assoc refl

placed_text_is : (x y : ℤ) (o : Orient) → placed_text x y o ≡ spaced (placed_words x y o)
placed_text_is x y o = ap (λ (bs : List ℕ). codes "PLACED ( " ++ bs) (spaced_in_parts (signed_decimal x) (signed_decimal y) (codes " ) ") (orient_word o))

module _ (spaced_so : SpacedAreTokens) (words_so : PrintedNumbersAreWords) where
  each_is_one_word : (x y : ℤ) (o : Orient) → list_all is_one_word (placed_words x y o) ≡ true
  each_is_one_word x y o = rw ((words_so x).0, (words_so y).0, orient_is_one_word o) refl

  pub placements_are_tokens : PlacementsAreTokens
  placements_are_tokens x y o =
      let ws = placed_words x y o in
      let each = each_is_one_word x y o in
      let said = spelled_so x y o in
      let text = sym (placed_text_is x y o) in
      let body = spaced_so [] ws refl each in
      let all = spaced_so (32 ∷ []) (codes "+" ∷ ws) refl each in (
        (body.0, subst (λ (bytes : List ℕ). AreTokens bytes body.0) text body.1, said ∙ ap (λ (vs : List (List ℕ)). codes "+" ∷ vs) (sym body.2)),
        (all.0, subst (λ (bytes : List ℕ). AreTokens (codes " + " ++ bytes) all.0) text all.1, said ∙ sym all.2),
      )
