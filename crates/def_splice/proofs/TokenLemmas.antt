-- The tokens of a run, counted, and what they span.
use Rattle.std.proofs.Common.{◌≡◌, ℕ, zero, suc, List, length, take, sym, ◌∙◌, refl, arith}
use Rattle.std.proofs.lemmas.List.{length-map, length-take-le}
use Rattle.statement_model.specs.Cuts.{end_of_all}
use Rattle.statement_model.specs.Tokens.{Token, left_from}
use Rattle.edit_rules.specs.Plans.{gap_after}
use Rattle.def_splice.proofs.PlaceLemmas.{isnt_zero}
use Rattle.lefdef_tokens.specs.Views.{pieces_of, words_of}
use Rattle.lefdef_tokens.specs.declared.token_run.TokenRun.{TokenRun}

-- a run has as many words as it counts
pub words_counted : (run : TokenRun) → length (words_of run) ≡ run.count
words_counted run =
    let all = (left_from run.text.now run.pos).pieces in
    length-map (take run.count all) (λ p. p.bytes) ∙ length-take-le run.count all run.there

-- and so many tokens
pub pieces_counted : (run : TokenRun) → length (pieces_of run) ≡ length (words_of run)
pieces_counted run = sym (length-map (pieces_of run) (λ p. p.bytes))

-- behind some tokens bytes go right after the last of them
pub gap_behind : (n : ℕ) (ps : List Token) → ¬ (n ≡ 0) → gap_after n ps ≡ end_of_all (take n ps)
gap_behind zero ps some = absurd (some refl)
gap_behind (suc n) ps some = rw (isnt_zero (suc n) (omega arith)) refl
