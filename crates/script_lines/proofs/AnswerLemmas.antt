-- The answer to `check`.
use Rattle.std.proofs.Common.{◌≡◌, ◌≤◌, ℕ, List, [], ◌∷◌, ◌++◌, length, map, drop, flat_map, decimal, sym, ap, ◌∙◌, append-nil}
use denote.Ref.{Bor}
use Rattle.std.specs.Prelude.{codes}
use Rattle.std.proofs.lemmas.List.{length-map, drop_all}
use Rattle.design_model.specs.declared.diagnostic.DiagLine.{DiagLine}
use Rattle.design_model.specs.Order.{texts}
use Rattle.report_rules.specs.Output.{report_lines}

abbrev ended : List ℕ → List ℕ
ended l = l ++ 10 ∷ []

-- the texts of lines that are lent
abbrev seen : {A : Type 0} → List (Bor (DiagLine A)) → List (List ℕ)
seen lines = texts (map (λ l. l.now) lines)

-- the text of all lines, and behind it their number
pub report_text : {A : Type 0} (text : List ℕ) (lines : List (Bor (DiagLine A))) (i n : ℕ) → text ++ flat_map ended (seen (drop i lines)) ≡ flat_map ended (seen lines)
    → length lines ≤ i → n ≡ length lines → ((text ++ codes "diagnostics ") ++ decimal n) ++ 10 ∷ [] ≡ report_lines (seen lines)
report_text {A = A} text lines i n joined behind count =
    let all : text ≡ flat_map ended (seen lines) =
    sym (append-nil text) ∙ ap (λ (l : List (Bor (DiagLine A))). text ++ flat_map ended (seen l)) (sym (drop_all i lines behind)) ∙ joined in
    let many : length (seen lines) ≡ length lines = length-map (map (λ l. l.now) lines) (λ l. l.text) ∙ length-map lines (λ l. l.now) in
    ap (λ l. ((l ++ codes "diagnostics ") ++ decimal n) ++ 10 ∷ []) all
    ∙ ap (λ k. ((flat_map ended (seen lines) ++ codes "diagnostics ") ++ decimal k) ++ 10 ∷ []) (count ∙ sym many)
