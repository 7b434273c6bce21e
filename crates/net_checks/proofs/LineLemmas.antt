-- Lines that are put behind others.
use Rattle.std.proofs.Common.{◌≡◌, ℕ, List, ◌++◌, refl, ap, ◌∙◌, append_assoc}
use Rattle.line_laws.specs.Lines.{SameLines, times}
use Rattle.line_laws.specs.SameLaws.{SameLinesAppend}

abbrev Lines : Type 0
Lines = List (List ℕ)

-- lines in whatever order, and more behind them
pub three_families : SameLinesAppend → (old touched all a b d : Lines) → SameLines touched (old ++ (a ++ b)) → all ≡ touched ++ d → SameLines all (old ++ (a ++ (b ++ d)))
three_families append old touched all a b d same more =
    let grouped : (old ++ (a ++ b)) ++ d ≡ old ++ (a ++ (b ++ d)) = append_assoc old (a ++ b) d ∙ ap (λ (l : Lines). old ++ l) (append_assoc a b d) in
    let joined = append touched (old ++ (a ++ b)) d d same (record { often = λ q. refl }) in
    record { often = λ q. ap (times q) more ∙ joined.often q ∙ ap (times q) grouped }
