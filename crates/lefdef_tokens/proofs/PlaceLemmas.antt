-- What comes after some tokens.
use Rattle.std.proofs.Common.{◌≡◌, ℕ, ◌+◌, suc, List, [], ◌∷◌, ◌++◌, length, map, drop, take, refl, sym, ap, ◌∙◌, add-one, take-append-drop}
use Rattle.std.proofs.lemmas.List.{append-nil}
use Rattle.statement_model.specs.Tokens.{Token, without_first}
use Rattle.lefdef_tokens.specs.Places.{behind}
use Rattle.lefdef_tokens.proofs.RunLemmas.{take_suc}

-- words in two parts
pub behind_append : (xs ys : List (List ℕ)) (ps : List Token) → behind (xs ++ ys) ps ≡ behind ys (behind xs ps)
behind_append [] ys ps = refl
behind_append (x ∷ xs) ys ps = behind_append xs ys (without_first ps)

behind_none : (ws : List (List ℕ)) → behind ws [] ≡ []
behind_none [] = refl
behind_none (w ∷ ws) = behind_none ws

-- so many tokens are passed as there are words
pub behind_is_drop : (ws : List (List ℕ)) (ps : List Token) → behind ws ps ≡ drop (length ws) ps
behind_is_drop [] ps = refl
behind_is_drop (w ∷ ws) [] = behind_none ws
behind_is_drop (w ∷ ws) (p ∷ ps) = behind_is_drop ws ps

-- tokens are passed by their own words
pub behind_own : (ps : List Token) → behind (map (λ p. p.bytes) ps) ps ≡ []
behind_own [] = refl
behind_own (p ∷ ps) = behind_own ps

-- one more is passed
pub passed_on : (xs : List (List ℕ)) (n : ℕ) (w : List ℕ) (ws : List (List ℕ)) (all left later : List Token) → drop n xs ≡ w ∷ ws → left ≡ behind (take n xs) all → later ≡ without_first left → later ≡ behind (take (n + 1) xs) all
passed_on xs n w ws all left later is passed next =
    next ∙ ap without_first passed ∙ sym (rw (add-one, take_suc xs n w ws is) (behind_append (take n xs) (w ∷ []) all))

-- all are passed
pub passed_all : (xs : List (List ℕ)) (n : ℕ) (all left : List Token) → drop n xs ≡ [] → left ≡ behind (take n xs) all → left ≡ behind xs all
passed_all xs n all left none passed =
    let whole : take n xs ≡ xs = sym (append-nil (take n xs)) ∙ ap (λ zs. take n xs ++ zs) (sym none) ∙ take-append-drop n xs in
    passed ∙ ap (λ zs. behind zs all) whole
