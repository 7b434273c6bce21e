-- A name that may be put into a text is one token, wherever it is put.
use Rattle.std.proofs.Common.{◌≡◌, ℕ, ◌==◌, ◌||◌, ◌&&◌, not, true, List, [], ◌∷◌, arith, refl}
use Rattle.std.specs.List.{list_all}
use Rattle.std.proofs.lemmas.Bool.{and_parts, and_from}
use Rattle.std.proofs.lemmas.Bool.Decides.{nat_tests}
use Rattle.form_meanings.specs.Words.{is_name}
use Rattle.statement_model.specs.Boundaries.{words}
use Rattle.statement_model.specs.Tokens.{Token}
use Rattle.edit_rules.specs.NameTexts.{is_visible, begins_word, is_name_text}
use Rattle.splicing_laws.specs.SplicingLaws.{AreTokens}
use Rattle.splicing_laws.specs.WordLaws.{goes_on, is_one_word, SpacedAreTokens}

visible_goes_on : (b : ℕ) → is_visible b ≡ true → goes_on b ≡ true
visible_goes_on b visible = grind (arith, nat_tests)

visible_go_on : (bs : List ℕ) → list_all is_visible bs ≡ true → list_all goes_on bs ≡ true
visible_go_on [] all = refl
visible_go_on (b ∷ bs) all =
    let parts = and_parts (is_visible b) (list_all is_visible bs) all in
    and_from (goes_on b) (list_all goes_on bs) (visible_goes_on b parts.0) (visible_go_on bs parts.1)

one_word : (name : List ℕ) → begins_word name ≡ true → list_all is_visible name ≡ true → is_one_word name ≡ true
one_word [] begins all = absurd (cc)
one_word (b ∷ bs) begins all =
    let on = and_parts (goes_on b) (list_all goes_on bs) (visible_go_on (b ∷ bs) all) in
    and_from (goes_on b && not (b == 35 || b == 34)) (list_all goes_on bs) (and_from (goes_on b) (not (b == 35 || b == 34)) on.0 begins) on.1

-- such a name is one word, and a name
pub name_is_one_word : (name : List ℕ) → is_name_text name ≡ true → (is_one_word name ≡ true) × (is_name name ≡ true)
name_is_one_word name is =
    let outer = and_parts (begins_word name && list_all is_visible name) (is_name name) is in
    let inner = and_parts (begins_word name) (list_all is_visible name) outer.0 in
    (one_word name inner.0 inner.1, outer.1)

-- its bytes are its one token
pub name_is_token : SpacedAreTokens → (name : List ℕ) → is_name_text name ≡ true → (ps : List Token) × AreTokens name ps × (words ps ≡ name ∷ [])
name_is_token spaced_so name is = let one = (name_is_one_word name is).0 in spaced_so [] (name ∷ []) refl (and_from (is_one_word name) true one refl)
