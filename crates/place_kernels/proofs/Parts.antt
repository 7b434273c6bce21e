-- The parts of a pattern in a name: where one stands first, and what is left after it.
use Rattle.std.proofs.Common.{◌≡◌, ℕ, suc, ◌+◌, ◌-◌, ◌<◌, ◌≤◌, Bool, true, false, List, [], ◌∷◌, ◌++◌, length, take, drop, Some, None, arith, sym, ◌∙◌, ap, subst, ⊎_elim}
use Rattle.std.specs.Prelude.{◌≢◌}
use Rattle.std.specs.List.{list_any}
use Rattle.std.proofs.lemmas.Bool.{cases_lt, false_from_ne_true}
use Rattle.std.proofs.lemmas.List.{append_assoc, length-append, take-append-drop, take_all, length-drop}
use Rattle.std.proofs.lemmas.List.Prefix.{at_from_reads, at_reads}
use Rattle.std.proofs.Math.Seq.{drop-append_seam}
use Rattle.memchr.specs.Find.{FindsNeedle, OccursAt}
use Rattle.place_rules.specs.Patterns.{star, tails, matches}
use Rattle.place_kernels.specs.Stars.{Starless, IsSplitAtStar, IsAfterFirst, StandsNowhere}
use Rattle.place_kernels.proofs.Steps.{same_answer}
use Rattle.place_kernels.proofs.Stars.{at_star, tails_say, tails_from, join_says, join_from, starless_says, starless_from}

-- where a part stands
stands_at : (name part x y : List ℕ) → name ≡ x ++ (part ++ y) → OccursAt name part (length x)
stands_at name part x y is =
    let after : drop (length x) name ≡ part ++ y = ap (drop (length x)) is ∙ drop-append_seam x (part ++ y) in
    let all : length name ≡ length x + (length part + length y) = ap length is ∙ length-append x (part ++ y) ∙ ap (λ n. length x + n) (length-append part y) in
    record { fits = omega arith; reads = at_reads 0 name part (length x) y after }

place_found_at : (name part : List ℕ) (at : ℕ) → FindsNeedle name part 0 (Some at) → IsAfterFirst name part (drop (at + length part) name)
place_found_at name part at found =
    let occurs = found.1 in
    let fits : at + length part ≤ length name = occurs.fits in
    let rest : List ℕ = drop (at + length part) name in
    let split : drop at name ≡ part ++ rest = at_from_reads 0 name part at occurs.fits occurs.reads in
    record {
      before = take at name;
      is = sym (take-append-drop at name) ∙ ap (λ xs. take at name ++ xs) split;
      first = λ x y is.
          let all : length name ≡ length x + (length part + length y) = ap length is ∙ length-append x (part ++ y) ∙ ap (λ n. length x + n) (length-append part y) in
          let left : length rest ≡ length name - (at + length part) = length-drop (at + length part) name in
          ⊎_elim
          (λ (before : length x < at). absurd (found.0.before (length x) (omega arith) before (stands_at name part x y is)))
          (λ (not_before : at ≤ length x). omega arith)
          (cases_lt (length x) at);
    }

pub place_found : (name part : List ℕ) (at : ℕ) → FindsNeedle name part 0 (Some at) → IsAfterFirst name part (take (length name - (at + length part)) (drop (at + length part) name))
place_found name part at found =
    let same : take (length name - (at + length part)) (drop (at + length part) name) ≡ drop (at + length part) name = take_all _ _ (omega (arith, length-drop (at + length part) name)) in
    subst (IsAfterFirst name part) (sym same) (place_found_at name part at found)

pub place_none : (name part : List ℕ) → FindsNeedle name part 0 None → StandsNowhere name part
place_none name part none x y is =
    let at = stands_at name part x y is in
    let fits : length x + length part ≤ length name = at.fits in
    none (length x) (omega arith) (omega arith) at

-- of two ends of a list the longer one ends with the shorter one
longer_end : (a b c d : List ℕ) → a ++ b ≡ c ++ d → length b ≤ length d → (w : List ℕ) × (d ≡ w ++ b)
longer_end a b [] d is le = (a, sym is)
longer_end [] b (z ∷ zs) d is le =
    let longer : length b ≡ suc (length (zs ++ d)) = ap length is in
    absurd (omega (arith, length-append zs d))
longer_end (y ∷ ys) b (z ∷ zs) d is le =
    let same : ys ++ b ≡ zs ++ d = cc in
    longer_end ys b zs d same le

append_cancel : (a b c : List ℕ) → a ++ b ≡ a ++ c → b ≡ c
append_cancel [] b c is = is
append_cancel (x ∷ xs) b c is = append_cancel xs b c (cc)

-- a name that matches a star, a part without stars, and a further pattern
star_part_says : (part after left : List ℕ) → Starless part → matches (star ∷ (part ++ (star ∷ after))) left ≡ true
    → (x between rest : List ℕ) × (left ≡ x ++ (part ++ (between ++ rest))) × (matches after rest ≡ true)
star_part_says part after left starless h =
    let joined = join_says (star ∷ part) after left h in
    let found = tails_say (matches part) joined.front (sym (at_star part joined.front) ∙ joined.first) in
    let same : part ≡ found.1 = starless_says part found.1 starless found.3 in
    let front : joined.front ≡ found.0 ++ part = found.2 ∙ ap (λ xs. found.0 ++ xs) (sym same) in
    (found.0, joined.between, joined.rest, joined.is ∙ ap (λ xs. xs ++ (joined.between ++ joined.rest)) front ∙ append_assoc found.0 part (joined.between ++ joined.rest), joined.last)

star_part_from : (part after x between rest : List ℕ) → Starless part → matches after rest ≡ true → matches (star ∷ (part ++ (star ∷ after))) (x ++ (part ++ (between ++ rest))) ≡ true
star_part_from part after x between rest starless last =
    let first : matches (star ∷ part) (x ++ part) ≡ true = at_star part (x ++ part) ∙ tails_from (matches part) x part (starless_from part starless) in
    ap (matches (star ∷ (part ++ (star ∷ after)))) (sym (append_assoc x part (between ++ rest))) ∙ join_from (star ∷ part) after (x ++ part) between rest first last

pub star_step : (pattern part after left rest : List ℕ) → IsSplitAtStar pattern part after → IsAfterFirst left part rest → matches (star ∷ pattern) left ≡ matches (star ∷ after) rest
star_step pattern part after left rest split place =
    ap (λ ps. matches (star ∷ ps) left) split.is
    ∙ same_answer _ _
    (λ h.
    let says = star_part_says part after left split.starless h in
    let end : List ℕ = says.1 ++ says.2 in
    let le : length end ≤ length rest = place.first says.0 end says.3 in
    let ends : (place.before ++ part) ++ rest ≡ (says.0 ++ part) ++ end = append_assoc place.before part rest ∙ sym place.is ∙ says.3 ∙ sym (append_assoc says.0 part end) in
    let longer = longer_end (says.0 ++ part) end (place.before ++ part) rest (sym ends) le in
    let is : rest ≡ (longer.0 ++ says.1) ++ says.2 = longer.1 ∙ sym (append_assoc longer.0 says.1 says.2) in
    at_star after rest ∙ ap (λ xs. list_any (matches after) (tails xs)) is ∙ tails_from (matches after) (longer.0 ++ says.1) says.2 says.4)
    (λ h.
    let found = tails_say (matches after) rest (sym (at_star after rest) ∙ h) in
    let is : left ≡ place.before ++ (part ++ (found.0 ++ found.1)) = place.is ∙ ap (λ xs. place.before ++ (part ++ xs)) found.2 in
    ap (matches (star ∷ (part ++ (star ∷ after)))) is ∙ star_part_from part after place.before found.0 found.1 split.starless found.3)

pub star_none : (pattern part after left : List ℕ) → IsSplitAtStar pattern part after → StandsNowhere left part → matches (star ∷ pattern) left ≡ false
star_none pattern part after left split none =
    ap (λ ps. matches (star ∷ ps) left) split.is
    ∙ false_from_ne_true _ (λ h. let says = star_part_says part after left split.starless h in none says.0 (says.1 ++ says.2) says.3)

-- the last part
pub star_end : (part left : List ℕ) (r : Bool) → Starless part → (r ≡ true → left ≡ take (length left - length part) left ++ part) × ((front : List ℕ) → left ≡ front ++ part → r ≡ true) → r ≡ matches (star ∷ part) left
star_end part left r starless ends = same_answer _ _
    (λ h.
    at_star part left
    ∙ ap (λ xs. list_any (matches part) (tails xs)) (ends.0 h)
    ∙ tails_from (matches part) (take (length left - length part) left) part (starless_from part starless))
    (λ h.
    let found = tails_say (matches part) left (sym (at_star part left) ∙ h) in
    let same : part ≡ found.1 = starless_says part found.1 starless found.3 in
    ends.1 found.0 (found.2 ∙ ap (λ xs. found.0 ++ xs) (sym same)))

-- the first part
first_part_says : (front after name : List ℕ) → Starless front → matches (front ++ (star ∷ after)) name ≡ true → (between rest : List ℕ) × (name ≡ front ++ (between ++ rest)) × (matches after rest ≡ true)
first_part_says front after name starless h =
    let joined = join_says front after name h in
    let same : front ≡ joined.front = starless_says front joined.front starless joined.first in
    (joined.between, joined.rest, joined.is ∙ ap (λ xs. xs ++ (joined.between ++ joined.rest)) (sym same), joined.last)

pub first_found : (pattern front after name rest : List ℕ) → IsSplitAtStar pattern front after → name ≡ front ++ rest → matches (star ∷ after) rest ≡ matches pattern name
first_found pattern front after name rest split is =
    same_answer _ _
    (λ h.
    let found = tails_say (matches after) rest (sym (at_star after rest) ∙ h) in
    ap (matches (front ++ (star ∷ after))) (is ∙ ap (λ xs. front ++ xs) found.2) ∙ join_from front after front found.0 found.1 (starless_from front split.starless) found.3)
    (λ h.
    let says = first_part_says front after name split.starless h in
    let same : rest ≡ says.0 ++ says.1 = append_cancel front rest (says.0 ++ says.1) (sym is ∙ says.2) in
    at_star after rest ∙ ap (λ xs. list_any (matches after) (tails xs)) same ∙ tails_from (matches after) says.0 says.1 says.3)
    ∙ ap (λ ps. matches ps name) (sym split.is)

pub first_none : (pattern front after name : List ℕ) → IsSplitAtStar pattern front after → ((rest : List ℕ) → name ≢ front ++ rest) → false ≡ matches pattern name
first_none pattern front after name split none =
    sym (false_from_ne_true _ (λ h. let says = first_part_says front after name split.starless h in none (says.0 ++ says.1) says.2))
    ∙ ap (λ ps. matches ps name) (sym split.is)
