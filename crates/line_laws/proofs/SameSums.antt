-- Lines and things without their order: appended, exchanged, and by a function.
use Rattle.std.proofs.Common.{◌≡◌, ℕ, List, [], ◌∷◌, map, refl, sym, ◌∙◌, arith, sum_by}
use Rattle.std.proofs.lemmas.List.Sums.{sum_by-cons}
use Rattle.std.proofs.lemmas.List.Sorted.{sum_by-IsPermutation}
use Rattle.line_laws.specs.SameLaws.{LinesAreTheirOwn, SameLinesTurn, SameLinesChain, SameLinesAppend, PartsTurn, PermutationsAreSame, MapsAreSame}
use Rattle.line_laws.proofs.PairSums.{times-append}

pub lines_are_their_own : LinesAreTheirOwn
lines_are_their_own xs = record { often = λ q. refl }

pub same_lines_turn : SameLinesTurn
same_lines_turn xs ys h = record { often = λ q. sym (h.often q) }

pub same_lines_chain : SameLinesChain
same_lines_chain xs ys zs h k = record { often = λ q. h.often q ∙ k.often q }

pub same_lines_append : SameLinesAppend
same_lines_append xs ys zs ws h k = record {
  often = λ q. let a = h.often q in let b = k.often q in omega (arith, a, b, times-append q xs zs, times-append q ys ws);
}

pub parts_turn : PartsTurn
parts_turn xs ys = record { often = λ q. omega (arith, times-append q xs ys, times-append q ys xs) }

pub permutations_are_same : (A : Type 0) → PermutationsAreSame A
permutations_are_same A xs ys h = record { sums = λ w. sym (sum_by-IsPermutation w xs ys h) }

sum_by-map : {A B : Type 0} (w : B → ℕ) (f : A → B) (xs : List A) → sum_by w (map f xs) ≡ sum_by (λ x. w (f x)) xs
sum_by-map w f [] = refl
sum_by-map w f (x ∷ xs) = let r = sum_by-map w f xs in omega (arith, r, sum_by-cons w (f x) (map f xs), sum_by-cons (λ y. w (f y)) x xs)

pub maps_are_same : (A B : Type 0) → MapsAreSame A B
maps_are_same A B f xs ys h = record { sums = λ w. sum_by-map w f xs ∙ h.sums (λ x. w (f x)) ∙ sym (sum_by-map w f ys) }
