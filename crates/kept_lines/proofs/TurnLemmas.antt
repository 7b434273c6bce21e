-- Lines that are taken out and put in one after the other.
use Rattle.std.proofs.Common.{◌≡◌, ◌≤◌, ◌<◌, ◌+◌, ℕ, Bool, true, false, cond, List, [], ◌∷◌, ◌++◌, refl, ap, ◌∙◌, arith, take, length, get_or}
use Rattle.std.specs.Ordering.{is_lt}
use Rattle.std.proofs.lemmas.List.{get_or-map, map-append, take-map}
use Rattle.std.proofs.lemmas.List.Sums.{sum_by-cons, sum_by-take-le, sum_by_more}
use Rattle.std.proofs.lemmas.Slice.Eq.{bytes_eq-Decides}
use Rattle.design_model.specs.declared.diagnostic.DiagLine.{DiagLine}
use Rattle.design_model.specs.Order.{byte_cmp, put_in_order, texts}
use Rattle.kept_lines.proofs.Counts.{count-cons, count-put}
use Rattle.line_laws.specs.Lines.{SameLines, times}
use Rattle.line_laws.proofs.PairSums.{times-append}
use Rattle.kept_lines.proofs.OrderLemmas.{hits, times_is}
use Rattle.kept_lines.proofs.PlaceLemmas.{length-texts}

-- lines that were to go are those that have gone and those that still stand
abbrev pub HaveGone : {A : Type 0} → List (DiagLine A) → ℕ → List (List ℕ) → List (List ℕ) → Type 0
HaveGone out i old now = SameLines old (texts (take i out) ++ now)

itself : (x : List ℕ) → hits x x ≡ 1
itself x = ap (λ (b : Bool). cond {A = ℕ} b 1 0) ((bytes_eq-Decides x x).1 refl)

module _ {A : Type 0} (out : List (DiagLine A)) (old : List (List ℕ)) where
  one_more : (q : List ℕ) (i : ℕ) (d : DiagLine A) → i < length out → times q (texts (take (i + 1) out)) ≡ times q (texts (take i out)) + hits q (get_or out i d).text
  one_more q i d below =
      let e = sum_by_more (hits q) (texts out) i d.text (omega (arith, length-texts out)) in
      rw (take-map (λ l. l.text) (i + 1) out, take-map (λ l. l.text) i out, get_or-map (λ l. l.text) out i d d.text below) at e

  at_most : (q : List ℕ) (i : ℕ) → times q (texts (take i out)) ≤ times q (texts out)
  at_most q i = rw (← take-map (λ l. l.text) i out) (sum_by-take-le (hits q) (texts out) i)

  -- the next line that is to go still stands
  pub still_stands : (now : List (List ℕ)) (i : ℕ) (d : DiagLine A) → i < length out → ((q : List ℕ) → times q (texts out) ≤ times q old) → HaveGone out i old now
      → 0 < times (get_or out i d).text now
  still_stands now i d below stand gone =
      let x = (get_or out i d).text in
      omega (arith, itself x, stand x, gone.often x, at_most x (i + 1), one_more x i d below, times-append x (texts (take i out)) now)

  pub one_more_gone : (now next : List (List ℕ)) (i : ℕ) (d : DiagLine A) → i < length out → HaveGone out i old now → SameLines now ((get_or out i d).text ∷ next)
      → HaveGone out (i + 1) old next
  one_more_gone now next i d below gone taken = record {
    often = λ q.
        omega (arith, gone.often q, taken.often q, one_more q i d below, times-append q (texts (take i out)) now, times-append q (texts (take (i + 1) out)) next, sum_by-cons (hits q) (get_or out i d).text next);
  }

times-put : (q x : List ℕ) (ys : List (List ℕ)) → times q (put_in_order x ys) ≡ hits q x + times q ys
times-put q x ys = omega (arith, times_is q (put_in_order x ys), count-put q x ys, times_is q (x ∷ []), count-cons q x [], sum_by-cons (hits q) x [], times_is q ys)

pub length-put : (x : List ℕ) (ys : List (List ℕ)) → length (put_in_order x ys) ≡ length ys + 1
length-put x [] = refl
length-put x (y ∷ ys) =
    elim (is_lt (byte_cmp y x)) as (λ b. length (cond b (y ∷ put_in_order x ys) (x ∷ y ∷ ys)) ≡ length (y ∷ ys) + 1) [
      | true ↦ let r = length-put x ys in omega (arith, r)
      | false ↦ omega arith
    ]

-- of lines that are to come the last is put in
pub one_more_come : {A : Type 0} (put rest : List (DiagLine A)) (line : DiagLine A) (now all : List (List ℕ)) → put ≡ rest ++ line ∷ [] → SameLines (texts put ++ now) all
    → SameLines (texts rest ++ put_in_order line.text now) all
one_more_come put rest line now all e same = record {
  often = λ q.
      let m : texts put ≡ texts rest ++ line.text ∷ [] = ap texts e ∙ map-append (λ l. l.text) rest (line ∷ []) in
      let t = ap (λ (l : List (List ℕ)). times q l) m in
      omega (arith, t, same.often q, times-append q (texts put) now, times-append q (texts rest) (put_in_order line.text now), times-append q (texts rest) (line.text ∷ []), times-put q line.text now, sum_by-cons (hits q) line.text []);
}
