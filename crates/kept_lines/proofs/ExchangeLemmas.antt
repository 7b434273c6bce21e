-- Lines that go and come in the order of their bytes, which is not asked for.
use Rattle.std.proofs.Common.{◌≡◌, ◌≤◌, ℕ, List, ◌++◌, sym, ap, ◌∙◌, arith}
use Rattle.design_model.specs.Order.{sorted_by_bytes}
use Rattle.line_laws.proofs.PairSums.{times-append}
use Rattle.line_laws.specs.Lines.{SameLines, times}
use Rattle.following_laws.specs.Following.{LinesFollow}
use Rattle.kept_lines.proofs.Counts.{count-sorted}
use Rattle.kept_lines.proofs.OrderLemmas.{times_is}

times-sorted : (q : List ℕ) (xs : List (List ℕ)) → times q (sorted_by_bytes xs) ≡ times q xs
times-sorted q xs = sym (times_is q (sorted_by_bytes xs)) ∙ count-sorted q xs ∙ times_is q xs

pub stand_sorted : (out sorted old now : List (List ℕ)) → sorted ≡ sorted_by_bytes out → now ≡ old → ((q : List ℕ) → times q out ≤ times q old) → (q : List ℕ) → times q sorted ≤ times q now
stand_sorted out sorted old now is same stand q = rw (is, same, times-sorted q out) (stand q)

-- lines that stand beside others in the order of their bytes
beside : (xs sorted stay all : List (List ℕ)) → sorted ≡ sorted_by_bytes xs → SameLines all (sorted ++ stay) → SameLines all (xs ++ stay)
beside xs sorted stay all is same = record {
  often = λ q.
      let count : times q sorted ≡ times q xs = ap (times q) is ∙ times-sorted q xs in
      omega (arith, count, same.often q, times-append q sorted stay, times-append q xs stay);
}

pub exchanged : (old new out out' put put' stay : List (List ℕ)) → out' ≡ sorted_by_bytes out → put' ≡ sorted_by_bytes put
    → SameLines old (out' ++ stay) → SameLines new (put' ++ stay) → LinesFollow old new out put
exchanged old new out out' put put' stay out_is put_is gone come = record { stay = stay; old_is = beside out out' stay old out_is gone; new_is = beside put put' stay new put_is come }
