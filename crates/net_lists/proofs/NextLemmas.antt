-- The first net of flat lists, and those behind it.
use Rattle.std.proofs.Common.{◌≡◌, ℕ, zero, suc, false, ◌==◌, ◌-◌, ◌<◌, List, ◌∷◌, length, sum_by, drop, take, get_or, ap, ap₂, ◌∙◌, arith}
use Rattle.std.proofs.lemmas.List.{drop_more, take_rest}
use Rattle.connection_rules.specs.NetParts.{Net}
use Rattle.net_lists.specs.Counts.{part_count, shape_count}
use Rattle.net_lists.specs.NetViews.{nets_of, net_with}
use Rattle.net_lists.specs.PartCuts.{cut, part_with, parts_of}
use Rattle.net_lists.specs.declared.parts.NetHead.{NetHead}
use Rattle.net_lists.specs.declared.parts.NetShape.{NetShape}
use Rattle.net_lists.specs.declared.parts.PartHead.{PartHead}
use Rattle.net_lists.proofs.CutLemmas.{cut_dropped, cut_taken}

pub some_left : (n : ℕ) → false ≡ (n == 0) → 0 < n
some_left zero h = cc
some_left (suc n) h = omega arith

abbrev pub first_of : NetHead → List PartHead → List NetShape → Net
first_of h ps ss = net_with h (parts_of ps ss)

pub first_net : (hs : List NetHead) (d : NetHead) (ps qs rs : List PartHead) (ss ts us : List NetShape) → 0 < length hs
    → qs ≡ take (get_or hs 0 d).parts ps → rs ≡ drop (get_or hs 0 d).parts ps
    → ts ≡ take (sum_by shape_count qs) ss → us ≡ drop (sum_by shape_count qs) ss
    → nets_of hs ps ss ≡ first_of (get_or hs 0 d) qs ts ∷ nets_of (take (length hs - 1) (drop 1 hs)) rs us
first_net hs d ps qs rs ss ts us some front back shapes left =
    let h : NetHead = get_or hs 0 d in
    let split : hs ≡ h ∷ drop 1 hs = drop_more hs 0 d some in
    let k : ℕ = sum_by shape_count (take h.parts ps) in
    let e : nets_of (h ∷ drop 1 hs) ps ss ≡ first_of h (take h.parts ps) (take k ss) ∷ nets_of (drop 1 hs) (drop h.parts ps) (drop k ss) =
    ap₂ (λ qs ns. net_with h qs ∷ ns) (cut_taken shape_count part_with h.parts ps ss)
    (ap (cut part_count net_with (drop 1 hs)) (cut_dropped shape_count part_with h.parts ps ss)) in
    rw (take_rest hs 1, shapes, left, front, back) (ap (λ xs. nets_of xs ps ss) split ∙ e)

pub fewer : (old : List Net) (n : Net) (new : List Net) → old ≡ n ∷ new → length new < length old
fewer old n new e = rw e (omega arith)
