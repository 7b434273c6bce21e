-- What is told of nets without shapes that stay.
use Rattle.std.proofs.Common.{◌≡◌, ◌∙◌, ◌+◌, ℕ, List, [], ◌∷◌, ◌++◌, map, sum_by, refl, sym, ap, ap₂, arith}
use Rattle.std.specs.Prelude.{flat_map}
use Rattle.std.proofs.lemmas.List.{append-nil, map-append}
use Rattle.std.proofs.lemmas.List.Concat.{flat_map-append}
use Rattle.std.proofs.lemmas.List.Sums.{sum_by-append, sum_by-cons}
use Rattle.lef_grammar.specs.Measures.{Shape}
use Rattle.connection_rules.specs.NetLines.{NetShape}
use Rattle.line_laws.specs.Lines.{SameLines, SameThings, times}
use Rattle.line_laws.proofs.PairSums.{times-append}
use Rattle.named_shapes.specs.Named.{named}
use Rattle.followed_nets.specs.Lacking.{Lacks, lines_in, named_in}
use Rattle.followed_nets.specs.Told.{Told}

-- what is taken off at the ends, once before the rest is turned round and once behind it
pub both_ends : (all left turned last : List Shape) (first then_ends : List Shape) → all ≡ left ++ first → SameThings left turned → turned ≡ last ++ then_ends → SameThings all (last ++ (then_ends ++ first))
both_ends all left turned last first then_ends h1 same h2 = record {
  sums = λ w.
      let a = ap (sum_by w) h1 in
      let b = same.sums w in
      let c = ap (sum_by w) h2 in
      omega (arith, a, b, c, sum_by-append w left first, sum_by-append w last then_ends, sum_by-append w last (then_ends ++ first), sum_by-append w then_ends first);
}

sum_named : (w : NetShape → ℕ) (n : List ℕ) (ss : List Shape) → sum_by w (map (named n) ss) ≡ sum_by (λ (s : Shape). w (named n s)) ss
sum_named w n [] = refl
sum_named w n (s ∷ ss) = let r = sum_named w n ss in omega (arith, r, sum_by-cons w (named n s) (map (named n) ss), sum_by-cons (λ (x : Shape). w (named n x)) s ss)

module _ (w : NetShape → ℕ) where
  named_both : (ts us : List Told) → sum_by w (named_in (ts ++ us)) ≡ sum_by w (named_in ts) + sum_by w (named_in us)
  named_both ts us = ap (sum_by w) (flat_map-append (λ (t : Told). map (named t.name) t.shapes) ts us) ∙ sum_by-append w (named_in ts) (named_in us)

  named_one : (t : Told) → sum_by w (named_in (t ∷ [])) ≡ sum_by (λ (s : Shape). w (named t.name s)) t.shapes
  named_one t = ap (sum_by w) (append-nil (map (named t.name) t.shapes)) ∙ sum_named w t.name t.shapes

  named_first : (t : Told) (ts : List Told) → sum_by w (named_in (t ∷ ts)) ≡ sum_by (λ (s : Shape). w (named t.name s)) t.shapes + sum_by w (named_in ts)
  named_first t ts = let r = sum_named w t.name t.shapes in omega (arith, r, sum_by-append w (map (named t.name) t.shapes) (named_in ts))

module _ (q : List ℕ) where
  lines_both : (ts us : List Told) → times q (lines_in (ts ++ us)) ≡ times q (lines_in ts) + times q (lines_in us)
  lines_both ts us = ap (times q) (flat_map-append (λ (t : Told). t.lines) ts us) ∙ times-append q (lines_in ts) (lines_in us)

  lines_one : (t : Told) → times q (lines_in (t ∷ [])) ≡ times q t.lines
  lines_one t = ap (times q) (append-nil t.lines)

  lines_first : (t : Told) (ts : List Told) → times q (lines_in (t ∷ ts)) ≡ times q t.lines + times q (lines_in ts)
  lines_first t ts = times-append q t.lines (lines_in ts)

-- one more net that lacks some shapes
pub one_lacks : (t some : Told) (ts : List Told) (same : List Shape) → t.name ≡ some.name → t.lines ≡ some.lines → SameThings t.shapes (some.shapes ++ same) → Lacks (ts ++ some ∷ []) (t ∷ ts) (map (named t.name) same)
one_lacks t some ts same name lines shapes = record {
  shapes_are = record {
    sums = λ w.
        let v = λ (s : Shape). w (named t.name s) in
        let h = shapes.sums v in
        let n = ap (λ (m : List ℕ). sum_by (λ (s : Shape). w (named m s)) some.shapes) name in
        omega (
          arith,
          h,
          n,
          named_first w t ts,
          named_both w ts (some ∷ []),
          named_one w some,
          sum_by-append v some.shapes same,
          sum_named w t.name same,
          sum_by-append w (named_in (ts ++ some ∷ [])) (map (named t.name) same),
        );
  };
  lines_are = record {
    often = λ q.
        let l = ap (times q) lines in
        omega (arith, l, lines_first q t ts, lines_both q ts (some ∷ []), lines_one q some);
  };
}

-- one that lacks none
pub none_lacks : (t : Told) (ts : List Told) → Lacks (ts ++ t ∷ []) (t ∷ ts) []
none_lacks t ts = one_lacks t t ts [] refl refl (record { sums = λ w. ap (sum_by w) (sym (append-nil t.shapes)) })

-- at the beginning
pub all_there : (ts us : List Told) → us ≡ [] → Lacks (ts ++ us) ts []
all_there ts us none = record {
  shapes_are = record {
    sums = λ w.
        let n = ap (λ (l : List Told). sum_by w (named_in l)) none in
        omega (arith, n, named_both w ts us, sum_by-append w (named_in (ts ++ us)) []);
  };
  lines_are = record { often = λ q. let n = ap (λ (l : List Told). times q (lines_in l)) none in omega (arith, n, lines_both q ts us) };
}

-- one goes over to the others
pub next_lacks : (left done then_done all was : List Told) (t : Told) (stay more : List NetShape) → was ≡ left ++ t ∷ [] → Lacks (was ++ done) all stay → Lacks then_done (t ∷ done) more
    → Lacks (left ++ then_done) all (more ++ stay)
next_lacks left done then_done all was t stay more is h step = record {
  shapes_are = record {
    sums = λ w.
        let i = ap (λ (l : List Told). sum_by w (named_in l)) is in
        let a = h.shapes_are.sums w in
        let b = step.shapes_are.sums w in
        omega (
          arith,
          i,
          a,
          b,
          named_both w was done,
          named_both w left (t ∷ []),
          named_one w t,
          named_first w t done,
          named_both w left then_done,
          sum_by-append w (named_in (was ++ done)) stay,
          sum_by-append w (named_in then_done) more,
          sum_by-append w more stay,
          sum_by-append w (named_in (left ++ then_done)) (more ++ stay),
        );
  };
  lines_are = record {
    often = λ q.
        let i = ap (λ (l : List Told). times q (lines_in l)) is in
        let a = h.lines_are.often q in
        let b = step.lines_are.often q in
        omega (arith, i, a, b, lines_both q was done, lines_both q left (t ∷ []), lines_one q t, lines_first q t done, lines_both q left then_done);
  };
}

-- in another order
pub turned_lacks : (ts us all : List Told) (stay : List NetShape) → Lacks (ts ++ us) all stay → Lacks (us ++ ts) all stay
turned_lacks ts us all stay h = record {
  shapes_are = record {
    sums = λ w.
        let a = h.shapes_are.sums w in
        omega (arith, a, named_both w ts us, named_both w us ts, sum_by-append w (named_in (ts ++ us)) stay, sum_by-append w (named_in (us ++ ts)) stay);
  };
  lines_are = record { often = λ q. let a = h.lines_are.often q in omega (arith, a, lines_both q ts us, lines_both q us ts) };
}
