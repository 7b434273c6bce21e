-- Lines on single statements that follow a change.
use Rattle.std.proofs.Common.{◌≡◌, ◌+◌, ℕ, Bool, true, false, List, [], ◌∷◌, ◌++◌, filter, flat_map, refl, sym, ap, ap₂, ◌∙◌, if◌then◌else◌, arith}
use Rattle.std.proofs.lemmas.Grind.{flat_map-append}
use Rattle.def_grammar.specs.Records.{Record}
use Rattle.lef_grammar.specs.Library.{Library}
use Rattle.entry_rules.specs.Unchecked.{unchecked_lines_of}
use Rattle.entry_rules.specs.Unknown.{known_by}
use Rattle.entry_rules.specs.ViaLayers.{via_layers}
use Rattle.report_rules.specs.Diagnostics.{statement_lines}
use Rattle.line_laws.specs.Lines.{SameLines, times}
use Rattle.line_laws.proofs.PairSums.{times-append}
use Rattle.agreement_laws.specs.Agreement.{all_shown, references_of, refers_to, shown_but, vias_of}
use Rattle.agreement_laws.proofs.NameLemmas.{same_unknown}
use Rattle.agreement_laws.proofs.SeenLemmas.{names_agree, names_agree_but, vias_agree, vias_agree_but}
use Rattle.agreement_laws.proofs.ViaLemmas.{same_off_layer}

pub same_shown : (library : Library) (design other : List Record) (r : Record) → all_shown design ≡ all_shown other → statement_lines library design r ≡ statement_lines library other r
same_shown library design other r same =
    ap₂ (λ (l m : List (List ℕ)). l ++ (m ++ (unchecked_lines_of r ++ [])))
    (same_unknown (known_by library design) (known_by library other) r (names_agree library design other same (references_of r)))
    (same_off_layer (via_layers library design) (via_layers library other) r (vias_agree library design other same (vias_of r)))

pub same_but : (library : Library) (design other : List Record) (component : List ℕ) (r : Record) → shown_but component design ≡ shown_but component other
    → refers_to component r ≡ false → statement_lines library design r ≡ statement_lines library other r
same_but library design other component r same apart =
    ap₂ (λ (l m : List (List ℕ)). l ++ (m ++ (unchecked_lines_of r ++ [])))
    (same_unknown (known_by library design) (known_by library other) r (names_agree_but component library design other same (references_of r) apart))
    (same_off_layer (via_layers library design) (via_layers library other) r (vias_agree_but component library design other same (vias_of r)))

pub same_all : (f g : Record → List (List ℕ)) → ((r : Record) → f r ≡ g r) → (rs : List Record) → flat_map f rs ≡ flat_map g rs
same_all f g h [] = refl
same_all f g h (r ∷ rs) = ap₂ (λ (l m : List (List ℕ)). l ++ m) (h r) (same_all f g h rs)

times_parts : (q : List ℕ) (f : Record → List (List ℕ)) (xs ys zs : List Record)
    → times q (flat_map f (xs ++ (ys ++ zs))) ≡ times q (flat_map f xs) + (times q (flat_map f ys) + times q (flat_map f zs))
times_parts q f xs ys zs =
    ap (times q) (flat_map-append f xs (ys ++ zs))
    ∙ times-append q (flat_map f xs) (flat_map f (ys ++ zs))
    ∙ ap (λ (n : ℕ). times q (flat_map f xs) + n) (ap (times q) (flat_map-append f ys zs) ∙ times-append q (flat_map f ys) (flat_map f zs))

pub follow : (library : Library) (front out put behind : List Record) → all_shown (front ++ (out ++ behind)) ≡ all_shown (front ++ (put ++ behind))
    → SameLines (flat_map (statement_lines library (front ++ (put ++ behind))) (front ++ (put ++ behind)) ++ flat_map (statement_lines library (front ++ (out ++ behind))) out)
    (flat_map (statement_lines library (front ++ (out ++ behind))) (front ++ (out ++ behind)) ++ flat_map (statement_lines library (front ++ (out ++ behind))) put)
follow library front out put behind same = record {
  often = λ q.
      let design = front ++ (out ++ behind) in
      let other = front ++ (put ++ behind) in
      let f = statement_lines library design in
      let g = statement_lines library other in
      let new : times q (flat_map g other) ≡ times q (flat_map f other) = ap (times q) (same_all g f (λ r. sym (same_shown library design other r same)) other) in
      let here = times_parts q f front put behind in
      let there = times_parts q f front out behind in
      let left = times-append q (flat_map g other) (flat_map f out) in
      let right = times-append q (flat_map f design) (flat_map f put) in
      omega (arith, new, here, there, left, right);
}

-- lines of two kinds that differ on some things alone are as those of one kind, less those on these things and with the others
module _ (q : List ℕ) (f g : Record → List (List ℕ)) (differs : Record → Bool) (h : (r : Record) → differs r ≡ false → f r ≡ g r) where
  exchange_step : (r : Record) (b : Bool) (rs ds : List Record) → (b ≡ false → f r ≡ g r)
      → times q (flat_map g rs) + times q (flat_map f ds) ≡ times q (flat_map f rs) + times q (flat_map g ds)
      → times q (g r ++ flat_map g rs) + times q (flat_map f (if b then r ∷ ds else ds)) ≡ times q (f r ++ flat_map f rs) + times q (flat_map g (if b then r ∷ ds else ds))
  exchange_step r true rs ds same later =
      let a = times-append q (g r) (flat_map g rs) in
      let b = times-append q (f r) (flat_map f rs) in
      let c = times-append q (g r) (flat_map g ds) in
      let d = times-append q (f r) (flat_map f ds) in
      omega (arith, later, a, b, c, d)
  exchange_step r false rs ds same later =
      let a = times-append q (g r) (flat_map g rs) in
      let b = times-append q (f r) (flat_map f rs) in
      let c = ap (times q) (same refl) in
      omega (arith, later, a, b, c)

  exchanged : (rs : List Record) → times q (flat_map g rs) + times q (flat_map f (filter differs rs)) ≡ times q (flat_map f rs) + times q (flat_map g (filter differs rs))
  exchanged [] = refl
  exchanged (r ∷ rs) = exchange_step r (differs r) rs (filter differs rs) (h r) (exchanged rs)

times_two : (q : List ℕ) (f : Record → List (List ℕ)) (xs ys : List Record) → times q (flat_map f (xs ++ ys)) ≡ times q (flat_map f xs) + times q (flat_map f ys)
times_two q f xs ys = ap (times q) (flat_map-append f xs ys) ∙ times-append q (flat_map f xs) (flat_map f ys)

pub follow_one : (library : Library) (front out put behind : List Record) (component : List ℕ)
    → shown_but component (front ++ (out ++ behind)) ≡ shown_but component (front ++ (put ++ behind))
    → SameLines
    (flat_map (statement_lines library (front ++ (put ++ behind))) (front ++ (put ++ behind))
    ++ flat_map (statement_lines library (front ++ (out ++ behind))) (out ++ filter (refers_to component) (front ++ behind)))
    (flat_map (statement_lines library (front ++ (out ++ behind))) (front ++ (out ++ behind))
    ++ flat_map (statement_lines library (front ++ (put ++ behind))) (put ++ filter (refers_to component) (front ++ behind)))
follow_one library front out put behind component same = record {
  often = λ q.
      let design = front ++ (out ++ behind) in
      let other = front ++ (put ++ behind) in
      let named = filter (refers_to component) (front ++ behind) in
      let f = statement_lines library design in
      let g = statement_lines library other in
      let stay = exchanged q f g (refers_to component) (λ r apart. same_but library design other component r same apart) (front ++ behind) in
      let g_stay = times_two q g front behind in
      let f_stay = times_two q f front behind in
      let here = times_parts q g front put behind in
      let there = times_parts q f front out behind in
      let went = times_two q f out named in
      let came = times_two q g put named in
      let left = times-append q (flat_map g other) (flat_map f (out ++ named)) in
      let right = times-append q (flat_map f design) (flat_map g (put ++ named)) in
      omega (arith, stay, g_stay, f_stay, here, there, went, came, left, right);
}

pub follow_named : (library : Library) (design other : List Record) (component : List ℕ) (picked : Record → Bool) (some : List Record)
    → shown_but component design ≡ shown_but component other → ((r : Record) → picked r ≡ false → refers_to component r ≡ false)
    → SameLines (flat_map (statement_lines library other) some ++ flat_map (statement_lines library design) (filter picked some))
    (flat_map (statement_lines library design) some ++ flat_map (statement_lines library other) (filter picked some))
follow_named library design other component picked some same so = record {
  often = λ q.
      let f = statement_lines library design in
      let g = statement_lines library other in
      let all = exchanged q f g picked (λ r apart. same_but library design other component r same (so r apart)) some in
      let left = times-append q (flat_map g some) (flat_map f (filter picked some)) in
      let right = times-append q (flat_map f some) (flat_map g (filter picked some)) in
      omega (arith, all, left, right);
}
