-- The answers on nets where one of them has other measures, and on cells where some nets are exchanged.
use Rattle.std.proofs.Common.{◌≡◌, ◌+◌, ◌-◌, ◌≤◌, ℕ, Bool, true, false, List, [], ◌∷◌, ◌++◌, flat_map, map, Option, Some, ℤ, refl, sym, ap, ◌∙◌, if◌then◌else◌, arith}
use Rattle.std.specs.List.{sum_by}
use Rattle.std.specs.Option.{option_map}
use Rattle.std.specs.Str.{bytes_eq}
use Rattle.std.proofs.lemmas.List.{map-append}
use Rattle.std.proofs.lemmas.List.Sums.{sum_by-append, sum_by-cons}
use Rattle.lef_grammar.specs.Measures.{Shape}
use Rattle.connection_rules.specs.NetLines.{NetShape, shapes_of_net}
use Rattle.connection_rules.specs.NetParts.{Net}
use Rattle.line_laws.specs.Lines.{SameThings}
use Rattle.cell_sums.specs.Tables.{CellTable}
use Rattle.reports.specs.Densities.{HasExchanged, HoldsDensities}
use Rattle.reports.proofs.DensitySteps.{exchanged_from}
use Rattle.form_meanings.specs.Firsts.{find_named}
use Rattle.reports.specs.MeasuredNets.{MeasuredNet, name_of}

-- what is told of a net that is found
module _ {B : Type 0} (told : MeasuredNet → B) where
  told_of : (b : Bool) (m : MeasuredNet) (o : Option MeasuredNet) → option_map told (if b then Some m else o) ≡ (if b then Some (told m) else option_map told o)
  told_of true m o = refl
  told_of false m o = refl

  pub told_in : (name : List ℕ) (m : MeasuredNet) (old new : List MeasuredNet) → ((n : List ℕ) → find_named name_of new n ≡ (if bytes_eq name n then Some m else find_named name_of old n))
      → (n : List ℕ) → option_map told (find_named name_of new n) ≡ (if bytes_eq name n then Some (told m) else option_map told (find_named name_of old n))
  told_in name m old new set n = ap (option_map told) (set n) ∙ told_of (bytes_eq name n) m (find_named name_of old n)

-- the lengths of all nets, where one has another
pub other_total : (old more less new : ℕ) → less ≤ old → new ≡ old - less + more → new + less ≡ old + more
other_total old more less new within is = omega (arith, within, is)

-- the shapes of nets
abbrev pub shapes_of : List Net → List Shape
shapes_of ns = map (λ (s : NetShape). s.shape) (flat_map shapes_of_net ns)

module _ (w : Shape → ℕ) where
  abbrev weight : Net → ℕ
  weight n = sum_by w (map (λ (s : NetShape). s.shape) (shapes_of_net n))

  weights : (ns : List Net) → sum_by w (shapes_of ns) ≡ sum_by weight ns
  weights [] = refl
  weights (n ∷ ns) =
      let here = map (λ (s : NetShape). s.shape) (shapes_of_net n) in
      ap (sum_by w) (map-append (λ (s : NetShape). s.shape) (shapes_of_net n) (flat_map shapes_of_net ns))
      ∙ sum_by-append w here (shapes_of ns)
      ∙ ap (λ m. sum_by w here + m) (weights ns)
      ∙ sym (sum_by-cons weight n ns)

parted : (all some stay : List Net) → SameThings all (some ++ stay) → SameThings (shapes_of all) (shapes_of some ++ shapes_of stay)
parted all some stay same = record {
  sums = λ w.
      let s = same.sums (weight w) in
      omega (arith, s, weights w all, weights w some, weights w stay, sum_by-append (weight w) some stay, sum_by-append w (shapes_of some) (shapes_of stay));
}

-- cells follow an exchange of nets, of which others stay, in whatever order
pub nets_exchanged : (old new out put stay : List Net) → SameThings old (out ++ stay) → SameThings new (put ++ stay) → (before after : CellTable) → HasExchanged (shapes_of out) (shapes_of put) before after → (columns rows : List ℤ)
    → HoldsDensities columns rows (shapes_of old) before → HoldsDensities columns rows (shapes_of new) after
nets_exchanged old new out put stay old_is new_is before after e columns rows =
    exchanged_from (shapes_of out) (shapes_of put) before after e columns rows (shapes_of old) (shapes_of new) (shapes_of stay) (parted old out stay old_is) (parted new put stay new_is)
