-- The pins among pins are all of them.
use Rattle.std.proofs.Common.{◌≡◌, Bool, List, [], ◌∷◌, refl, sym, ap, ◌∙◌, inl, inr, if◌then◌else◌}
use Rattle.std.proofs.lemmas.Bool.{cases_Bool}
use Rattle.connection_rules.specs.NetParts.{Part}
use Rattle.net_laws.specs.StarNets.{pins_in}

pub only_pins : (ps : List Part) → pins_in (pins_in ps) ≡ pins_in ps
only_pins [] = refl
only_pins (p ∷ ps) = elim (cases_Bool p.is_pin) [
  | inl is ↦
      let first : pins_in (p ∷ ps) ≡ p ∷ pins_in ps = ap (λ (b : Bool). if b then p ∷ pins_in ps else pins_in ps) is in
      let again : pins_in (p ∷ pins_in ps) ≡ p ∷ pins_in (pins_in ps) = ap (λ (b : Bool). if b then p ∷ pins_in (pins_in ps) else pins_in (pins_in ps)) is in
      ap pins_in first ∙ (again ∙ (ap (λ (l : List Part). p ∷ l) (only_pins ps) ∙ sym first))
  | inr other ↦
      let first : pins_in (p ∷ ps) ≡ pins_in ps = ap (λ (b : Bool). if b then p ∷ pins_in ps else pins_in ps) other in
      ap pins_in first ∙ (only_pins ps ∙ sym first)
]
