-- Pins that are kept, as one more is put among them.
use Rattle.std.proofs.Common.{◌≡◌, ℕ, ◌-◌, List, [], ◌∷◌, ◌++◌, length, set, sym, subst, arith}
use Rattle.std.specs.Prelude.{slice_index_or}
use Rattle.std.specs.List.{All, swap_remove}
use Rattle.std.proofs.lemmas.List.Elements.{All-nil, All-push, All-set, All-take}
use Rattle.lef_grammar.specs.Library.{Library}
use Rattle.net_pins.specs.FoundPins.{AreKept, IsKept}
use Rattle.net_pins.specs.declared.found_pin.FoundPin.{FoundPin}

module _ {A : Type 0} (library : Library) where
  abbrev AllKept : List (FoundPin A) → Type 0
  AllKept pins = All (IsKept library) pins

  -- behind the others,
  pub one_more : (last now : List (FoundPin A)) (pin : FoundPin A) → AreKept library last → IsKept library pin → now ≡ last ++ pin ∷ [] → AreKept library now
  one_more last now pin are is e = record { each = subst AllKept (sym e) (All-push (IsKept library) last pin are.each is) }

  others : (last : List (FoundPin A)) (i : ℕ) (d : FoundPin A) → AllKept last → AllKept (swap_remove last i d)
  others [] i d are = All-nil (IsKept library)
  others (p ∷ ps) i d are =
      let last = p ∷ ps in
      All-take (IsKept library) (length last - 1) (set last i (slice_index_or last (length last - 1) d)) (All-set (IsKept library) last i (slice_index_or last (length last - 1) d) (are (length last - 1) d (omega arith)) are)

  -- and then in the place of another
  pub one_removed : (last now : List (FoundPin A)) (i : ℕ) (d : FoundPin A) → AreKept library last → now ≡ swap_remove last i d → AreKept library now
  one_removed last now i d are e = record { each = subst AllKept (sym e) (others last i d are.each) }

  pub as_before : (last now : List (FoundPin A)) → AreKept library last → now ≡ last → AreKept library now
  as_before last now are e = subst (AreKept library) (sym e) are
