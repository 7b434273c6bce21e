-- The words of pins in the program as those of the definitions, and as keys of a table.
use Rattle.std.specs.Prelude.{◌≡◌, ℕ, Bool, false, ◌<◌, ◌-◌, ◌&&◌, List, [], ◌∷◌, ◌++◌, length, slice_index, Option, Some, None, IsTrue}
use Rattle.std.specs.List.{list_any}
use Rattle.std.specs.Cmp.{IsEquivalence, and_equiv, first_so, on_equiv, second_so}
use Rattle.std.specs.Cmp.Lexicographic.{bytes_decides, nat_list_eq_equiv, options_equiv}
use Rattle.std.specs.Option.{option_eq}
use Rattle.std.specs.Str.{bytes_eq}
use Rattle.std.proofs.Common.{true, ap, ap₂}
use denote.Ref.{Bor}
use Rattle.statement_model.specs.Grammar.{Key}
use Rattle.net_pins.specs.declared.seen_pins.PinWords.{PinWords}

abbrev pub words_in : Option (Bor (List ℕ)) → List ℕ → Key
words_in None pin = pin ∷ []
words_in (Some component) pin = component.now ∷ pin ∷ []

abbrev pub words_of : PinWords → Key
words_of w = words_in w.component w.pin.now

-- the last byte of a name, or 0 where there is none
abbrev pub last_byte : List ℕ → ℕ
last_byte name = slice_index name (length name - 1)

-- that of a component's name
abbrev pub end_of : Option (Bor (List ℕ)) → ℕ
end_of None = 0
end_of (Some component) = last_byte component.now

abbrev pub is_same_lent : Bor (List ℕ) → Bor (List ℕ) → Bool
is_same_lent a b = bytes_eq a.now b.now

abbrev pub is_same_pin : PinWords → PinWords → Bool
is_same_pin a b = option_eq is_same_lent a.component b.component && bytes_eq a.pin.now b.pin.now

pub same_pins : IsEquivalence is_same_pin
same_pins = and_equiv (on_equiv (λ (w : PinWords). w.component) (options_equiv (on_equiv (λ (b : Bor (List ℕ)). b.now) nat_list_eq_equiv))) (on_equiv (λ (w : PinWords). w.pin.now) nat_list_eq_equiv)

same_in : (c d : Option (Bor (List ℕ))) (p q : List ℕ) → option_eq is_same_lent c d ≡ true → p ≡ q → words_in c p ≡ words_in d q
same_in None None p q h same = ap (λ (w : List ℕ). w ∷ []) same
same_in None (Some d) p q h same = cc
same_in (Some c) None p q h same = cc
same_in (Some c) (Some d) p q h same = ap₂ (λ (v w : List ℕ). v ∷ w ∷ []) ((bytes_decides c.now d.now).0 h) same

-- equal pins have the same words
pub same_words_of : (a b : PinWords) → IsTrue (is_same_pin a b) → words_of a ≡ words_of b
same_words_of a b same =
    same_in a.component b.component a.pin.now b.pin.now (first_so (option_eq is_same_lent a.component b.component) (bytes_eq a.pin.now b.pin.now) same)
    ((bytes_decides a.pin.now b.pin.now).0 (second_so (option_eq is_same_lent a.component b.component) (bytes_eq a.pin.now b.pin.now) same))

-- each of some pins is new behind those that were seen and the ones before it
abbrev pub AreNew : List PinWords → List PinWords → Type 0
AreNew seen [] = Unit {0}
AreNew seen (k ∷ ks) = (list_any (is_same_pin k) seen ≡ false) × AreNew (seen ++ k ∷ []) ks

-- pins that were noted: the first of them, those in the table, and those that don't stand there yet
pub record AreNoted (first further unlisted : List PinWords) : Type 0 where
  pub few : length first < 8 → further ++ unlisted ≡ []
  pub new : AreNew further unlisted
