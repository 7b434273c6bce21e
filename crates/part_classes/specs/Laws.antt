-- What labels and counts of classes mean.
use Rattle.std.specs.Prelude.{◌≡◌, ◌<◌, ◌+◌, ◌↔◌, ℕ, Bool, List}
use Rattle.shape_rules.specs.Classes.{label_at, labels, distinct, holding, bare, Respects, InOneClass, AreBelow}

-- Two parts have one label exactly where they are of one class by the closure of being joined.
abbrev pub LabelsAreClasses : Type 0
LabelsAreClasses = (n : ℕ) (es : List (ℕ × ℕ)) → AreBelow n es → (i j : ℕ) → i < n → j < n → (label_at (labels n es) i ≡ label_at (labels n es) j) ↔ InOneClass es i j

-- Joins that the same labellings respect give the same labels, so their order is open, and so is how often each is made.
abbrev pub OrderIsOpen : Type 0
OrderIsOpen = (n : ℕ) (es fs : List (ℕ × ℕ)) → AreBelow n es → AreBelow n fs → ((m : ℕ → ℕ) → Respects m es ↔ Respects m fs) → labels n es ≡ labels n fs

-- The classes that hold a marked part and those that hold none are all classes.
abbrev pub CountsAreAll : Type 0
CountsAreAll = (marks : List Bool) (ls : List ℕ) → holding marks ls + bare marks ls ≡ distinct ls
