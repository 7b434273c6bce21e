-- Pins of components that weren't seen.
use Rattle.std.specs.Prelude.{◌≡◌, ℕ, false, List, [], ◌∷◌, Option, Some, None}
use Rattle.statement_model.specs.Grammar.{Key}
use Rattle.statement_model.specs.Reading.{is_among}
use Rattle.def_grammar.specs.Components.{Component}
use Rattle.def_grammar.specs.Records.{Record, component_of}

abbrev pub IsUnseen : List ℕ → List Key → Option Component → Type 0
IsUnseen name seen None = Unit {0}
IsUnseen name seen (Some c) = is_among seen (c.name ∷ name ∷ []) ≡ false

-- of no component that a statement is was the pin of this name seen
abbrev pub AreUnseen : List ℕ → List Key → List Record → Type 0
AreUnseen name seen [] = Unit {0}
AreUnseen name seen (r ∷ rs) = IsUnseen name seen (component_of r) × AreUnseen name seen rs
