-- Look-ups of what is defined, and names that aren't, as the definitions see them.
use Rattle.std.specs.Prelude.{◌≡◌, ℕ, Bool, true, List, [], ◌∷◌, ◌++◌, Option, Some, None, codes, if◌then◌else◌, IfSome}
use Rattle.std.specs.List.{All}
use Rattle.std.specs.Option.{option_map, option_to_list}
use Rattle.design_model.specs.declared.diagnostic.DiagKind.TheVariants.{Unknown as unknown_kind}
use Rattle.design_model.specs.Lines.{line_text}
use Rattle.entry_rules.specs.Unknown.{Known}
use Rattle.entry_checks.specs.declared.known_names.KnownNames.{KnownNames}
use Rattle.entry_checks.specs.declared.unknown.Seen.{Seen}
use Rattle.entry_checks.specs.declared.unknown.Unknown as code
use Rattle.entry_checks.specs.declared.unknown.Unknown.TheVariants as variants

-- whether a component lacks a pin, where there is such a component
abbrev pub lacks_if_there : Known → List ℕ → List ℕ → Option Bool
lacks_if_there known component pin = if known.component component then Some (known.lacks component pin) else None

-- the words on a name that isn't defined
abbrev pub unknown_words : code.Unknown → List (List ℕ)
unknown_words (variants.Name kind name) = kind.now ∷ name.now ∷ []
unknown_words (variants.Pin owner pin) = codes "PIN" ∷ owner.now ∷ pin.now ∷ []

abbrev pub words_of_all : Option code.Unknown → List (List (List ℕ))
words_of_all found = option_to_list (option_map unknown_words found)

-- `unknown w.. S o`
abbrev pub unknown_text : List ℕ → List ℕ → List (List ℕ) → List ℕ
unknown_text section owner words = line_text unknown_kind (words ++ section ∷ owner ∷ []) []

-- the names that are kept are known
abbrev pub AreKnown : (List ℕ → Bool) → KnownNames → Type 0
AreKnown is_known names = All (λ o. IfSome o (λ name. is_known name.now ≡ true)) names.slots

pub record AreSeen (known : Known) (seen : Seen) : Type 0 where
  pub layers : AreKnown known.layer seen.layers
  pub vias : AreKnown known.via seen.vias
