-- Components and their macros, looked up for a pin.
use Rattle.std.proofs.Common.{◌≡◌, ℕ, Bool, false, List, [], ◌∷◌, Option, Some, None, Ok, refl, sym, ap, ◌∙◌, inl, inr}
use Rattle.std.specs.Option.{option_map}
use Rattle.std.specs.Str.{bytes_eq}
use Rattle.std.proofs.lemmas.Bool.{cases_Bool}
use Rattle.statement_model.specs.Tokens.{Token}
use Rattle.statement_reader.specs.ReadingLaws.{RecordsAreLocated}
use Rattle.form_meanings.specs.Words.{◌>>=◌}
use Rattle.form_meanings.proofs.Steps.{some_same}
use Rattle.def_grammar.specs.Components.{Component}
use Rattle.def_grammar.specs.Located.{component_at, component_if, located, or_later}
use Rattle.def_grammar.specs.Records.{Record, component_of, def, read_def}
use Rattle.lef_grammar.specs.Library.{Library, Macro, macro_named}
use Rattle.lef_grammar.specs.MacroShapes.{LibraryMacro, in_library}
use Rattle.entry_rules.specs.Unknown.{component_named}
use Rattle.edit_rules.specs.NetEdits.{has_pin}
use Rattle.def_splice.specs.NetViews.{macro_of}
use Rattle.def_splice.proofs.SearchSteps.{all_said, said}

abbrev what : Option (List Token × Component) → Option Component
what found = option_map (λ (x : List Token × Component). x.1) found

-- a component is that of the first entry of its name
one_more : (name : List ℕ) (ps : List Token) (rec : Record) (o : Option Component) (xs : List (List Token × Record)) → component_of rec ≡ o → component_named (said xs) name ≡ what (component_at name xs)
    → component_named (rec ∷ said xs) name ≡ what (or_later (component_if name ps o) (component_at name xs))
one_more name ps rec None xs is later = rw is later
one_more name ps rec (Some c) xs is later = rw is (elim (cases_Bool (bytes_eq c.name name)) [ inl so ↦ rw so refl | inr not_so ↦ rw not_so later ])

named_where : (name : List ℕ) (xs : List (List Token × Record)) → component_named (said xs) name ≡ what (component_at name xs)
named_where name [] = refl
named_where name (x ∷ xs) = one_more name x.0 x.1 (component_of x.1) xs refl (named_where name xs)

-- a macro is seen with its library
pub macro_seen : (library : Library) (found : Option Macro) (m : LibraryMacro) → Some m ≡ option_map (in_library library) found → found ≡ Some m.cell
macro_seen library None m is = absurd (cc)
macro_seen library (Some cell) m is = ap (λ (x : LibraryMacro). Some x.cell) (sym (some_same m (in_library library cell) is))

pub no_macro : (library : Library) (found : Option Macro) → None ≡ option_map (in_library library) found → found ≡ None
no_macro library None is = refl
no_macro library (Some cell) is = absurd (cc)

module _ (law : RecordsAreLocated def) (text : List ℕ) (design : List Record) (reads : read_def text ≡ Ok design) (library : Library) (name pin : List ℕ) where
  named_is : component_named design name ≡ what (component_at name (located text design))
  named_is = ap (λ (rs : List Record). component_named rs name) (sym (all_said law text design reads)) ∙ named_where name (located text design)

  abbrev Has : Bool → Type 0
  Has b = b ≡ has_pin pin (macro_of library design name)

  pub has_no_component : None ≡ component_at name (located text design) → Has false
  has_no_component none = sym (ap (λ (o : Option Component). has_pin pin (o >>= λ (d : Component). macro_named library d.cell)) (named_is ∙ ap what (sym none)))

  module _ (x : List Token × Component) (found : Some x ≡ component_at name (located text design)) where
    pub has_macro_pin : (m : Option Macro) → macro_named library x.1.cell ≡ m → Has (has_pin pin m)
    has_macro_pin m is =
        let named = named_is ∙ ap what (sym found) in
        sym (ap (λ (o : Option Component). has_pin pin (o >>= λ (d : Component). macro_named library d.cell)) named ∙ ap (has_pin pin) is)
