-- The component that is found by its name.
use Rattle.std.proofs.Common.{◌≡◌, ◌⊎◌, inl, inr, ℕ, true, false, List, [], ◌∷◌, Option, Some, sym, ap, ap₂, ◌∙◌, ⊎_elim}
use Rattle.std.specs.Str.{bytes_eq}
use Rattle.std.proofs.lemmas.Bool.{cases_Bool as cases}
use Rattle.std.proofs.lemmas.Slice.Eq.{bytes_eq-Decides}
use Rattle.form_meanings.proofs.Steps.{some_same}
use Rattle.statement_model.specs.Tokens.{Token}
use Rattle.def_grammar.specs.Components.{Component}
use Rattle.def_grammar.specs.Records.{component, Record, top, in_properties, end_section, entry, component_of}
use Rattle.def_grammar.specs.Located.{component_if, or_later, component_at}
use Rattle.edit_laws.specs.ComponentLaws.{ComponentsAreFound}
use Rattle.edit_laws.specs.StatementLaws.{StandsAmong}

abbrev Found : Type 0
Found = Option (List Token × Component)

-- a statement is the entry that is found
record IsFound (name : List ℕ) (qs : List Token) (rec : Record) (x : List Token × Component) : Type 0 where
  tokens : qs ≡ x.0
  says : rec ≡ entry (component x.1)
  named : x.1.name ≡ name

found_one : (name : List ℕ) (qs : List Token) (rec : Record) (later : Found) (x : List Token × Component) → or_later (component_if name qs (component_of rec)) later ≡ Some x → IsFound name qs rec x ⊎ (later ≡ Some x)
found_one name qs (top t) later x e = inr e
found_one name qs (in_properties p) later x e = inr e
found_one name qs (end_section s) later x e = inr e
found_one name qs (entry (component c)) later x e = ⊎_elim
    (λ (is : bytes_eq c.name name ≡ true).
    let h = rw is at e in
    let here : List Token × Component = (qs, c) in
    let same = some_same here x h in
    inl (record {
      tokens = ap (λ (y : List Token × Component). y.0) same;
      says = ap (λ (y : List Token × Component). entry (component y.1)) same;
      named = ap (λ (y : List Token × Component). y.1.name) (sym same) ∙ (bytes_eq-Decides c.name name).0 is;
    }))
    (λ (other : bytes_eq c.name name ≡ false). inr (rw other at e))
    (cases (bytes_eq c.name name))
found_one name qs (entry (inl (inr other))) later x e = inr e
found_one name qs (entry (inr other)) later x e = inr e

abbrev Stands : List (List Token × Record) → List ℕ → List Token × Component → Type 0
Stands all name x = StandsAmong all x.0 (entry (component x.1)) × (x.1.name ≡ name)

stands_here : (name : List ℕ) (s : List Token × Record) (ss : List (List Token × Record)) (x : List Token × Component) → IsFound name s.0 s.1 x → Stands (s ∷ ss) name x
stands_here name s ss x found =
    let same : s ≡ (x.0, entry (component x.1)) = ap₂ (λ (qs : List Token) (rec : Record). (qs, rec)) found.tokens found.says in
    (record { first = []; others = ss; all_are = ap (λ (t : List Token × Record). t ∷ ss) same }, found.named)

stands_later : (name : List ℕ) (s : List Token × Record) (ss : List (List Token × Record)) (x : List Token × Component) → Stands ss name x → Stands (s ∷ ss) name x
stands_later name s ss x later =
    let st = later.0 in
    (record { first = s ∷ st.first; others = st.others; all_are = ap (λ (l : List (List Token × Record)). s ∷ l) st.all_are }, later.1)

found : (name : List ℕ) (all : List (List Token × Record)) (x : List Token × Component) → component_at name all ≡ Some x → Stands all name x
found name [] x e = absurd (cc)
found name (s ∷ ss) x e = ⊎_elim
    (λ (here : IsFound name s.0 s.1 x). stands_here name s ss x here)
    (λ (later : component_at name ss ≡ Some x). stands_later name s ss x (found name ss x later))
    (found_one name s.0 s.1 (component_at name ss) x e)

pub components_are_found : ComponentsAreFound
components_are_found all name ps c e = let x : List Token × Component = (ps, c) in found name all x e
