-- Entries by names, and what they are in their sections.
use Rattle.std.proofs.Common.{◌≡◌, ℕ, Bool, true, false, cond, ◌&&◌, ◌||◌, List, [], ◌∷◌, refl, sym, ap, ◌∙◌, Bor, Option, Some, None, is_some, if◌then◌else◌}
use Rattle.std.specs.List.{cons_option, filter_map, find, list_any}
use Rattle.std.specs.Option.{option_map}
use Rattle.std.specs.Str.{bytes_eq}
use Rattle.form_meanings.specs.Words.{◌>>=◌}
use Rattle.design_model.specs.declared.mode.Section.{Section}
use Rattle.design_model.specs.declared.mode.Section.TheVariants.{Components, NonDefaultRules, Vias}
use Rattle.design_model.specs.EnumWords.{section_word}
use Rattle.form_meanings.specs.Firsts.{find_named}
use Rattle.def_grammar.specs.Components.{Component}
use Rattle.def_grammar.specs.DefVias.{DefVia}
use Rattle.def_grammar.specs.Rules.{Rule}
use Rattle.def_grammar.specs.Records.{Record, Entry, top, in_properties, end_section, entry, component, pin, region, group, blockage, net, special_net, via, rule, skipped, component_of, entry_of}
use Rattle.entry_rules.specs.EntryNames.{entry_named}
use Rattle.entry_rules.specs.Unknown.{component_named, is_in, stands_in}
use Rattle.entry_rules.specs.ViaLayers.{def_rule_named, def_via_named, rule_of_entry, via_of_entry}
use Rattle.place_parts.specs.declared.component_parts.ComponentParts.{ComponentParts}
use Rattle.def_reader.specs.StatementViews.{record_view}
use Rattle.def_reader.specs.declared.entry.Entry.{Entry as EntryParts}
use Rattle.def_reader.specs.declared.statement.Statement.{Statement}
use Rattle.def_reader.specs.declared.statement.Statement.TheVariants as variants
use Rattle.design_names.specs.NameViews.{component_of_entry, lent_component}

any_step : {A : Type 0} (b : Bool) (a : A) (r : Bool) (q : Option A) → r ≡ is_some q → (b || r) ≡ is_some (cond b (Some a) q)
any_step true a r q h = refl
any_step false a r q h = h

-- one passes a test where there is a first that does
any_found : {A : Type 0} (test : A → Bool) (all : List A) → list_any test all ≡ is_some (find test all)
any_found test [] = refl
any_found test (a ∷ all) = any_step (test a) a (list_any test all) (find test all) (any_found test all)

pub stands_where_named : (design : List Record) (s : Section) (name : List ℕ) → stands_in design s name ≡ is_some (entry_named design s name)
stands_where_named design s name = any_found (is_in s name) (filter_map entry_of design)

and_false : (b : Bool) → (b && false) ≡ false
and_false true = refl
and_false false = refl

-- of a component, a via or a rule, as its section has them
abbrev is_picked : {X : Type 0} → (X → List ℕ) → List ℕ → Option X → Bool
is_picked name_in name None = false
is_picked name_in name (Some x) = bytes_eq (name_in x) name

module _ {X : Type 0} (s : Section) (pick : Entry → Option X) (name_in : X → List ℕ) (agrees : (e : Entry) (name : List ℕ) → is_in s name e ≡ is_picked name_in name (pick e)) where
  chosen : (name : List ℕ) (b test : Bool) (e : Entry) (x : X) (xs : List X) (later : Option Entry) → test ≡ b → pick e ≡ Some x → find_named name_in xs name ≡ (later >>= pick)
      → (if b then Some x else find_named name_in xs name) ≡ (cond test (Some e) later >>= pick)
  chosen name true test e x xs later is one h = rw is (sym one)
  chosen name false test e x xs later is one h = rw is h

  first_picked : (name : List ℕ) (e : Entry) (o : Option X) (test : Bool) (xs : List X) (later : Option Entry) → test ≡ is_picked name_in name o → pick e ≡ o → find_named name_in xs name ≡ (later >>= pick)
      → find_named name_in (cons_option o xs) name ≡ (cond test (Some e) later >>= pick)
  first_picked name e None test xs later is one h = rw is h
  first_picked name e (Some x) test xs later is one h = chosen name (bytes_eq (name_in x) name) test e x xs later is one h

  picked : (name : List ℕ) (design : List Record) → find_named name_in (filter_map (λ r. entry_of r >>= pick) design) name ≡ (entry_named design s name >>= pick)
  picked name [] = refl
  picked name (top t ∷ rest) = picked name rest
  picked name (in_properties p ∷ rest) = picked name rest
  picked name (end_section t ∷ rest) = picked name rest
  picked name (entry e ∷ rest) = first_picked name e (pick e) (is_in s name e) (filter_map (λ r. entry_of r >>= pick) rest) (entry_named rest s name) (agrees e name) refl (picked name rest)

  any_chosen : (name : List ℕ) (b test : Bool) (x : X) (xs : List X) (later : Bool) → test ≡ b → is_some (find_named name_in xs name) ≡ later
      → is_some (if b then Some x else find_named name_in xs name) ≡ (test || later)
  any_chosen name true test x xs later is h = rw is refl
  any_chosen name false test x xs later is h = rw is h

  any_picked : (name : List ℕ) (o : Option X) (test : Bool) (xs : List X) (later : Bool) → test ≡ is_picked name_in name o → is_some (find_named name_in xs name) ≡ later
      → is_some (find_named name_in (cons_option o xs) name) ≡ (test || later)
  any_picked name None test xs later is h = rw is h
  any_picked name (Some x) test xs later is h = any_chosen name (bytes_eq (name_in x) name) test x xs later is h

  stands : (name : List ℕ) (design : List Record) → is_some (find_named name_in (filter_map (λ r. entry_of r >>= pick) design) name) ≡ stands_in design s name
  stands name [] = refl
  stands name (top t ∷ rest) = stands name rest
  stands name (in_properties p ∷ rest) = stands name rest
  stands name (end_section t ∷ rest) = stands name rest
  stands name (entry e ∷ rest) = any_picked name (pick e) (is_in s name e) (filter_map (λ r. entry_of r >>= pick) rest) (stands_in rest s name) (agrees e name) (stands name rest)

component_agrees : (e : Entry) (name : List ℕ) → is_in Components name e ≡ is_picked (λ (c : Component). c.name) name (component_of_entry e)
unfolding section_word
component_agrees (component c) name = refl
component_agrees (pin p) name = refl
component_agrees (region r) name = refl
component_agrees (group g) name = refl
component_agrees (blockage b) name = refl
component_agrees (net n) name = refl
component_agrees (special_net n) name = refl
component_agrees (via v) name = refl
component_agrees (rule r) name = refl
component_agrees (skipped s tokens) name = and_false _

via_agrees : (e : Entry) (name : List ℕ) → is_in Vias name e ≡ is_picked (λ (v : DefVia). v.name) name (via_of_entry e)
unfolding section_word
via_agrees (component c) name = refl
via_agrees (pin p) name = refl
via_agrees (region r) name = refl
via_agrees (group g) name = refl
via_agrees (blockage b) name = refl
via_agrees (net n) name = refl
via_agrees (special_net n) name = refl
via_agrees (via v) name = refl
via_agrees (rule r) name = refl
via_agrees (skipped s tokens) name = and_false _

rule_agrees : (e : Entry) (name : List ℕ) → is_in NonDefaultRules name e ≡ is_picked (λ (r : Rule). r.name) name (rule_of_entry e)
unfolding section_word
rule_agrees (component c) name = refl
rule_agrees (pin p) name = refl
rule_agrees (region r) name = refl
rule_agrees (group g) name = refl
rule_agrees (blockage b) name = refl
rule_agrees (net n) name = refl
rule_agrees (special_net n) name = refl
rule_agrees (via v) name = refl
rule_agrees (rule r) name = refl
rule_agrees (skipped s tokens) name = and_false _

pub via_picked : (design : List Record) (name : List ℕ) → def_via_named design name ≡ (entry_named design Vias name >>= via_of_entry)
via_picked design name = picked Vias via_of_entry (λ (v : DefVia). v.name) via_agrees name design

pub rule_picked : (design : List Record) (name : List ℕ) → def_rule_named design name ≡ (entry_named design NonDefaultRules name >>= rule_of_entry)
rule_picked design name = picked NonDefaultRules rule_of_entry (λ (r : Rule). r.name) rule_agrees name design

component_is : (r : Record) → component_of r ≡ (entry_of r >>= component_of_entry)
component_is (top t) = refl
component_is (in_properties p) = refl
component_is (end_section s) = refl
component_is (entry (component c)) = refl
component_is (entry (pin p)) = refl
component_is (entry (region r)) = refl
component_is (entry (group g)) = refl
component_is (entry (blockage b)) = refl
component_is (entry (net n)) = refl
component_is (entry (special_net n)) = refl
component_is (entry (via v)) = refl
component_is (entry (rule r)) = refl
component_is (entry (skipped s tokens)) = refl

components_are : (design : List Record) → filter_map component_of design ≡ filter_map (λ r. entry_of r >>= component_of_entry) design
components_are [] = refl
components_are (r ∷ rest) = rw (component_is r, components_are rest) refl

pub component_picked : (design : List Record) (name : List ℕ) → component_named design name ≡ (entry_named design Components name >>= component_of_entry)
component_picked design name =
    ap (λ (cs : List Component). find_named (λ (c : Component). c.name) cs name) (components_are design)
    ∙ picked Components component_of_entry (λ (c : Component). c.name) component_agrees name design

pub component_stands : (design : List Record) (name : List ℕ) → is_some (component_named design name) ≡ stands_in design Components name
component_stands design name =
    ap (λ (cs : List Component). is_some (find_named (λ (c : Component). c.name) cs name)) (components_are design)
    ∙ stands Components component_of_entry (λ (c : Component). c.name) component_agrees name design

seen_or_not : {A B : Type 0} (view : A → B) (o : Option A) → is_some o ≡ is_some (option_map view o)
seen_or_not view None = refl
seen_or_not view (Some a) = refl

pub component_there : (design : List Record) (name : List ℕ) (found : Option (Bor ComponentParts)) → option_map lent_component found ≡ component_named design name → is_some found ≡ stands_in design Components name
component_there design name found is = seen_or_not lent_component found ∙ ap (λ (o : Option Component). is_some o) is ∙ component_stands design name

-- a statement that is no entry says none
pub says_none : (s : Statement) → ((e : EntryParts) → s ≡ variants.Entry e → ⊥) → entry_of (record_view s) ≡ None
says_none (variants.Units n) none = refl
says_none variants.EndDesign none = refl
says_none variants.Properties none = refl
says_none (variants.Extension tokens) none = refl
says_none (variants.Floor f) none = refl
says_none (variants.Header s n) none = refl
says_none (variants.Kept w others) none = refl
says_none (variants.EndSection s) none = refl
says_none (variants.Property p) none = refl
says_none (variants.Entry e) none = absurd (none e refl)
