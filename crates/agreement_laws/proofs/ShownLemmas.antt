-- What is known by a design is known by what its entries show.
use Rattle.std.proofs.Common.{◌≡◌, ℕ, Bool, true, false, ◌&&◌, ◌||◌, List, [], ◌∷◌, map, Option, Some, None, is_some, refl, ap, ◌∙◌, if◌then◌else◌}
use Rattle.std.specs.List.{cons_option, filter_map, list_any}
use Rattle.std.specs.Option.{option_map}
use Rattle.std.specs.Str.{bytes_eq}
use Rattle.form_meanings.specs.Words.{◌>>=◌}
use Rattle.design_model.specs.declared.mode.Section.{Section}
use Rattle.design_model.specs.EnumWords.{section_word}
use Rattle.def_grammar.specs.Components.{Component}
use Rattle.def_grammar.specs.Records as records
use Rattle.def_grammar.specs.Records.{Record, end_section, entry, entry_of, in_properties, top}
use Rattle.def_grammar.specs.Rules.{Rule}
use Rattle.lef_grammar.specs.Library.{Library, macro_named}
use Rattle.entry_rules.specs.Unknown.{component_named, is_same, stands_in}
use Rattle.entry_rules.specs.ViaLayers.{def_rule_named, def_vias}
use Rattle.agreement_laws.specs.Agreement.{Shown, shown}

-- what all entries show, those without a name too
abbrev pub every_shown : List Record → List Shown
every_shown design = map shown (filter_map entry_of design)

any_map : {X Y : Type 0} (f : X → Y) (test : Y → Bool) (xs : List X) → list_any (λ x. test (f x)) xs ≡ list_any test (map f xs)
any_map f test [] = refl
any_map f test (x ∷ xs) = ap (λ (b : Bool). test (f x) || b) (any_map f test xs)

abbrev pub is_shown_in : Section → List ℕ → Shown → Bool
is_shown_in s name x = bytes_eq (section_word x.section) (section_word s) && is_same name x.name

pub stands_shown : (design : List Record) (s : Section) (name : List ℕ) → stands_in design s name ≡ list_any (is_shown_in s name) (every_shown design)
stands_shown design s name = any_map shown (is_shown_in s name) (filter_map entry_of design)

-- vias
pub vias_shown : (design : List Record) → def_vias design ≡ filter_map (λ (x : Shown). x.via) (every_shown design)
vias_shown [] = refl
vias_shown (top t ∷ rest) = vias_shown rest
vias_shown (in_properties p ∷ rest) = vias_shown rest
vias_shown (end_section s ∷ rest) = vias_shown rest
vias_shown (entry e ∷ rest) = ap (cons_option (shown e).via) (vias_shown rest)

-- the first component of a name, by its macro
abbrev pub cell_step : List ℕ → Option (List ℕ) → Option (List ℕ) → Option (List ℕ) → Option (List ℕ)
cell_step name (Some own) (Some cell) later = if bytes_eq own name then Some cell else later
cell_step name (Some own) None later = later
cell_step name None cell later = later

abbrev pub cell_shown : List Shown → List ℕ → Option (List ℕ)
cell_shown [] name = None
cell_shown (x ∷ xs) name = cell_step name x.name x.cell (cell_shown xs name)

picked : (b : Bool) (c : Component) (o : Option Component) (q : Option (List ℕ)) → option_map (λ (x : Component). x.cell) o ≡ q
    → option_map (λ (x : Component). x.cell) (if b then Some c else o) ≡ (if b then Some c.cell else q)
picked true c o q h = refl
picked false c o q h = h

pub named_or_not : (name : List ℕ) (own q : Option (List ℕ)) → q ≡ cell_step name own None q
named_or_not name None q = refl
named_or_not name (Some own) q = refl

pub cells_shown : (design : List Record) (name : List ℕ) → option_map (λ (x : Component). x.cell) (component_named design name) ≡ cell_shown (every_shown design) name
cells_shown [] name = refl
cells_shown (top t ∷ rest) name = cells_shown rest name
cells_shown (in_properties p ∷ rest) name = cells_shown rest name
cells_shown (end_section s ∷ rest) name = cells_shown rest name
cells_shown (entry (records.component c) ∷ rest) name = picked (bytes_eq c.name name) c (component_named rest name) (cell_shown (every_shown rest) name) (cells_shown rest name)
cells_shown (entry (records.pin x) ∷ rest) name = cells_shown rest name
cells_shown (entry (records.region x) ∷ rest) name = cells_shown rest name
cells_shown (entry (records.group x) ∷ rest) name = cells_shown rest name
cells_shown (entry (records.blockage x) ∷ rest) name = cells_shown rest name
cells_shown (entry (records.net x) ∷ rest) name = cells_shown rest name ∙ named_or_not name (records.name_of (records.net x)) (cell_shown (every_shown rest) name)
cells_shown (entry (records.special_net x) ∷ rest) name = cells_shown rest name
cells_shown (entry (records.via x) ∷ rest) name = cells_shown rest name
cells_shown (entry (records.rule x) ∷ rest) name = cells_shown rest name
cells_shown (entry (records.skipped s x) ∷ rest) name = cells_shown rest name

pub macro_of_cell : (library : Library) (o : Option Component) → (o >>= λ (c : Component). macro_named library c.cell) ≡ (option_map (λ (x : Component). x.cell) o >>= macro_named library)
macro_of_cell library None = refl
macro_of_cell library (Some c) = refl

-- rules
abbrev pub rules_by : List ℕ → Shown → Bool
rules_by name x = is_same name x.rule

rule_step : (b : Bool) (r : Rule) (o : Option Rule) (q : Bool) → is_some o ≡ q → is_some (if b then Some r else o) ≡ (b || q)
rule_step true r o q h = refl
rule_step false r o q h = h

pub rules_shown : (design : List Record) (name : List ℕ) → is_some (def_rule_named design name) ≡ list_any (rules_by name) (every_shown design)
rules_shown [] name = refl
rules_shown (top t ∷ rest) name = rules_shown rest name
rules_shown (in_properties p ∷ rest) name = rules_shown rest name
rules_shown (end_section s ∷ rest) name = rules_shown rest name
rules_shown (entry (records.rule r) ∷ rest) name = rule_step (bytes_eq r.name name) r (def_rule_named rest name) (list_any (rules_by name) (every_shown rest)) (rules_shown rest name)
rules_shown (entry (records.component x) ∷ rest) name = rules_shown rest name
rules_shown (entry (records.pin x) ∷ rest) name = rules_shown rest name
rules_shown (entry (records.region x) ∷ rest) name = rules_shown rest name
rules_shown (entry (records.group x) ∷ rest) name = rules_shown rest name
rules_shown (entry (records.blockage x) ∷ rest) name = rules_shown rest name
rules_shown (entry (records.net x) ∷ rest) name = rules_shown rest name
rules_shown (entry (records.special_net x) ∷ rest) name = rules_shown rest name
rules_shown (entry (records.via x) ∷ rest) name = rules_shown rest name
rules_shown (entry (records.skipped s x) ∷ rest) name = rules_shown rest name
