-- What the lines on one statement depend on, besides the statement and the library.
use Rattle.std.specs.Prelude.{◌≡◌, ℕ, Bool, false, not, ◌&&◌, List, [], Option, Some, None, filter, flat_map, map}
use Rattle.std.specs.List.{filter_map, list_any}
use Rattle.std.specs.Str.{bytes_eq}
use Rattle.def_grammar.specs.Nets.{is_net}
use Rattle.def_grammar.specs.NetWires.{net_wires}
use Rattle.def_grammar.specs.Records as records
use Rattle.def_grammar.specs.DefVias.{DefVia}
use Rattle.def_grammar.specs.Records.{Entry, Record, end_section, entry, entry_of, name_of, section_of, top}
use Rattle.def_grammar.specs.Parts.{is_some}
use Rattle.design_model.specs.declared.mode.Section.{Section}
use Rattle.design_model.specs.declared.mode.Section.TheVariants.{Components}
use Rattle.design_model.specs.EnumWords.{section_word}
use Rattle.def_grammar.specs.SpecialWires.{special_net_wires}
use Rattle.def_grammar.specs.Top.{header, row}
use Rattle.def_grammar.specs.Wiring.{SpecialVia, SpecialWire, Wire, WireVia, via_of_item}
use Rattle.entry_rules.specs.References.{Reference, entry_references, row_references, to_layer, to_macro, to_net, to_region, to_rule, to_site, to_terminal, to_via}
use Rattle.entry_rules.specs.Unknown.{Known, is_same}
use Rattle.entry_rules.specs.ViaLayers.{via_of_entry}

-- the names in a statement that are defined elsewhere
abbrev pub references_of : Record → List Reference
references_of (entry e) = entry_references e
references_of (top (row r)) = row_references r
references_of _ = []

abbrev pub vias_of_wire : Wire → List (List ℕ)
vias_of_wire w = filter_map (via_of_item (λ (v : WireVia). v)) w.path.items

abbrev pub vias_of_special_wire : SpecialWire → List (List ℕ)
vias_of_special_wire w = filter_map (via_of_item (λ (v : SpecialVia). v.via)) w.path.items

-- the vias in the wires of an entry
abbrev pub vias_of_entry : Entry → List (List ℕ)
vias_of_entry (records.net (is_net n)) = flat_map vias_of_wire (net_wires n)
vias_of_entry (records.special_net n) = flat_map vias_of_special_wire (special_net_wires n)
vias_of_entry _ = []

abbrev pub vias_of : Record → List (List ℕ)
vias_of (entry e) = vias_of_entry e
vias_of _ = []

-- the same is known of what a reference names
abbrev pub AgreeOn : Known → Known → Reference → Type 0
AgreeOn a b (to_macro name) = a.macro name ≡ b.macro name
AgreeOn a b (to_region name) = a.region name ≡ b.region name
AgreeOn a b (to_site name) = a.site name ≡ b.site name
AgreeOn a b (to_layer name) = a.layer name ≡ b.layer name
AgreeOn a b (to_via name) = a.via name ≡ b.via name
AgreeOn a b (to_rule name) = a.rule name ≡ b.rule name
AgreeOn a b (to_net name) = a.net name ≡ b.net name
AgreeOn a b (to_terminal owner pin) = (a.design_pin pin ≡ b.design_pin pin) × (a.component owner ≡ b.component owner) × (a.lacks owner pin ≡ b.lacks owner pin)

abbrev pub cell_of_entry : Entry → Option (List ℕ)
cell_of_entry (records.component c) = Some c.cell
cell_of_entry _ = None

abbrev pub rule_named_by : Entry → Option (List ℕ)
rule_named_by (records.rule r) = Some r.name
rule_named_by _ = None

-- what other statements can see of an entry: its section and its name, the macro of a component, the name of a rule, and all of a via
pub record Shown : Type 0 where
  pub section : Section
  pub name : Option (List ℕ)
  pub cell : Option (List ℕ)
  pub rule : Option (List ℕ)
  pub via : Option DefVia

abbrev pub shown : Entry → Shown
shown e = record { section = section_of e; name = name_of e; cell = cell_of_entry e; rule = rule_named_by e; via = via_of_entry e }

-- entries without a name are seen by none
abbrev pub is_named : Shown → Bool
is_named x = is_some x.name

abbrev pub all_shown : List Record → List Shown
all_shown design = filter is_named (map shown (filter_map entry_of design))

-- a reference names a component
abbrev pub names_component : List ℕ → Reference → Bool
names_component component (to_terminal owner _) = bytes_eq owner component
names_component _ _ = false

-- a statement does
abbrev pub refers_to : List ℕ → Record → Bool
refers_to component r = list_any (names_component component) (references_of r)

-- what others see of the components of a name
abbrev pub shows_component : List ℕ → Shown → Bool
shows_component component x = bytes_eq (section_word x.section) (section_word Components) && is_same component x.name

-- what they see of all entries but these
abbrev pub shown_but : List ℕ → List Record → List Shown
shown_but component design = filter (λ x. not (shows_component component x)) (all_shown design)

-- what a statement is to the number in a header: a header with its number, an entry, the end of a section, or nothing
pub data Outline : Type 0 where
  a_header : Section → List ℕ → Outline
  an_entry : Outline
  an_end : Outline
  nothing : Outline

abbrev pub outline_of : Record → Outline
outline_of (top (header s n)) = a_header s n
outline_of (entry e) = an_entry
outline_of (end_section s) = an_end
outline_of _ = nothing
