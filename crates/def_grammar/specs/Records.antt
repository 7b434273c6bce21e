-- What the statements of a DEF text say, and the grammar of a text (LEF/DEF 5.8 Language Reference, "DEF Syntax").
use Rattle.std.specs.Option.{option_to_list}
use Rattle.std.specs.Prelude.{◌⊎◌, ℕ, Bool, true, false, ◌||◌, List, [], ◌∷◌, Option, Some, None, Result, codes, if◌then◌else◌}
use Rattle.std.proofs.Common.{inl, inr}
use Rattle.design_model.specs.declared.fault.Fault.{Fault}
use Rattle.design_model.specs.declared.fault.FaultCode.{FaultCode}
use Rattle.design_model.specs.declared.fault.FaultCode.TheVariants.{NoUnits}
use Rattle.design_model.specs.declared.mode.Mode.{Mode}
use Rattle.design_model.specs.declared.mode.Mode.TheVariants.{Top, In, Props, After}
use Rattle.design_model.specs.declared.mode.Section.{Section}
use Rattle.design_model.specs.declared.mode.Section.TheVariants.{Components, Pins, Regions, Groups, Blockages, Nets, SpecialNets, Vias, NonDefaultRules}
use Rattle.design_model.specs.EnumWords.{section_word}
use Rattle.form_meanings.specs.Words.{is_word, is_semicolon}
use Rattle.statement_model.specs.Boundaries.{Ending, alone, with_next, up_to}
use Rattle.statement_model.specs.Form.{Form, one_of, no_form, left, right, alt, given, ◌▸◌, ◌⨟◌}
use Rattle.statement_model.specs.Grammar.{Key, Grammar}
use Rattle.statement_model.specs.Reading.{is_among, read_text}
use Rattle.def_grammar.specs.Top.{TopRecord, units, header, plain, properties, end_design, once, top_statement}
use Rattle.def_grammar.specs.Blockages.{BlockageEntry, blockage_form}
use Rattle.def_grammar.specs.Components.{Component, component_form}
use Rattle.def_grammar.specs.DefVias.{DefVia, def_via_form}
use Rattle.def_grammar.specs.Groups.{Group, group_form}
use Rattle.def_grammar.specs.Nets.{NetEntry, net_form, net_name}
use Rattle.def_grammar.specs.Pins.{Pin, pin_form}
use Rattle.def_grammar.specs.Properties.{PropertyRecord, end_properties, property_statement}
use Rattle.def_grammar.specs.Regions.{Region, region_form}
use Rattle.def_grammar.specs.Rules.{Rule, rule_form}
use Rattle.def_grammar.specs.Skipped.{skipped_form}
use Rattle.def_grammar.specs.SpecialNets.{SpecialNet, special_net_form}

-- an entry about places: a component, a pin, a region, a group, or a blockage
abbrev pub PlaceEntry : Type 0
PlaceEntry = Component ⊎ (Pin ⊎ (Region ⊎ (Group ⊎ BlockageEntry)))

-- an entry about wires: a net, a special net, a via, or a rule
abbrev pub WireEntry : Type 0
WireEntry = NetEntry ⊎ (SpecialNet ⊎ (DefVia ⊎ Rule))

-- an entry of a section; of those whose entries mean nothing, its section and its tokens
abbrev pub Entry : Type 0
Entry = PlaceEntry ⊎ (WireEntry ⊎ (Section × List (List ℕ)))

pattern abbrev pub component : Component → Entry
component c = inl (inl c)

pattern abbrev pub pin : Pin → Entry
pin p = inl (inr (inl p))

pattern abbrev pub region : Region → Entry
region r = inl (inr (inr (inl r)))

pattern abbrev pub group : Group → Entry
group g = inl (inr (inr (inr (inl g))))

pattern abbrev pub blockage : BlockageEntry → Entry
blockage b = inl (inr (inr (inr (inr b))))

pattern abbrev pub net : NetEntry → Entry
net n = inr (inl (inl n))

pattern abbrev pub special_net : SpecialNet → Entry
special_net n = inr (inl (inr (inl n)))

pattern abbrev pub via : DefVia → Entry
via v = inr (inl (inr (inr (inl v))))

pattern abbrev pub rule : Rule → Entry
rule r = inr (inl (inr (inr (inr r))))

pattern abbrev pub skipped : Section → List (List ℕ) → Entry
skipped s tokens = inr (inr (s, tokens))

-- its section
abbrev pub section_of : Entry → Section
section_of (component c) = Components
section_of (pin p) = Pins
section_of (region r) = Regions
section_of (group g) = Groups
section_of (blockage b) = Blockages
section_of (net n) = Nets
section_of (special_net n) = SpecialNets
section_of (via v) = Vias
section_of (rule r) = NonDefaultRules
section_of (skipped s tokens) = s

-- its name, which its section has once
abbrev pub name_of : Entry → Option (List ℕ)
name_of (component c) = Some c.name
name_of (pin p) = Some p.name
name_of (region r) = Some r.name
name_of (group g) = Some g.name
name_of (blockage b) = None
name_of (net n) = net_name n
name_of (special_net n) = Some n.name
name_of (via v) = Some v.name
name_of (rule r) = Some r.name
name_of (skipped s tokens) = None

-- what a statement says: one outside of all sections, one among property definitions, the END of a section, or an entry
abbrev pub Record : Type 0
Record = TopRecord ⊎ (PropertyRecord ⊎ (Section ⊎ Entry))

pattern abbrev pub top : TopRecord → Record
top t = inl t

pattern abbrev pub in_properties : PropertyRecord → Record
in_properties p = inr (inl p)

pattern abbrev pub end_section : Section → Record
end_section s = inr (inr (inl s))

pattern abbrev pub entry : Entry → Record
entry e = inr (inr (inr e))

abbrev pub entry_of : Record → Option Entry
entry_of (entry e) = Some e
entry_of _ = None

abbrev pub component_of : Record → Option Component
component_of (entry (component c)) = Some c
component_of _ = None

-- database units per micron, where a record says them
abbrev pub units_of : Record → Option (List ℕ)
units_of (top (units n)) = Some n
units_of _ = None

-- the entries of a section whose entries mean nothing
abbrev pub skipped_entries : Section → Form Entry
skipped_entries s = right (right (given s ⨟ skipped_form))

-- the entries of a section
unfoldable pub entries_form : Section → Form Entry
entries_form Components = left (left component_form)
entries_form Pins = left (right (left pin_form))
entries_form Regions = left (right (right (left region_form)))
entries_form Groups = left (right (right (right (left group_form))))
entries_form Blockages = left (right (right (right (right blockage_form))))
entries_form Nets = right (left (left net_form))
entries_form SpecialNets = right (left (right (left special_net_form)))
entries_form Vias = right (left (right (right (left def_via_form))))
entries_form NonDefaultRules = right (left (right (right (right rule_form))))
entries_form s = skipped_entries s

-- END S
abbrev pub end_form : Section → Form Section
end_form s = codes "END" ▸ one_of section_word (s ∷ [])

-- what stands in a section
abbrev pub in_section : Section → Form (Section ⊎ Entry)
in_section s = alt (is_word (codes "END")) (end_form s) (entries_form s)

-- what stands where
unfoldable pub statement : Mode → Form Record
statement Top = left top_statement
statement Props = right (left property_statement)
statement (In s) = right (right (in_section s))
statement After = no_form

-- PROPERTYDEFINITIONS and ; stand alone, END takes one more token, BEGINEXT runs to ENDEXT, and any other statement to
-- the first ;
abbrev pub def_ending : List ℕ → Ending
def_ending w =
    if is_word (codes "PROPERTYDEFINITIONS") w || is_semicolon w then alone
    else (if is_word (codes "END") w then with_next
    else (if is_word (codes "BEGINEXT") w then up_to (codes "ENDEXT")
    else up_to (codes ";")))

abbrev pub mode_after : Mode → Record → Mode
mode_after m (top (header s n)) = In s
mode_after m (top properties) = Props
mode_after m (top end_design) = After
mode_after m (in_properties end_properties) = Top
mode_after m (end_section s) = Top
mode_after m _ = m

abbrev pub is_after : Mode → Bool
is_after After = true
is_after _ = false

abbrev pub entry_key : Section → Option (List ℕ) → Key
entry_key s (Some name) = section_word s ∷ name ∷ []
entry_key s None = []

-- what of a record a text has once: UNITS, DIEAREA, each section, and each name in its section
abbrev pub key_of : Record → Key
key_of (top (header s n)) = section_word s ∷ []
key_of (top (plain p)) = option_to_list (once (plain p))
key_of (entry e) = entry_key (section_of e) (name_of e)
key_of _ = []

abbrev pub without_units : List Key → Option FaultCode
without_units seen = if is_among seen (codes "UNITS" ∷ []) then None else Some NoUnits

-- DEF
abbrev pub def : Grammar Mode Record
def = record { ending = λ m. def_ending; form = statement; after = mode_after; may_end = is_after; key = key_of; lacks = without_units }

-- the records of a DEF text, or its fault
abbrev pub read_def : List ℕ → Result (List Record) Fault
read_def text = read_text def Top text
