-- Worked rows of the definitions, by computing.
use Rattle.std.proofs.Common.{◌≡◌, List, ℕ, [], ◌∷◌, false, length, refl, codes, Some, None}
use Rattle.design_model.specs.declared.identifier.StmtId.{StmtId}
use Rattle.design_model.specs.declared.mode.Section.TheVariants.{Components, Fills, Nets, SpecialNets}
use Rattle.design_model.specs.EnumWords.{section_word}
use Rattle.def_grammar.specs.Nets.{is_net, must_join}
use Rattle.def_grammar.specs.Records.{Record, component, end_section, entry, net, skipped, special_net, top}
use Rattle.def_grammar.specs.Terminals.{Terminal}
use Rattle.def_grammar.specs.Top.{end_design, header, kept, properties, units}
use Rattle.design_tables.specs.Listings.{marks_under, unlisted, with_marks}
use Rattle.design_tables.specs.Lookups.{Finds, entries_of, is_end, is_header, is_named_entry, is_of, lists}
use Rattle.design_tables.specs.Marks.{marks_of}
use Rattle.design_tables.specs.Prepared.{keys_of}
use Rattle.design_tables.specs.declared.role.Role.TheVariants as roles

abbrev by : List ℕ → List ℕ → Terminal
by owner pin = record { owner = owner; pin = pin; is_synthesized = false }

abbrev inverter : List ℕ → Record
inverter name = entry (component (record { name = name; cell = codes "INV"; rest = []; clauses = [] }))

-- ( u1 Y ) ( PIN p ) ( * A ) ( VPIN v ) ( u1 A )
abbrev all_kinds : List Terminal
all_kinds = by (codes "u1") (codes "Y") ∷ by (codes "PIN") (codes "p") ∷ by (codes "*") (codes "A") ∷ by (codes "VPIN") (codes "v") ∷ by (codes "u1") (codes "A") ∷ []

abbrev wire : List ℕ → List Terminal → Record
wire name terminals = entry (net (is_net (record { name = name; terminals = terminals; clauses = [] })))

-- a net counts as an entry, stands under its name, and under each name that it lists, as often as it does
net_marks : marks_of (wire (codes "n1") all_kinds)
    ≡ (codes "n1", roles.Entry Nets) ∷ (codes "NETS", roles.Member) ∷ (codes "u1", roles.Component) ∷ (codes "p", roles.DesignPin) ∷ (codes "A", roles.StarPin) ∷ (codes "u1", roles.Component) ∷ []
unfolding section_word
net_marks = refl

special_net_marks : marks_of (entry (special_net (record { name = codes "VDD"; terminals = by (codes "*") (codes "VDD") ∷ []; clauses = [] })))
    ≡ (codes "VDD", roles.Entry SpecialNets) ∷ (codes "SPECIALNETS", roles.Member) ∷ (codes "VDD", roles.StarPin) ∷ []
unfolding section_word
special_net_marks = refl

-- entries without a name only count
nameless_marks : (marks_of (entry (net (must_join (codes "u1" ∷ codes "Y" ∷ [])))) ≡ (codes "NETS", roles.Member) ∷ []) × (marks_of (entry (skipped Fills (codes "x" ∷ []))) ≡ (codes "FILLS", roles.Member) ∷ [])
unfolding section_word
nameless_marks = (refl, refl)

-- headers, END, and what else stands once; the rest has no marks
statement_marks : (marks_of (top (header Nets (codes "2"))) ≡ (codes "NETS", roles.Statement) ∷ []) × (marks_of (end_section Nets) ≡ (codes "NETS", roles.SectionEnd) ∷ [])
    × (marks_of (top (units (codes "1000"))) ≡ (codes "UNITS", roles.Statement) ∷ []) × (marks_of (top properties) ≡ (codes "PROPERTYDEFINITIONS", roles.Statement) ∷ [])
    × (marks_of (top end_design) ≡ []) × (marks_of (top (kept (codes "VERSION") [])) ≡ [])
unfolding section_word
statement_marks = (refl, refl, refl, refl, refl, refl)

abbrev id : ℕ → StmtId
id n = record { 0 = n }

-- two components, a net that lists one of them twice, and one that lists none
abbrev text : List (StmtId × Record)
text =
    (id 7, top (units (codes "1000"))) ∷ (id 3, top (header Components (codes "2"))) ∷ (id 1, inverter (codes "u1")) ∷ (id 4, inverter (codes "NETS")) ∷ (id 9, end_section Components)
    ∷ (id 2, wire (codes "u1") all_kinds) ∷ (id 5, wire (codes "n2") []) ∷ []

-- all that has to do with u1; and the word of a section that is a component's name too
under_a_name : (marks_under (codes "u1") text
    ≡ record { role = roles.Entry Components; id = id 1 } ∷ record { role = roles.Entry Nets; id = id 2 } ∷ record { role = roles.Component; id = id 2 } ∷ record { role = roles.Component; id = id 2 } ∷ [])
    × ((with_marks (marks_under (codes "NETS") text) unlisted).marks ≡ record { role = roles.Entry Components; id = id 4 } ∷ []) × ((with_marks (marks_under (codes "NETS") text) unlisted).entries ≡ 2)
unfolding section_word
under_a_name = (refl, refl, refl)

found_by_name : Finds (is_named_entry Nets (codes "u1")) text (Some (id 2)) × Finds (is_named_entry Components (codes "n2")) text None × Finds (is_header Components) text (Some (id 3)) × Finds (is_header Nets) text None
    × Finds (is_end Components) text (Some (id 9)) × Finds (lists (is_of (codes "u1"))) text (Some (id 2)) × Finds (lists (is_of (codes "PIN"))) text None × (length (entries_of Components text) ≡ 2)
unfolding section_word
found_by_name = (refl, refl, refl, refl, refl, refl, refl, refl)

-- an entry's name is another key in each section
keys : keys_of text
    ≡ (codes "UNITS" ∷ []) ∷ (codes "COMPONENTS" ∷ []) ∷ (codes "COMPONENTS" ∷ codes "u1" ∷ []) ∷ (codes "COMPONENTS" ∷ codes "NETS" ∷ []) ∷ [] ∷ (codes "NETS" ∷ codes "u1" ∷ []) ∷ (codes "NETS" ∷ codes "n2" ∷ []) ∷ []
unfolding section_word
keys = refl
