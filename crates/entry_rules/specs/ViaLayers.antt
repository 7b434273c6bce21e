-- The vias and rules that a name means, and the layers that a via joins (LEF/DEF 5.8 Language Reference, "Vias"). A name is
-- looked up in DEF first, and then in LEF.
use Rattle.std.specs.Prelude.{ℕ, Bool, true, false, ◌||◌, List, [], ◌∷◌, filter, flat_map, map, Option, Some, None, if◌then◌else◌}
use Rattle.std.specs.List.{filter_map}
use Rattle.std.specs.Option.{option_map}
use Rattle.form_meanings.specs.Words.{◌>>=◌}
use Rattle.form_meanings.specs.Firsts.{find_named, first_of, with_all}
use Rattle.lef_grammar.specs.Definitions as lef
use Rattle.lef_grammar.specs.Library.{Library, layer_named, via_named, rule_named}
use Rattle.def_grammar.specs.DefVias.{DefVia, ViaClause, via_rule}
use Rattle.def_grammar.specs.Rules.{Rule}
use Rattle.def_grammar.specs.Records as records
use Rattle.def_grammar.specs.Records.{Record, Entry, entry_of}
use Rattle.entry_rules.specs.References.{shape_layers, listed_layers}

abbrev pub via_of_entry : Entry → Option DefVia
via_of_entry (records.via v) = Some v
via_of_entry _ = None

abbrev pub def_vias : List Record → List DefVia
def_vias design = filter_map (λ r. entry_of r >>= via_of_entry) design

abbrev pub rule_of_entry : Entry → Option Rule
rule_of_entry (records.rule r) = Some r
rule_of_entry _ = None

abbrev pub def_rules : List Record → List Rule
def_rules design = filter_map (λ r. entry_of r >>= rule_of_entry) design

abbrev pub def_via_named : List Record → List ℕ → Option DefVia
def_via_named design name = find_named (λ (v : DefVia). v.name) (def_vias design) name

abbrev pub def_rule_named : List Record → List ℕ → Option Rule
def_rule_named design name = find_named (λ (r : Rule). r.name) (def_rules design) name

abbrev pub rule_of_via : ViaClause → Option (List ℕ)
rule_of_via (via_rule name) = Some name
rule_of_via _ = None

abbrev pub by_rule : {A : Type 0} → Option (List ℕ) → A → A → A
by_rule None listed generated = listed
by_rule (Some rule) listed generated = generated

-- the layers that a via of DEF names: those of its LAYERS where a VIARULE generates it, else those of its rectangles and
-- polygons
abbrev pub def_via_layers : DefVia → List (List ℕ)
def_via_layers v = by_rule (first_of rule_of_via v.clauses) (shape_layers v) (listed_layers v)

abbrev pub three_layers : Option (List ℕ × (List ℕ × List ℕ)) → List (List ℕ)
three_layers None = []
three_layers (Some l) = l.0 ∷ l.1.0 ∷ l.1.1 ∷ []

-- the layers that a via of LEF names
abbrev pub body_layers : lef.ViaBody → List (List ℕ)
body_layers (lef.listed shapes) = map (λ (s : lef.LayerShapes). s.layer) shapes
body_layers (lef.generated v) = three_layers v.layers

abbrev pub is_routing : lef.LayerKind → Bool
is_routing lef.routing = true
is_routing lef.cut = false
is_routing lef.other = false

abbrev pub has_routing : Option lef.Layer → Bool
has_routing None = false
has_routing (Some l) = is_routing l.kind

abbrev pub or_lef : {A : Type 0} → Option A → Option A → Option A
or_lef (Some a) b = Some a
or_lef None b = b

-- the layers that a via names, where it is known
abbrev pub layers_named : Library → List Record → List ℕ → Option (List (List ℕ))
layers_named library design name =
    or_lef (option_map def_via_layers (def_via_named design name)) (option_map (λ (v : lef.Via). body_layers v.body) (via_named library name))

-- those of TYPE ROUTING, each once
abbrev pub routing_layers : Library → List (List ℕ) → List (List ℕ)
routing_layers library names = with_all (λ name. name) [] (filter (λ name. has_routing (layer_named library name)) names)

-- the ROUTING layers of a via, where it is known
abbrev pub via_layers : Library → List Record → List ℕ → Option (List (List ℕ))
via_layers library design name = option_map (routing_layers library) (layers_named library design name)
