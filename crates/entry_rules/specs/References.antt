-- The names in an entry, or a row, that are defined elsewhere, in the order of the text (own). What is kept without meaning
-- refers to nothing, nor does a later clause that doesn't count.
use Rattle.std.specs.Prelude.{ℕ, ◌||◌, List, [], ◌∷◌, ◌++◌, map, flat_map, Option, Some, None, if◌then◌else◌}
use Rattle.std.specs.List.{filter_map}
use Rattle.std.specs.Option.{option_map, option_to_list}
use Rattle.form_meanings.specs.Firsts.{first_of, with_all}
use Rattle.def_grammar.specs.Components.{Component, region_of_clause}
use Rattle.def_grammar.specs.Pins.{Pin, PinClause, pin_has_rectangle, pin_has_via, pin_has_polygon, net_of_clause}
use Rattle.def_grammar.specs.Groups.{Group, region_named}
use Rattle.def_grammar.specs.Blockages.{BlockageKind, blocks_layer, blocks_placement, BlockageEntry, blocks, blockage_kept}
use Rattle.def_grammar.specs.DefVias.{DefVia, ViaLayers, layers_of_clause, layer_of_shape}
use Rattle.def_grammar.specs.Rules.{Rule, RuleLayer, layer_of_rule}
use Rattle.def_grammar.specs.Terminals.{Terminal, is_of_all, is_virtual}
use Rattle.def_grammar.specs.Nets.{NetEntry, must_join, is_net, rule_of_clause}
use Rattle.def_grammar.specs.NetWires.{net_wires}
use Rattle.def_grammar.specs.SpecialNets.{SpecialNet, SpecialClause, special_rectangle, special_vias, special_polygon, special_has_wiring}
use Rattle.def_grammar.specs.Wiring.{PathItem, WireVia, SpecialVia, Taper, tapered_by, Wire, SpecialWire, SpecialWiring, SpecialWiringKind, shields, via_of_item}
use Rattle.def_grammar.specs.Rows.{Row}
use Rattle.def_grammar.specs.Records as records
use Rattle.def_grammar.specs.Records.{Entry}

-- a name, by what it should be the name of; a terminal by its owner and its pin
pub data Reference : Type 0 where
  to_macro : List ℕ → Reference
  to_region : List ℕ → Reference
  to_site : List ℕ → Reference
  to_layer : List ℕ → Reference
  to_via : List ℕ → Reference
  to_rule : List ℕ → Reference
  to_net : List ℕ → Reference
  to_terminal : List ℕ → List ℕ → Reference

-- the first that is found, as a reference
abbrev pub first_to : {A : Type 0} → (List ℕ → Reference) → (A → Option (List ℕ)) → List A → List Reference
first_to to name_of all = option_to_list (option_map to (first_of name_of all))

-- a component: its macro and its first REGION
abbrev pub component_references : Component → List Reference
component_references c = to_macro c.cell ∷ first_to to_region region_of_clause c.clauses

abbrev pub shape_references : PinClause → List Reference
shape_references (pin_has_rectangle r) = to_layer r.layer ∷ []
shape_references (pin_has_via v) = to_via v.name ∷ []
shape_references (pin_has_polygon layer rest) = to_layer layer ∷ []
shape_references _ = []

-- a pin: its first NET, and the layers and vias of its shapes
abbrev pub pin_references : Pin → List Reference
pin_references p = first_to to_net net_of_clause p.clauses ++ flat_map shape_references p.clauses

-- a group: its first REGION of one name
abbrev pub group_references : Group → List Reference
group_references g = first_to to_region region_named g.clauses

abbrev pub kind_references : BlockageKind → List Reference
kind_references (blocks_layer name) = to_layer name ∷ []
kind_references blocks_placement = []

-- a blockage: the layer that it blocks
abbrev pub blockage_references : BlockageEntry → List Reference
blockage_references (blocks b) = kind_references b.kind
blockage_references (blockage_kept tokens) = []

abbrev pub names_of_layers : Option ViaLayers → List (List ℕ)
names_of_layers None = []
names_of_layers (Some l) = l.bottom ∷ l.cut ∷ l.top ∷ []

-- the layers that the first LAYERS of a via names
abbrev pub listed_layers : DefVia → List (List ℕ)
listed_layers v = names_of_layers (first_of layers_of_clause v.clauses)

-- the layers of its rectangles and polygons
abbrev pub shape_layers : DefVia → List (List ℕ)
shape_layers v = filter_map layer_of_shape v.clauses

-- a via: these layers, whether it is generated or not
abbrev pub via_references : DefVia → List Reference
via_references v = map to_layer (shape_layers v ++ listed_layers v)

-- the LAYER clauses of a rule that count: the first of each layer
abbrev pub rule_layers : Rule → List RuleLayer
rule_layers r = with_all (λ (l : RuleLayer). l.layer) [] (filter_map layer_of_rule r.clauses)

abbrev pub rule_references : Rule → List Reference
rule_references r = map (λ (l : RuleLayer). to_layer l.layer) (rule_layers r)

-- a terminal: a pin of a component or of the design. A virtual pin is none, and * stands for no certain one.
abbrev pub terminal_references : Terminal → List Reference
terminal_references t = if is_of_all t || is_virtual t then [] else to_terminal t.owner t.pin ∷ []

-- the vias that items of a path name
abbrev pub item_references : {Via : Type 0} → (Via → WireVia) → List (PathItem Via) → List Reference
item_references via_of items = map to_via (filter_map (via_of_item via_of) items)

abbrev pub taper_references : Taper → List Reference
taper_references (tapered_by name) = to_rule name ∷ []
taper_references _ = []

-- a wire: its layer, its rule, and its vias
abbrev pub wire_references : Wire → List Reference
wire_references w = to_layer w.layer ∷ taper_references w.taper ++ item_references (λ v. v) w.path.items

abbrev pub special_wire_references : SpecialWire → List Reference
special_wire_references w = to_layer w.layer ∷ item_references (λ (v : SpecialVia). v.via) w.path.items

-- a net: its terminals, its first NONDEFAULTRULE, and what its wires name
abbrev pub net_references : NetEntry → List Reference
net_references (must_join tokens) = []
net_references (is_net n) = flat_map terminal_references n.terminals ++ first_to to_rule rule_of_clause n.clauses ++ flat_map wire_references (net_wires n)

-- the net that is shielded
abbrev pub shield_references : SpecialWiringKind → List Reference
shield_references (shields net) = to_net net ∷ []
shield_references _ = []

abbrev pub special_wiring_references : SpecialWiring → List Reference
special_wiring_references w = shield_references w.kind ++ flat_map special_wire_references w.wires

abbrev pub special_clause_references : SpecialClause → List Reference
special_clause_references (special_rectangle layer corners) = to_layer layer ∷ []
special_clause_references (special_vias v) = to_via v.via.name ∷ []
special_clause_references (special_polygon layer polygon) = to_layer layer ∷ []
special_clause_references (special_has_wiring w) = special_wiring_references w
special_clause_references _ = []

-- a special net: its terminals, and what its shapes and wires name
abbrev pub special_net_references : SpecialNet → List Reference
special_net_references n = flat_map terminal_references n.terminals ++ flat_map special_clause_references n.clauses

-- a row: its site
abbrev pub row_references : Row → List Reference
row_references r = to_site r.site ∷ []

-- an entry
abbrev pub entry_references : Entry → List Reference
entry_references (records.component c) = component_references c
entry_references (records.pin p) = pin_references p
entry_references (records.region r) = []
entry_references (records.group g) = group_references g
entry_references (records.blockage b) = blockage_references b
entry_references (records.net n) = net_references n
entry_references (records.special_net n) = special_net_references n
entry_references (records.via v) = via_references v
entry_references (records.rule r) = rule_references r
entry_references (records.skipped s tokens) = []
