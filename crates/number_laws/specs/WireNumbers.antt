-- What the numbers of the entries of NETS, SPECIALNETS, VIAS and NONDEFAULTRULES pass, by the tests of their forms.
use Rattle.std.specs.Prelude.{◌≡◌, true, IfSome}
use Rattle.std.specs.List.{All}
use Rattle.def_grammar.specs.Limits.{is_size, is_copies, is_array, is_cuts}
use Rattle.def_grammar.specs.Numbers.{is_int}
use Rattle.def_grammar.specs.Points.{Corners}
use Rattle.def_grammar.specs.DefVias.{ByLayer, CutArray, ViaClause, via_has_rectangle, via_has_polygon, via_rule, cut_size, on_layers, cut_spacing, enclosure, row_col, via_origin, via_offset, via_kept, DefVia}
use Rattle.def_grammar.specs.Nets.{NetClause, net_subnet, net_use, net_rule, net_wiring, net_kept, Net, NetEntry, must_join, is_net}
use Rattle.def_grammar.specs.Rules.{RuleClause, rule_has_layer, rule_kept, Rule}
use Rattle.def_grammar.specs.SpecialNets.{PlacedVia, SpecialClause, special_subnet, special_use, special_shape_word, special_mask, special_rectangle, special_vias, special_polygon, special_has_wiring, special_kept, SpecialNet}
use Rattle.def_grammar.specs.Wiring.{WirePoint, WireVia, ViaArray, SpecialVia, PathItem, path_mask, path_virtual, path_rectangle, path_point, path_via, Path, Wire, WireMark, wire_shape, wire_style, wire_mask, SpecialWire, Wiring, SpecialWiring}
use Rattle.number_laws.specs.PartNumbers.{Passes, BothPass, PointNumbers, LaterPointNumbers, PointsNumbers, CornersNumbers, PolygonNumbers}

-- the point that a path begins with
abbrev pub StartNumbers : WirePoint → Type 0
StartNumbers p = PointNumbers p.at × IfSome p.extension (Passes is_size)

abbrev pub WirePointNumbers : WirePoint → Type 0
WirePointNumbers p = LaterPointNumbers p.at × IfSome p.extension (Passes is_size)

-- a rectangle about the last point of a path
abbrev pub PatchNumbers : Corners → Type 0
PatchNumbers c = PointNumbers c.first × PointNumbers c.second

abbrev pub ViaArrayNumbers : ViaArray → Type 0
ViaArrayNumbers a = Passes is_copies a.columns × Passes is_copies a.rows × (is_array a.columns a.rows ≡ true) × PointNumbers a.step

-- a via of NETS has none
abbrev pub NetViaNumbers : WireVia → Type 0
NetViaNumbers v = Unit {0}

abbrev pub SpecialViaNumbers : SpecialVia → Type 0
SpecialViaNumbers v = IfSome v.array ViaArrayNumbers

abbrev pub ItemNumbers : {Via : Type 0} → (Via → Type 0) → PathItem Via → Type 0
ItemNumbers ViaNumbers (path_mask word) = Unit {0}
ItemNumbers ViaNumbers (path_virtual at) = LaterPointNumbers at
ItemNumbers ViaNumbers (path_rectangle corners) = PatchNumbers corners
ItemNumbers ViaNumbers (path_point at) = WirePointNumbers at
ItemNumbers ViaNumbers (path_via via) = ViaNumbers via

abbrev pub PathNumbers : {Via : Type 0} → (Via → Type 0) → Path Via → Type 0
PathNumbers ViaNumbers p = StartNumbers p.start × All (ItemNumbers ViaNumbers) p.items

abbrev pub WireNumbers : Wire → Type 0
WireNumbers w = IfSome w.style (Passes is_int) × PathNumbers NetViaNumbers w.path

abbrev pub MarkNumbers : WireMark → Type 0
MarkNumbers (wire_shape word) = Unit {0}
MarkNumbers (wire_style n) = Passes is_int n
MarkNumbers (wire_mask word) = Unit {0}

abbrev pub SpecialWireNumbers : SpecialWire → Type 0
SpecialWireNumbers w = Passes is_size w.width × All MarkNumbers w.marks × PathNumbers SpecialViaNumbers w.path

abbrev pub WiringNumbers : Wiring → Type 0
WiringNumbers w = WireNumbers w.first × All WireNumbers w.others

abbrev pub NetClauseNumbers : NetClause → Type 0
NetClauseNumbers (net_subnet tokens) = Unit {0}
NetClauseNumbers (net_use word) = Unit {0}
NetClauseNumbers (net_rule name) = Unit {0}
NetClauseNumbers (net_wiring wiring) = WiringNumbers wiring
NetClauseNumbers (net_kept clause) = Unit {0}

abbrev pub NetNumbers : Net → Type 0
NetNumbers n = All NetClauseNumbers n.clauses

abbrev pub NetEntryNumbers : NetEntry → Type 0
NetEntryNumbers (must_join tokens) = Unit {0}
NetEntryNumbers (is_net n) = NetNumbers n

abbrev pub PlacedViaNumbers : PlacedVia → Type 0
PlacedViaNumbers v = PointNumbers v.first × All LaterPointNumbers v.others

abbrev pub SpecialWiringNumbers : SpecialWiring → Type 0
SpecialWiringNumbers w = All SpecialWireNumbers w.wires

abbrev pub SpecialClauseNumbers : SpecialClause → Type 0
SpecialClauseNumbers (special_subnet tokens) = Unit {0}
SpecialClauseNumbers (special_use word) = Unit {0}
SpecialClauseNumbers (special_shape_word word) = Unit {0}
SpecialClauseNumbers (special_mask word) = Unit {0}
SpecialClauseNumbers (special_rectangle layer corners) = CornersNumbers corners
SpecialClauseNumbers (special_vias via) = PlacedViaNumbers via
SpecialClauseNumbers (special_polygon layer polygon) = PolygonNumbers polygon
SpecialClauseNumbers (special_has_wiring wiring) = SpecialWiringNumbers wiring
SpecialClauseNumbers (special_kept clause) = Unit {0}

abbrev pub SpecialNetNumbers : SpecialNet → Type 0
SpecialNetNumbers n = All SpecialClauseNumbers n.clauses

abbrev pub ByLayerNumbers : ByLayer → Type 0
ByLayerNumbers by = PointNumbers by.bottom × PointNumbers by.top

abbrev pub CutArrayNumbers : CutArray → Type 0
CutArrayNumbers a = Passes is_cuts a.rows × Passes is_cuts a.columns

abbrev pub ViaClauseNumbers : ViaClause → Type 0
ViaClauseNumbers (via_has_rectangle r) = CornersNumbers r.corners
ViaClauseNumbers (via_has_polygon p) = PointsNumbers p.points
ViaClauseNumbers (via_rule name) = Unit {0}
ViaClauseNumbers (cut_size size) = BothPass is_size size
ViaClauseNumbers (on_layers layers) = Unit {0}
ViaClauseNumbers (cut_spacing space) = BothPass is_size space
ViaClauseNumbers (enclosure by) = ByLayerNumbers by
ViaClauseNumbers (row_col array) = CutArrayNumbers array
ViaClauseNumbers (via_origin at) = PointNumbers at
ViaClauseNumbers (via_offset by) = ByLayerNumbers by
ViaClauseNumbers (via_kept clause) = Unit {0}

abbrev pub DefViaNumbers : DefVia → Type 0
DefViaNumbers v = All ViaClauseNumbers v.clauses

abbrev pub RuleClauseNumbers : RuleClause → Type 0
RuleClauseNumbers (rule_has_layer l) = Passes is_size l.width
RuleClauseNumbers (rule_kept clause) = Unit {0}

abbrev pub RuleNumbers : Rule → Type 0
RuleNumbers r = All RuleClauseNumbers r.clauses
