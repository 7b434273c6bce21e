-- Laws of the sizes of wires and vias of texts that read: each is taken as it is written, and what the definitions have for
-- a number that is no size, or for columns and rows that are no array, isn't met.
use Rattle.std.specs.Prelude.{◌≡◌, ℕ, true, List, ℤ, Option, Ok, IfSome}
use Rattle.std.specs.List.{All}
use Rattle.std.specs.Option.{option_map}
use Rattle.design_model.specs.Units.{nearest}
use Rattle.design_model.specs.declared.geometry.Point.{Point}
use Rattle.form_meanings.specs.Firsts.{first_of}
use Rattle.form_meanings.specs.Words.{◌>>=◌}
use Rattle.lef_grammar.specs.Definitions as lef
use Rattle.lef_grammar.specs.Library.{Library, library_of}
use Rattle.lef_grammar.specs.Measures.{point_in}
use Rattle.def_grammar.specs.DefVias.{DefVia}
use Rattle.def_grammar.specs.Nets.{NetEntry, must_join, is_net}
use Rattle.def_grammar.specs.NetWires.{net_wires}
use Rattle.def_grammar.specs.Numbers.{int_of}
use Rattle.def_grammar.specs.Records.{Record, Entry, entry, net, special_net, via, rule, read_def}
use Rattle.def_grammar.specs.Rules.{Rule, RuleLayer}
use Rattle.def_grammar.specs.SpecialWires.{special_net_wires}
use Rattle.def_grammar.specs.Wiring.{WirePoint, WireVia, SpecialVia, PathItem, path_point, path_via, Path, Wire, SpecialWire}
use Rattle.wire_rules.specs.Sizes.{as_size, as_sizes, as_cuts, is_array}
use Rattle.entry_rules.specs.References.{rule_layers}
use Rattle.entry_rules.specs.WireItems.{count_of, extension_of}
use Rattle.net_rules.specs.ViaRectangles.{array_of_clause, size_of_clause, spacing_of_clause}
use Rattle.net_rules.specs.Widths.{layer_width, or_width, rule_width, wire_width}

-- a length, two lengths, and rows and columns of cuts that are taken as they are
abbrev pub IsLength : ℤ → Type 0
IsLength z = as_size z ≡ z

abbrev pub AreLengths : Point → Type 0
AreLengths p = as_sizes p ≡ p

abbrev pub AreCuts : ℤ × ℤ → Type 0
AreCuts a = (as_cuts a.0 ≡ a.0) × (as_cuts a.1 ≡ a.1)

-- how far a wire goes past a point is what is written there
abbrev pub PastIsWritten : WirePoint → Type 0
PastIsWritten p = extension_of p ≡ option_map int_of p.extension

-- a via of NETS stands once
abbrev pub StandsOnce : WireVia → Type 0
StandsOnce v = Unit {0}

-- one of SPECIALNETS stands in the array that is written, if there is one
abbrev pub ArrayStands : SpecialVia → Type 0
ArrayStands v = IfSome v.array (λ a. is_array (count_of a.columns) (count_of a.rows) ≡ true)

abbrev pub ItemSizes : {Via : Type 0} → (Via → Type 0) → PathItem Via → Type 0
ItemSizes ViaSizes (path_point at) = PastIsWritten at
ItemSizes ViaSizes (path_via v) = ViaSizes v
ItemSizes ViaSizes _ = Unit {0}

abbrev pub PathSizes : {Via : Type 0} → (Via → Type 0) → Path Via → Type 0
PathSizes ViaSizes p = PastIsWritten p.start × All (ItemSizes ViaSizes) p.items

abbrev pub WireSizes : Wire → Type 0
WireSizes w = PathSizes StandsOnce w.path

abbrev pub SpecialWireSizes : SpecialWire → Type 0
SpecialWireSizes w = IsLength (int_of w.width) × PathSizes ArrayStands w.path

-- the cut size, the space between cuts and the array of a generated via, where they are written
abbrev pub CutSizes : Option Point → Option Point → Option (ℤ × ℤ) → Type 0
CutSizes size space array = IfSome size AreLengths × IfSome space AreLengths × IfSome array AreCuts

abbrev pub DefViaSizes : DefVia → Type 0
DefViaSizes v = CutSizes (first_of size_of_clause v.clauses) (first_of spacing_of_clause v.clauses) (first_of array_of_clause v.clauses)

abbrev pub RuleSizes : Rule → Type 0
RuleSizes r = All (λ (l : RuleLayer). IsLength (int_of l.width)) (rule_layers r)

abbrev pub NetSizes : NetEntry → Type 0
NetSizes (must_join tokens) = Unit {0}
NetSizes (is_net n) = All WireSizes (net_wires n)

abbrev pub EntrySizes : Entry → Type 0
EntrySizes (net n) = NetSizes n
EntrySizes (special_net n) = All SpecialWireSizes (special_net_wires n)
EntrySizes (via v) = DefViaSizes v
EntrySizes (rule r) = RuleSizes r
EntrySizes _ = Unit {0}

abbrev pub RecordSizes : Record → Type 0
RecordSizes (entry e) = EntrySizes e
RecordSizes _ = Unit {0}

-- So it is in a DEF text that reads.
abbrev pub DefSizesStand : Type 0
DefSizesStand = (text : List ℕ) (recs : List Record) → read_def text ≡ Ok recs → All RecordSizes recs

-- a width or a size of LEF, in the units of any design
abbrev pub LayerSizes : lef.Layer → Type 0
LayerSizes l = IfSome l.width (λ w. (u : ℕ) → IsLength (nearest w u))

abbrev pub LefRuleSizes : lef.Rule → Type 0
LefRuleSizes r = All (λ (l : lef.RuleLayer). IfSome l.width (λ w. (u : ℕ) → IsLength (nearest w u))) r.layers

abbrev pub BodySizes : lef.ViaBody → Type 0
BodySizes (lef.listed shapes) = Unit {0}
BodySizes (lef.generated v) = (u : ℕ) → CutSizes (option_map (point_in u) v.cut_size) (option_map (point_in u) v.cut_spacing) v.row_col

pub record LibrarySizes (l : Library) : Type 0 where
  pub layers : All LayerSizes l.layers
  pub rules : All LefRuleSizes l.rules
  pub vias : All (λ (v : lef.Via). BodySizes v.body) l.vias

-- So it is in the library of LEF texts that read.
abbrev pub LefSizesStand : Type 0
LefSizesStand = (texts : List (List ℕ)) (library : Library) → library_of texts ≡ Ok library → LibrarySizes library

-- The width of a wire of NETS is the one of its rule, or else its layer's, as it is written, by a library and a design that
-- read.
abbrev pub WidthsStand : Type 0
WidthsStand = (texts : List (List ℕ)) (library : Library) (text : List ℕ) (design : List Record)
    → library_of texts ≡ Ok library
    → read_def text ≡ Ok design
    → (u : ℕ) (rule : Option (List ℕ)) (layer : List ℕ)
    → wire_width library design u rule layer ≡ or_width (layer_width library u layer) (rule >>= rule_width library design u layer)
