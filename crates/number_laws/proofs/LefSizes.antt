-- The sizes of the library of LEF texts that read are taken as they are written.
use Rattle.std.proofs.Common.{◌≡◌, ℕ, ◌+◌, List, [], ◌∷◌, Option, Some, None, Result, Ok, Err, map}
use Rattle.std.specs.List.{All}
use Rattle.std.specs.Prelude.{IfSome}
use Rattle.std.specs.Option.{option_map}
use Rattle.std.proofs.lemmas.List.Elements.{All-nil}
use Rattle.design_model.specs.Units.{Distance, nearest}
use Rattle.design_model.specs.declared.fault.Fault.{Fault}
use Rattle.form_meanings.specs.Firsts.{headed, first_of}
use Rattle.lef_grammar.specs.Definitions as lef
use Rattle.lef_grammar.specs.Definitions.{Distances, distance_read, both_read, whole_read, opened_layer, layer_record, layer_with, layers_of, opened_via, via_record, via_body, via_with, vias_of, opened_rule, inner_record, opened_rule_layer, rule_layer_record, rule_layer_with, rule_with, rules_of}
use Rattle.lef_grammar.specs.Extents.{is_extent, is_array_count}
use Rattle.lef_grammar.specs.LayerBlock.{LayerRecord, layer_width, width_of}
use Rattle.lef_grammar.specs.LefRecords.{LefRecord, outside, in_layer, in_via, in_rule_layer, in_site, in_rule, in_macro, in_pin, in_port, in_kept, read_lef}
use Rattle.lef_grammar.specs.Library.{Library, empty_library, with_text, in_file, library_from}
use Rattle.lef_grammar.specs.Measures.{point_in}
use Rattle.lef_grammar.specs.RuleBlock.{RuleLayerRecord, rule_width, rule_width_of}
use Rattle.lef_grammar.specs.ViaBlock.{ViaRecord, cut_size, cut_spacing, row_col, cut_size_of, cut_spacing_of, row_col_of, rule_of}
use Rattle.number_laws.specs.LefNumbers.{PairPasses, LayerNumbers, ViaNumbers, RuleLayerNumbers, LefRecordNumbers}
use Rattle.number_laws.specs.PartNumbers.{Passes}
use Rattle.number_laws.specs.SizeLaws.{IsLength, AreLengths, AreCuts, LayerSizes, LefRuleSizes, BodySizes, LibrarySizes, LefSizesStand}
use Rattle.number_laws.proofs.EachOf.{mapped, first_of_each, headed_each, map_each, with_all_each}
use Rattle.number_laws.proofs.GoodRecords.{has_read, ok_same}
use Rattle.number_laws.proofs.LefTells.{lef_numbers_pass}
use Rattle.number_laws.proofs.SizeNumbers.{extent_stands, extents_stand, counts_stand}

-- a width in the units of any design
abbrev WidthStands : Distance → Type 0
WidthStands w = (u : ℕ) → IsLength (nearest w u)

in_layer_block : (r : LefRecord) → LefRecordNumbers r → IfSome (layer_record r) LayerNumbers
in_layer_block (in_layer r) n = n
in_layer_block _ n = tt

width_by : (r : LayerRecord) → LayerNumbers r → IfSome (width_of r) (Passes is_extent)
width_by (layer_width width ws) n = n
width_by _ n = tt

layer_sizes : (x : List ℕ × List LayerRecord) → All LayerNumbers x.1 → LayerSizes (layer_with x)
layer_sizes x n = mapped distance_read (Passes is_extent) WidthStands (first_of width_of x.1) extent_stands (first_of_each width_of LayerNumbers (Passes is_extent) width_by x.1 n)

layers_sizes : (recs : List LefRecord) → All LefRecordNumbers recs → All LayerSizes (layers_of recs)
layers_sizes recs n =
    map_each layer_with (λ x. All LayerNumbers x.1) LayerSizes layer_sizes (headed opened_layer layer_record recs) (headed_each layer_record LefRecordNumbers LayerNumbers in_layer_block opened_layer recs n)

in_via_block : (r : LefRecord) → LefRecordNumbers r → IfSome (via_record r) ViaNumbers
in_via_block (in_via r) n = n
in_via_block _ n = tt

size_by : (r : ViaRecord) → ViaNumbers r → IfSome (cut_size_of r) (PairPasses is_extent)
size_by (cut_size x y) n = n
size_by _ n = tt

spacing_by : (r : ViaRecord) → ViaNumbers r → IfSome (cut_spacing_of r) (PairPasses is_extent)
spacing_by (cut_spacing x y) n = n
spacing_by _ n = tt

counts_by : (r : ViaRecord) → ViaNumbers r → IfSome (row_col_of r) (PairPasses is_array_count)
counts_by (row_col rows columns) n = n
counts_by _ n = tt

-- two sizes in the units of a design
pair_stands : (u : ℕ) (o : Option (List ℕ × List ℕ)) → IfSome o (PairPasses is_extent) → IfSome (option_map (point_in u) (option_map both_read o)) AreLengths
pair_stands u o n =
    let read = mapped both_read (PairPasses is_extent) (λ (d : Distances). AreLengths (point_in u d)) o (λ p passes. extents_stand p passes u) n in
    mapped (point_in u) (λ (d : Distances). AreLengths (point_in u d)) AreLengths (option_map both_read o) (λ d stands. stands) read

body_sizes : (o : Option (List ℕ)) (rs : List ViaRecord) → All ViaNumbers rs → BodySizes (via_body o rs)
body_sizes None rs n = tt
body_sizes (Some rule) rs n = λ u. (
  pair_stands u (first_of cut_size_of rs) (first_of_each cut_size_of ViaNumbers (PairPasses is_extent) size_by rs n),
  pair_stands u (first_of cut_spacing_of rs) (first_of_each cut_spacing_of ViaNumbers (PairPasses is_extent) spacing_by rs n),
  mapped (λ x. (whole_read x.0, whole_read x.1)) (PairPasses is_array_count) AreCuts (first_of row_col_of rs) counts_stand (first_of_each row_col_of ViaNumbers (PairPasses is_array_count) counts_by rs n),
)

abbrev ViaSizes : lef.Via → Type 0
ViaSizes v = BodySizes v.body

vias_sizes : (recs : List LefRecord) → All LefRecordNumbers recs → All ViaSizes (vias_of recs)
vias_sizes recs n =
    map_each via_with (λ x. All ViaNumbers x.1) ViaSizes (λ x m. body_sizes (first_of rule_of x.1) x.1 m) (headed opened_via via_record recs)
    (headed_each via_record LefRecordNumbers ViaNumbers in_via_block opened_via recs n)

in_rule_block : (r : LefRecord) → LefRecordNumbers r → IfSome (inner_record r) LefRecordNumbers
in_rule_block (outside r) n = tt
in_rule_block (in_layer r) n = n
in_rule_block (in_site r) n = n
in_rule_block (in_via r) n = n
in_rule_block (in_rule r) n = n
in_rule_block (in_rule_layer r) n = n
in_rule_block (in_macro r) n = n
in_rule_block (in_pin r) n = n
in_rule_block (in_port r) n = n
in_rule_block (in_kept r) n = n

in_rule_layer_block : (r : LefRecord) → LefRecordNumbers r → IfSome (rule_layer_record r) RuleLayerNumbers
in_rule_layer_block (in_rule_layer r) n = n
in_rule_layer_block _ n = tt

rule_width_by : (r : RuleLayerRecord) → RuleLayerNumbers r → IfSome (rule_width_of r) (Passes is_extent)
rule_width_by (rule_width width) n = n
rule_width_by _ n = tt

abbrev RuleLayerSizes : lef.RuleLayer → Type 0
RuleLayerSizes l = IfSome l.width WidthStands

rule_layer_sizes : (x : List ℕ × List RuleLayerRecord) → All RuleLayerNumbers x.1 → RuleLayerSizes (rule_layer_with x)
rule_layer_sizes x n =
    mapped distance_read (Passes is_extent) WidthStands (first_of rule_width_of x.1) extent_stands (first_of_each rule_width_of RuleLayerNumbers (Passes is_extent) rule_width_by x.1 n)

rule_sizes : (x : List ℕ × List LefRecord) → All LefRecordNumbers x.1 → LefRuleSizes (rule_with x)
rule_sizes x n =
    let blocks = headed opened_rule_layer rule_layer_record x.1 in
    with_all_each (λ (l : lef.RuleLayer). l.name) RuleLayerSizes [] (map rule_layer_with blocks) (All-nil RuleLayerSizes)
    (map_each rule_layer_with (λ y. All RuleLayerNumbers y.1) RuleLayerSizes rule_layer_sizes blocks (headed_each rule_layer_record LefRecordNumbers RuleLayerNumbers in_rule_layer_block opened_rule_layer x.1 n))

rules_sizes : (recs : List LefRecord) → All LefRecordNumbers recs → All LefRuleSizes (rules_of recs)
rules_sizes recs n =
    map_each rule_with (λ x. All LefRecordNumbers x.1) LefRuleSizes rule_sizes (headed opened_rule inner_record recs) (headed_each inner_record LefRecordNumbers LefRecordNumbers in_rule_block opened_rule recs n)

with_text_sizes : (l : Library) (recs : List LefRecord) → LibrarySizes l → All LefRecordNumbers recs → LibrarySizes (with_text l recs)
with_text_sizes l recs s n = record {
  layers = with_all_each (λ (d : lef.Layer). d.name) LayerSizes l.layers (layers_of recs) s.layers (layers_sizes recs n);
  rules = with_all_each (λ (d : lef.Rule). d.name) LefRuleSizes l.rules (rules_of recs) s.rules (rules_sizes recs n);
  vias = with_all_each (λ (d : lef.Via). d.name) ViaSizes l.vias (vias_of recs) s.vias (vias_sizes recs n);
}

file_read : {A : Type 0} (n : ℕ) (r : Result A Fault) (a : A) → in_file n r ≡ Ok a → r ≡ Ok a
file_read n (Ok b) a e = cc
file_read n (Err f) a e = absurd (cc)

from_sizes : (n : ℕ) (before : Library) (texts : List (List ℕ)) (l : Library) → LibrarySizes before → library_from n before texts ≡ Ok l → LibrarySizes l
from_sizes n before [] l s e = rw (← ok_same before l e) s
from_sizes n before (t ∷ ts) l s e =
    let here = has_read (in_file n (read_lef t)) (λ recs. library_from (n + 1) (with_text before recs) ts) l e in
    let all = lef_numbers_pass t here.0 (file_read n (read_lef t) here.0 here.1) in
    from_sizes (n + 1) (with_text before here.0) ts l (with_text_sizes before here.0 s all) here.2

pub lef_sizes_stand : LefSizesStand
lef_sizes_stand texts l e = from_sizes 1 empty_library texts l (record { layers = All-nil LayerSizes; rules = All-nil LefRuleSizes; vias = All-nil ViaSizes }) e
