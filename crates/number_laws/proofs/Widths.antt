-- The width of a wire of NETS is as it is written.
use Rattle.std.proofs.Common.{ℕ, List, Option, Some, None, ℤ, refl}
use Rattle.std.specs.List.{All}
use Rattle.std.specs.Prelude.{IfSome}
use Rattle.std.specs.Option.{option_map}
use Rattle.form_meanings.specs.Firsts.{find_named}
use Rattle.form_meanings.specs.Words.{◌>>=◌}
use Rattle.design_model.specs.Units.{Distance, nearest}
use Rattle.lef_grammar.specs.Definitions as lef
use Rattle.lef_grammar.specs.Library.{Library, layer_named, rule_named}
use Rattle.lef_grammar.specs.Measures.{width_in}
use Rattle.def_grammar.specs.Numbers.{int_of}
use Rattle.def_grammar.specs.Records.{rule, Record, entry, entry_of}
use Rattle.def_grammar.specs.Rules.{Rule, RuleLayer}
use Rattle.entry_rules.specs.References.{rule_layers}
use Rattle.entry_rules.specs.ViaLayers.{rule_of_entry, def_rules, def_rule_named}
use Rattle.net_rules.specs.Widths.{width_of, layer_width, def_rule_width, lef_rule_width, width_by_either, rule_width, or_width}
use Rattle.number_laws.specs.SizeLaws.{IsLength, LayerSizes, RuleSizes, RecordSizes, LefRuleSizes, LibrarySizes, WidthsStand}
use Rattle.number_laws.proofs.DefSizes.{def_sizes_stand}
use Rattle.number_laws.proofs.EachOf.{mapped, filter_map_each, found_each_named}
use Rattle.number_laws.proofs.LefSizes.{lef_sizes_stand}

or_by : (w : ℤ) (o : Option ℤ) → IsLength w → IfSome o IsLength → IsLength (or_width w o)
or_by w None e f = e
or_by w (Some v) e f = f

width_stands : (u : ℕ) (o : Option Distance) → IfSome o (λ w. (u : ℕ) → IsLength (nearest w u)) → IsLength (width_in u o)
width_stands u None s = refl
width_stands u (Some w) s = s u

of_layer : (u : ℕ) (o : Option lef.Layer) → IfSome o LayerSizes → IsLength (width_of u o)
of_layer u None s = refl
of_layer u (Some l) s = width_stands u l.width s

-- the width that a rule gives
by_def : (layer : List ℕ) (r : Rule) → RuleSizes r → IfSome (def_rule_width layer r) IsLength
by_def layer r s =
    mapped (λ (l : RuleLayer). int_of l.width) (λ (l : RuleLayer). IsLength (int_of l.width)) IsLength (find_named (λ (l : RuleLayer). l.layer) (rule_layers r) layer) (λ l is. is)
    (found_each_named (λ (l : RuleLayer). l.layer) (λ (l : RuleLayer). IsLength (int_of l.width)) (rule_layers r) layer s)

abbrev Given : lef.RuleLayer → Type 0
Given l = IfSome l.width (λ w. (u : ℕ) → IsLength (nearest w u))

of_rule_layer : (u : ℕ) (o : Option lef.RuleLayer) → IfSome o Given → IfSome (o >>= λ (l : lef.RuleLayer). option_map (λ w. nearest w u) l.width) IsLength
of_rule_layer u None s = tt
of_rule_layer u (Some l) s = mapped (λ w. nearest w u) (λ w. (v : ℕ) → IsLength (nearest w v)) IsLength l.width (λ w is. is u) s

by_lef : (u : ℕ) (layer : List ℕ) (r : lef.Rule) → LefRuleSizes r → IfSome (lef_rule_width u layer r) IsLength
by_lef u layer r s = of_rule_layer u (find_named (λ (l : lef.RuleLayer). l.name) r.layers layer) (found_each_named (λ (l : lef.RuleLayer). l.name) Given r.layers layer s)

by_either : (u : ℕ) (layer : List ℕ) (d : Option Rule) (l : Option lef.Rule) → IfSome d RuleSizes → IfSome l LefRuleSizes → IfSome (width_by_either u layer d l) IsLength
by_either u layer (Some r) l s t = by_def layer r s
by_either u layer None (Some r) s t = by_lef u layer r t
by_either u layer None None s t = tt

rule_of_record : (r : Record) → RecordSizes r → IfSome (entry_of r >>= rule_of_entry) RuleSizes
rule_of_record (entry (rule r)) s = s
rule_of_record _ s = tt

module _ (library : Library) (design : List Record) (u : ℕ) (in_library : LibrarySizes library) (in_design : All RecordSizes design) where
  of_rule : (layer name : List ℕ) → IfSome (rule_width library design u layer name) IsLength
  of_rule layer name =
      by_either u layer (def_rule_named design name) (rule_named library name)
      (found_each_named (λ (r : Rule). r.name) RuleSizes (def_rules design) name (filter_map_each (λ (r : Record). entry_of r >>= rule_of_entry) RecordSizes RuleSizes rule_of_record design in_design))
      (found_each_named (λ (r : lef.Rule). r.name) LefRuleSizes library.rules name in_library.rules)

  of_wire : (rule : Option (List ℕ)) (layer : List ℕ) → IfSome (rule >>= rule_width library design u layer) IsLength
  of_wire None layer = tt
  of_wire (Some name) layer = of_rule layer name

  wire : (rule : Option (List ℕ)) (layer : List ℕ) → IsLength (or_width (layer_width library u layer) (rule >>= rule_width library design u layer))
  wire named layer =
      or_by (layer_width library u layer) (named >>= rule_width library design u layer)
      (of_layer u (layer_named library layer) (found_each_named (λ (l : lef.Layer). l.name) LayerSizes library.layers layer in_library.layers)) (of_wire named layer)

pub widths_stand : WidthsStand
widths_stand texts library text design l d u named layer = wire library design u (lef_sizes_stand texts library l) (def_sizes_stand text design d) named layer
