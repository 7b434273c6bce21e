-- The width that a rule of LEF gives, by what its table lends.
use Rattle.std.proofs.Common.{◌≡◌, ℕ, ◌≤◌, List, Option, Some, None, ℤ, nat_abs, refl, ap, ◌∙◌, Bor, option_copied, arith}
use Rattle.std.proofs.lemmas.Int.{ints}
use Rattle.std.specs.Int.{w64}
use mir.Val.{of_z, to_z}
use Rattle.std.specs.Option.{option_map}
use Rattle.design_model.specs.Units.{nearest}
use Rattle.form_meanings.specs.Words.{◌>>=◌}
use Rattle.def_grammar.specs.Records.{Record}
use Rattle.entry_rules.specs.ViaLayers.{def_rule_named}
use Rattle.lef_grammar.specs.Definitions as lef
use Rattle.lef_grammar.specs.Library.{Library, rule_named}
use Rattle.unit_numbers.specs.Distances.{distance_of}
use Rattle.unit_numbers.specs.declared.distance.Microns.{Microns}
use Rattle.cell_library.specs.Naming.{named, seen_by}
use Rattle.cell_library.specs.RuleViews.{rule_layer_name, rule_layer_view, rule_view}
use Rattle.cell_library.specs.declared.rule.RuleLayer.{RuleLayer}
use Rattle.cell_library.specs.declared.rule.Rule.{Rule}
use Rattle.cell_library.proofs.NamedLemmas.{lent_seen}
use Rattle.net_rules.specs.Widths.{lef_rule_width, rule_width}

abbrev pub width_in : ℕ → Option Microns → Option ℤ
width_in u width = option_map (λ w. nearest (distance_of w) u) width

abbrev pub width_lent : ℕ → Option (Bor RuleLayer) → Option ℤ
width_lent u None = None
width_lent u (Some l) = width_in u l.now.width

width_of_layer : ℕ → lef.RuleLayer → Option ℤ
width_of_layer u l = option_map (λ w. nearest w u) l.width

seen_width : (u : ℕ) (w : Option Microns) → width_in u w ≡ option_map (λ d. nearest d u) (option_map distance_of w)
seen_width u None = refl
seen_width u (Some w) = refl

lent_width : (u : ℕ) (layer : List ℕ) (r : Option (Bor RuleLayer)) → width_lent u r ≡ (option_map (seen_by rule_layer_view layer) r >>= λ (l : lef.RuleLayer). option_map (λ w. nearest w u) l.width)
lent_width u layer None = refl
lent_width u layer (Some l) = seen_width u l.now.width

pub lef_width_lent : {A : Type 0} (u : ℕ) (layer name : List ℕ) (rule : Rule A) (r : Option (Bor RuleLayer)) → option_copied r ≡ named rule.layers layer
    → width_lent u r ≡ lef_rule_width u layer (rule_view (name, rule))
lef_width_lent u layer name rule r e =
    lent_width u layer r
    ∙ ap (λ (o : Option lef.RuleLayer). o >>= λ (l : lef.RuleLayer). option_map (λ w. nearest w u) l.width) (lent_seen _ _ rule_layer_view rule_layer_name (λ x. refl) layer r rule.layers e)

-- a width as a word, which it fits
pub width_there : (units : ℕ) (w : Microns) (z : ℤ) (per : ℕ) → per ≡ units → z ≡ nearest (distance_of w) per → nat_abs z ≤ 100000000000 → Some (to_z w64 (of_z w64 z)) ≡ width_in units (Some w)
width_there units w z per e is few =
    let back : to_z w64 (of_z w64 z) ≡ z = omega (arith, ints, few) in
    ap Some (back ∙ is ∙ ap (nearest (distance_of w)) e)

-- a rule that DEF doesn't have is that of the library
pub rule_in_lef : {A : Type 0} (library : Library) (design : List Record) (u : ℕ) (layer name : List ℕ) (rule : Rule A) (z : Option ℤ) → def_rule_named design name ≡ None → rule_named library name ≡ Some (rule_view (name, rule))
    → z ≡ lef_rule_width u layer (rule_view (name, rule)) → z ≡ rule_width library design u layer name
rule_in_lef library design u layer name rule z d l is = rw (d, l, is) refl
