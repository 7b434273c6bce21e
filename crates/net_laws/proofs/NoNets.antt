-- A design without entries of NETS and SPECIALNETS has no lines on nets.
use Rattle.std.proofs.Common.{◌≡◌, ℕ, Bool, true, false, List, [], ◌∷◌, length, Option, None, refl, ap, ◌∙◌, if◌then◌else◌}
use Rattle.std.specs.List.{cons_option, filter_map}
use Rattle.form_meanings.specs.Words.{◌>>=◌}
use Rattle.design_model.specs.declared.mode.Section.TheVariants.{Nets, SpecialNets}
use Rattle.def_grammar.specs.Nets.{is_net, must_join}
use Rattle.def_grammar.specs.Records as records
use Rattle.def_grammar.specs.Records.{Entry, Record, end_section, entry, entry_of, in_properties, section_of, top}
use Rattle.lef_grammar.specs.Library.{Library}
use Rattle.connection_rules.specs.NetParts.{Wired, wired_of}
use Rattle.design_rules.specs.Boxes.{scale}
use Rattle.edit_rules.specs.SectionEdits.{entries_in, is_section}
use Rattle.net_laws.specs.NetExchanges.{NoNetsNoLines}

is_none : (b : Bool) (e : Entry) (es : List Entry) → length (if b then e ∷ es else es) ≡ 0 → (b ≡ false) × (length es ≡ 0)
is_none true e es h = absurd (cc)
is_none false e es h = (refl, h)

module _ (library : Library) (all : List Record) (u : ℕ) where
  no_wired : (e : Entry) → is_section Nets (section_of e) ≡ false → is_section SpecialNets (section_of e) ≡ false → wired_of library all u e ≡ None
  unfolding Rattle.design_model.specs.EnumWords.section_word
  no_wired (records.component x) a b = refl
  no_wired (records.pin x) a b = refl
  no_wired (records.region x) a b = refl
  no_wired (records.group x) a b = refl
  no_wired (records.blockage x) a b = refl
  no_wired (records.net (must_join tokens)) a b = refl
  no_wired (records.net (is_net n)) a b = absurd (cc)
  no_wired (records.special_net x) a b = absurd (cc)
  no_wired (records.via x) a b = refl
  no_wired (records.rule x) a b = refl
  no_wired (records.skipped s tokens) a b = refl

  none_wired : (design : List Record) → length (entries_in Nets design) ≡ 0 → length (entries_in SpecialNets design) ≡ 0
      → filter_map (λ (r : Record). entry_of r >>= wired_of library all u) design ≡ []
  none_wired [] a b = refl
  none_wired (entry e ∷ design) a b =
      let here = is_none (is_section Nets (section_of e)) e (entries_in Nets design) a in
      let there = is_none (is_section SpecialNets (section_of e)) e (entries_in SpecialNets design) b in
      ap (λ (w : Option Wired). cons_option w (filter_map (λ (r : Record). entry_of r >>= wired_of library all u) design)) (no_wired e here.0 there.0) ∙ none_wired design here.1 there.1
  none_wired (top t ∷ design) a b = none_wired design a b
  none_wired (in_properties p ∷ design) a b = none_wired design a b
  none_wired (end_section s ∷ design) a b = none_wired design a b

pub no_lines : NoNetsNoLines
unfolding Rattle.form_meanings.specs.Firsts.with_all
no_lines library design a b = rw (none_wired library design (scale design) design a b) refl
