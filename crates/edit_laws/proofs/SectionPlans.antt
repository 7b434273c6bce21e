-- The plan of an edit that puts an entry into a section or takes it out is one for the edited design.
use Rattle.std.proofs.Common.{codes, ◌≡◌, ℕ, ◌-◌, Bool, true, false, not, ◌&&◌, ◌||◌, ℤ, List, [], ◌∷◌, ◌++◌, Option, Some, None, Ok, refl, sym, subst, ⊎_elim}
use Rattle.std.specs.Str.{bytes_eq}
use Rattle.std.proofs.lemmas.Bool.{cases_Bool as cases, and_parts, and_left, and_right, or_parts, not-false}
use Rattle.edit_model.specs.declared.edit.EditCode.{EditCode}
use Rattle.design_model.specs.declared.mode.Mode.TheVariants.{Top}
use Rattle.design_model.specs.declared.mode.Section.{Section}
use Rattle.design_model.specs.declared.mode.Section.TheVariants.{Components, Blockages, Pins, Regions, Groups, Nets, SpecialNets, Vias, NonDefaultRules}
use Rattle.design_model.specs.EnumWords.{section_word}
use Rattle.statement_model.specs.Tokens.{Token}
use Rattle.statement_model.specs.Grammar.{Key}
use Rattle.statement_model.specs.Reading.{same_words}
use Rattle.def_grammar.specs.Components.{Component}
use Rattle.def_grammar.specs.Located.{component_if, or_later, component_at, located}
use Rattle.def_grammar.specs.Records.{entry_of, component, pin, region, group, blockage, net, special_net, via, rule, skipped, Record, top, in_properties, end_section, entry, component_of, entry_key, key_of, read_def}
use Rattle.def_grammar.specs.Nets.{net_name}
use Rattle.def_grammar.specs.Top.{header, plain, once as once_word}
use Rattle.edit_rules.specs.Edits.{of_section, plan_of, applied}
use Rattle.edit_rules.specs.Plans.{lowest}
use Rattle.edit_rules.specs.SectionEdits.{SectionChange, is_held_component, lists_of, add_component, remove_component, add_blockage, component_text, new_component, blockage_text, new_blockage, is_unknown_layer, tokens_of_found, edited_sections, taking, lacks}
use Rattle.splicing_laws.specs.SplicingLaws.{TokensArePut}
use Rattle.splicing_laws.specs.WordLaws.{SpacedAreTokens, PrintedNumbersAreWords, PrintedNumbersAreRead}
use Rattle.edit_laws.specs.ComponentLaws.{ComponentsAreFound}
use Rattle.edit_laws.specs.EntryLaws.{EntriesAreWritten}
use Rattle.edit_laws.specs.SectionLaws.{SectionPlansAreMade}
use Rattle.edit_laws.specs.StatementLaws.{records, Make, AreOnce}
use Rattle.edit_laws.proofs.NewEntries.{IsNamed, component_is_put, blockage_is_put}
use Rattle.edit_laws.proofs.PlanTexts.{tokens_read}
use Rattle.edit_laws.proofs.SectionKeys.{NoneHas, with_one, with_no_key}
use Rattle.edit_laws.proofs.SectionModes.{Located}
use Rattle.edit_laws.proofs.TwoChanges.{design_is, once}
use Rattle.std.specs.List.{filter_map, list_any}
use Rattle.std.specs.Option.{option_to_list}
use Rattle.edit_model.specs.declared.edit.EditCode.TheVariants.{UnknownName, BadName, NameTaken, Number, NoSection, Fixed, Connection}
use Rattle.def_grammar.specs.Parts.{is_some}
use Rattle.lef_grammar.specs.Library.{Library, macro_named, layer_named}
use Rattle.edit_rules.specs.ComponentEdits.{is_known_macro, is_out}
use Rattle.edit_rules.specs.NameTexts.{is_name_text, is_component_name}
use Rattle.form_meanings.specs.Words.{is_word}
use Rattle.edit_laws.specs.PlanLaws.{Plans}
use Rattle.edit_laws.proofs.NameTokens.{name_is_one_word}
use Rattle.edit_laws.proofs.SectionPuts.{put_makes, put_once}
use Rattle.edit_laws.proofs.SectionTakes.{take_makes, take_once}

-- a test that doesn't refuse, and those behind it
one_free : (refused : Bool) (code : EditCode) (rs : List (Bool × EditCode)) → lowest ((refused, code) ∷ rs) ≡ None → (refused ≡ false) × (lowest rs ≡ None)
one_free true code rs e = absurd (cc)
one_free false code rs e = (refl, e)

-- where nothing refuses to add a component, no test holds
none_of_four : (a b c d : Bool) → lowest ((a, UnknownName) ∷ (b, BadName) ∷ (c, NameTaken) ∷ (d, NoSection) ∷ []) ≡ None → (a ≡ false) × (b ≡ false) × (c ≡ false) × (d ≡ false)
none_of_four a b c d e =
    let first = one_free a UnknownName ((b, BadName) ∷ (c, NameTaken) ∷ (d, NoSection) ∷ []) e in
    let second = one_free b BadName ((c, NameTaken) ∷ (d, NoSection) ∷ []) first.1 in
    let third = one_free c NameTaken ((d, NoSection) ∷ []) second.1 in
    (first.0, second.0, third.0, (one_free d NoSection [] third.1).0)

-- and so it is with a blockage
none_of_three : (a b c : Bool) → lowest ((a, UnknownName) ∷ (b, Number) ∷ (c, NoSection) ∷ []) ≡ None → (a ≡ false) × (b ≡ false) × (c ≡ false)
none_of_three a b c e =
    let first = one_free a UnknownName ((b, Number) ∷ (c, NoSection) ∷ []) e in
    let second = one_free b Number ((c, NoSection) ∷ []) first.1 in
    (first.0, second.0, (one_free c NoSection [] second.1).0)

-- no component has a name that isn't found
module _ (name : List ℕ) where
  abbrev key : Key
  key = section_word Components ∷ name ∷ []

  other_section : (t : Section) (own : Option (List ℕ)) → bytes_eq (section_word t) (section_word Components) ≡ false → same_words (entry_key t own) key ≡ false
  other_section t None other = refl
  other_section t (Some own) other = and_left (bytes_eq (section_word t) (section_word Components)) (bytes_eq own name && true) other

  no_second : (own : Option (List ℕ)) → same_words (option_to_list own) key ≡ false
  no_second None = refl
  no_second (Some w) = and_right (bytes_eq w (section_word Components)) false refl

  one_untaken : (ps : List Token) (r : Record) (later : Option (List Token × Component)) → or_later (component_if name ps (component_of r)) later ≡ None → (same_words (key_of r) key ≡ false) × (later ≡ None)
  unfolding section_word
  one_untaken ps (top (header t n)) later e = (and_right (bytes_eq (section_word t) (codes "COMPONENTS")) false refl, e)
  one_untaken ps (top (plain p)) later e = (no_second (once_word (plain p)), e)
  one_untaken ps (in_properties p) later e = (refl, e)
  one_untaken ps (end_section t) later e = (refl, e)
  one_untaken ps (entry (component d)) later e = ⊎_elim
      (λ (is : bytes_eq d.name name ≡ true). let h = rw is at e in absurd (cc))
      (λ (other : bytes_eq d.name name ≡ false).
      let h = rw other at e in
      (and_left (bytes_eq d.name name) true other, h))
      (cases (bytes_eq d.name name))
  one_untaken ps (entry (pin p)) later e = (other_section Pins (Some p.name) refl, e)
  one_untaken ps (entry (region r)) later e = (other_section Regions (Some r.name) refl, e)
  one_untaken ps (entry (group g)) later e = (other_section Groups (Some g.name) refl, e)
  one_untaken ps (entry (blockage b)) later e = (refl, e)
  one_untaken ps (entry (net n)) later e = (other_section Nets (net_name n) refl, e)
  one_untaken ps (entry (special_net n)) later e = (other_section SpecialNets (Some n.name) refl, e)
  one_untaken ps (entry (via v)) later e = (other_section Vias (Some v.name) refl, e)
  one_untaken ps (entry (rule r)) later e = (other_section NonDefaultRules (Some r.name) refl, e)
  one_untaken ps (entry (skipped t ts)) later e = (refl, e)

  none_taken : (xs : Located) → component_at name xs ≡ None → NoneHas key (records xs)
  none_taken [] e = tt
  none_taken (x ∷ xs) e = let one = one_untaken x.0 x.1 (component_at name xs) e in (one.0, none_taken xs one.1)

none_found : {A : Type 0} (o : Option A) → is_some o ≡ false → o ≡ None
none_found None e = refl
none_found (Some a) e = absurd (cc)

-- a layer that is known has a name
layer_named_so : (library : Library) (layer : Option (List ℕ)) → is_unknown_layer library layer ≡ false → IsNamed layer
layer_named_so library None known = tt
layer_named_so library (Some l) known = name_is_one_word l (and_parts (is_name_text l) (is_some (layer_named library l)) (not-false (is_name_text l && is_some (layer_named library l)) known)).0

module _ (spaced_so : SpacedAreTokens) (put_so : TokensArePut) (words_so : PrintedNumbersAreWords) (read_so : PrintedNumbersAreRead) (found_so : ComponentsAreFound) (written_so : EntriesAreWritten) where
  module _ (library : Library) (text : List ℕ) (design : List Record) (reads : read_def text ≡ Ok design) where
    abbrev found : List ℕ → Option (List Token × Component)
    found name = component_at name (located text design)

    abbrev Made : SectionChange → Type 0
    Made change = Plans text design (plan_of library text design (of_section change)) (applied (of_section change) design)

    added : (c m : List ℕ) → Made (add_component c m)
    added c m = λ free.
        let none = none_of_four (not (is_known_macro library m)) (not (is_component_name c)) (is_some (found c)) (lacks Components design) free in
        let m_is = name_is_one_word m (and_parts (is_name_text m) (is_some (macro_named library m)) (not-false (is_known_macro library m) none.0)).0 in
        let c_is = name_is_one_word c (and_parts (is_name_text c) (not (is_word (codes "PIN") c || is_word (codes "VPIN") c)) (not-false (is_component_name c) none.1)).0 in
        let put = component_is_put spaced_so put_so c m c_is.0 m_is.0 c_is.1 m_is.1 in
        let apart : NoneHas (section_word Components ∷ c ∷ []) design
        = subst (λ (rs : List Record). NoneHas (section_word Components ∷ c ∷ []) rs) (design_is text design reads) (none_taken c (located text design) (none_found (found c) none.2)) in
        let once_so = λ (xs ys : List Record) (same : xs ++ ys ≡ design).
        with_one (section_word Components) c xs ys (entry (new_component c m)) [] refl refl (subst (λ (rs : List Record). NoneHas (section_word Components ∷ c ∷ []) rs) (sym same) apart)
        (subst (λ (rs : List Record). AreOnce [] rs) (sym same) (once text design reads)) in (
          put_makes spaced_so words_so read_so text design reads Components (component_text c m) (new_component c m) put refl none.3,
          put_once spaced_so words_so read_so text design reads Components (component_text c m) (new_component c m) put refl none.3 once_so,
        )

    blocked : (layer : Option (List ℕ)) (x1 y1 x2 y2 : ℤ) → Made (add_blockage layer x1 y1 x2 y2)
    blocked layer x1 y1 x2 y2 = λ free.
        let none = none_of_three (is_unknown_layer library layer) (is_out x1 || is_out y1 || is_out x2 || is_out y2) (lacks Blockages design) free in
        let three = or_parts (is_out x1 || is_out y1 || is_out x2) (is_out y2) none.1 in
        let two = or_parts (is_out x1 || is_out y1) (is_out x2) three.0 in
        let one = or_parts (is_out x1) (is_out y1) two.0 in
        let put = blockage_is_put spaced_so put_so words_so read_so layer x1 y1 x2 y2 (layer_named_so library layer none.0) one.0 one.1 two.1 three.1 in
        let e = new_blockage layer x1 y1 x2 y2 in
        let once_so = λ (xs ys : List Record) (same : xs ++ ys ≡ design). with_no_key xs ys (entry e) [] refl (subst (λ (rs : List Record). AreOnce [] rs) (sym same) (once text design reads)) in (
          put_makes spaced_so words_so read_so text design reads Blockages (blockage_text layer x1 y1 x2 y2) e put refl none.2,
          put_once spaced_so words_so read_so text design reads Blockages (blockage_text layer x1 y1 x2 y2) e put refl none.2 once_so,
        )

    -- the component that is found is taken out
    removed_found : (c : List ℕ) (o : Option (List Token × Component)) → found c ≡ o → is_some o ≡ true
        → Make (located text design) (taking Components (tokens_of_found o) (located text design) design) (edited_sections (remove_component c) design) × AreOnce [] (edited_sections (remove_component c) design)
    removed_found c None is some = absurd (cc)
    removed_found c (Some x) is some =
        let there = found_so (located text design) c x.0 x.1 is in
        let written = written_so text 0 (Top, []) design x.0 (component x.1) (tokens_read text design reads) there.0 in
        subst (λ (name : List ℕ). Make (located text design) (taking Components x.0 (located text design) design) (edited_sections (remove_component name) design) × AreOnce [] (edited_sections (remove_component name) design)) there.1
        (take_makes spaced_so words_so read_so text design reads x.0 x.1 there.0 written, take_once spaced_so words_so read_so text design reads x.0 x.1 there.0 written)

    removed : (c : List ℕ) → Made (remove_component c)
    removed c = λ free.
        let later = (is_held_component (found c), Fixed) ∷ (list_any (lists_of c) (filter_map entry_of design), Connection) ∷ [] in
        let unknown = one_free (not (is_some (found c))) UnknownName later free in
        removed_found c (found c) refl (not-false (is_some (found c)) unknown.0)

  pub section_plans_are_made : SectionPlansAreMade
  section_plans_are_made library text design (add_component c m) reads = added library text design reads c m
  section_plans_are_made library text design (remove_component c) reads = removed library text design reads c
  section_plans_are_made library text design (add_blockage layer x1 y1 x2 y2) reads = blocked library text design reads layer x1 y1 x2 y2
