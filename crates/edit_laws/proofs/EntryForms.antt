-- Entries of all sections: what is known of one that reads, and what one that fits reads as.
use Rattle.std.proofs.Common.{◌≡◌, inl, inr, ℕ, List, [], ◌∷◌, ◌++◌, Option, Some, None, Ok, refl, sym, ap, ◌∙◌, codes}
use Rattle.design_model.specs.declared.mode.Mode.{Mode}
use Rattle.design_model.specs.declared.mode.Mode.TheVariants.{Top, In, Props, After}
use Rattle.design_model.specs.declared.mode.Section.{Section}
use Rattle.design_model.specs.declared.mode.Section.TheVariants.{Components, Pins, Regions, Groups, Blockages, Nets, SpecialNets, Vias, NonDefaultRules, ScanChains, PinProperties, Slots, Fills, Styles}
use Rattle.form_meanings.specs.Meaning.{Meaning, left_meaning, right_meaning}
use Rattle.form_meanings.specs.Words.{is_word, first_passes}
use Rattle.statement_model.specs.Tokens.{Token}
use Rattle.statement_model.specs.Boundaries.{words, statements}
use Rattle.statement_model.specs.Form.{spell, Fits, whole}
use Rattle.statement_model.specs.Reading.{read_form}
use Rattle.def_grammar.specs.Records.{Entry, section_of, Record, entry, skipped_entries, entries_form, statement, def_ending, def}
use Rattle.def_grammar.proofs.EntrySections.{section_is}
use Rattle.statement_laws.proofs.Whole.{whole_shows, reads_as_spelled}
use Rattle.edit_laws.specs.EntryLaws.{IsWritten}
use Rattle.edit_laws.proofs.PlaceForms.{component_entries, pin_entries, region_entries, group_entries, blockage_entries}
use Rattle.edit_laws.proofs.Plain.{IsEntryForm}
use Rattle.edit_laws.proofs.SameWords.{has_form, form_reads}
use Rattle.edit_laws.proofs.WholeEntries.{one_statement}
use Rattle.edit_laws.proofs.WireForms.{net_entries, special_net_entries, def_via_entries, rule_entries, skipped_words}

-- an entry's form, where other values have none
left_entries : {A B : Type 0} (f : Meaning A) → IsEntryForm f → IsEntryForm (left_meaning {B = B} f)
left_entries f e = record { text = elim [ inl a ↦ e.text a | inr b ↦ λ ws fits. absurd fits ] }

right_entries : {A B : Type 0} (g : Meaning B) → IsEntryForm g → IsEntryForm (right_meaning {A = A} g)
right_entries g e = record { text = elim [ inl a ↦ λ ws fits. absurd fits | inr b ↦ e.text b ] }

skipped_section_entries : (s : Section) → IsEntryForm (skipped_entries s).of
skipped_section_entries s = right_entries _ (right_entries _ (record { text = λ x ws fits. skipped_words.text x.1 ws fits.1 }))

-- the entries of each section are spelled so
section_entries : (s : Section) → IsEntryForm (entries_form s).of
unfolding entries_form
section_entries Components = left_entries _ (left_entries _ component_entries)
section_entries Pins = left_entries _ (right_entries _ (left_entries _ pin_entries))
section_entries Regions = left_entries _ (right_entries _ (right_entries _ (left_entries _ region_entries)))
section_entries Groups = left_entries _ (right_entries _ (right_entries _ (right_entries _ (left_entries _ group_entries))))
section_entries Blockages = left_entries _ (right_entries _ (right_entries _ (right_entries _ (right_entries _ blockage_entries))))
section_entries Nets = right_entries _ (left_entries _ (left_entries _ net_entries))
section_entries SpecialNets = right_entries _ (left_entries _ (right_entries _ (left_entries _ special_net_entries)))
section_entries Vias = right_entries _ (left_entries _ (right_entries _ (right_entries _ (left_entries _ def_via_entries))))
section_entries NonDefaultRules = right_entries _ (left_entries _ (right_entries _ (right_entries _ (right_entries _ rule_entries))))
section_entries ScanChains = skipped_section_entries ScanChains
section_entries PinProperties = skipped_section_entries PinProperties
section_entries Slots = skipped_section_entries Slots
section_entries Fills = skipped_section_entries Fills
section_entries Styles = skipped_section_entries Styles

-- what is known of an entry that reads
pub record IsRead (m : Mode) (ps : List Token) (e : Entry) (after : Mode) : Type 0 where
  pub mode : m ≡ In (section_of e)
  pub same : after ≡ m
  pub says : IsWritten (words ps) e

module _ (ps : List Token) (e : Entry) where
  in_mode : (m : Mode) → words ps ≡ spell (statement m) (entry e) → Fits (statement m) (entry e) [] → None ≡ (statement m).of.bad (entry e) [] → (m ≡ In (section_of e)) × IsWritten (words ps) e
  unfolding statement
  in_mode Top spelled fits good = absurd fits
  in_mode (In s) spelled fits good =
      let is = section_is s e [] fits.1 in
      (rw is refl, record { spelled = rw is spelled; fits = rw is fits.1; good = rw is (sym good) })
  in_mode Props spelled fits good = absurd fits
  in_mode After spelled fits good = absurd fits

  pub entry_read : (m after : Mode) → read_form def m ps ≡ Ok (entry e, after) → IsRead m ps e after
  entry_read m after reads =
      let x : Record × Mode = (entry e, after) in
      let h = has_form def m ps x reads in
      let p : Record × Option ℕ = (entry e, None) in
      let shown = whole_shows (statement m) (words ps) p h.form in
      let is = in_mode m shown.0 shown.1 shown.2 in
      record { mode = is.0; same = sym h.next; says = is.1 }

  -- what an entry that fits in its section is spelled with is one whole statement, and reads as it there
  pub entry_reads : IsWritten (words ps) e → (statements def_ending [] ps ≡ (ps ∷ [], [])) × (read_form def (In (section_of e)) ps ≡ Ok (entry e, In (section_of e)))
  unfolding statement
  entry_reads is =
      let s = section_of e in
      let text = (section_entries s).text e [] is.fits in
      let no_end = ap (λ (ws : List (List ℕ)). first_passes (is_word (codes "END")) (ws ++ [])) text.is in
      let whole_is = (reads_as_spelled (statement (In s))).1 (entry e) (no_end, is.fits) in
      let form : whole (statement (In s)) (words ps) ≡ Some (entry e, None) = ap (whole (statement (In s))) is.spelled ∙ (whole_is ∙ ap (λ (bad : Option ℕ). Some (entry e, bad)) is.good) in
      (one_statement ps text.inner (is.spelled ∙ text.is) text.plain, form_reads def (In s) ps (entry e) (In s) (record { form = form; next = refl }))
