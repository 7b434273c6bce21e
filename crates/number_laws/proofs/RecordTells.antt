-- The statements of a DEF text: what they tell of their numbers, wherever they stand.
use Rattle.std.proofs.Common.{◌≡◌, ℕ, List, [], None, codes, refl}
use Rattle.std.proofs.lemmas.List.Elements.{All-weaker}
use Rattle.design_model.specs.EnumWords.{section_word, sections}
use Rattle.design_model.specs.declared.mode.Mode.{Mode}
use Rattle.design_model.specs.declared.mode.Mode.TheVariants.{Top, In, Props}
use Rattle.design_model.specs.declared.mode.Section.{Section}
use Rattle.design_model.specs.declared.mode.Section.TheVariants.{Components, Pins, Regions, Groups, Blockages, Nets, SpecialNets, Vias, NonDefaultRules}
use Rattle.statement_model.specs.Form.{Fits, word}
use Rattle.def_grammar.specs.Numbers.{is_scale, is_count}
use Rattle.def_grammar.specs.Records.{Entry, component, pin, region, group, blockage, net, special_net, via, rule, skipped, Record, top, in_properties, end_section, entry, entries_form, statement, def}
use Rattle.def_grammar.specs.Top.{TopRecord, header, units, end_design, properties, extension, die_area, row, tracks, gcell_grid, kept, units_statement, header_statement, floor_statement, kept_statement, plain_statement, top_statement}
use Rattle.form_meanings.specs.Words.{is_plain}
use Rattle.def_grammar.specs.Extensions.{extension_statement}
use Rattle.def_grammar.specs.Groups.{group_clause, as_group, group_form}
use Rattle.def_grammar.specs.Properties.{end_properties, property, property_statement}
use Rattle.def_grammar.specs.Skipped.{skipped_form}
use Rattle.number_laws.proofs.PartTells.{name_tells, rest_tells, kept_clause_tells}
use Rattle.number_laws.specs.PartNumbers.{Passes}
use Rattle.number_laws.specs.RecordNumbers.{TopNumbers, EntryNumbers, RecordNumbers}
use Rattle.number_laws.specs.NumberLaws.{HasNoBadNumber, DefNumbersPass, NoneIsLeftOut}
use Rattle.number_laws.proofs.GoodRecords.{no_number_is_bad}
use Rattle.number_laws.proofs.PlaceTells.{component_form_tells, pin_form_tells, region_form_tells, blockage_form_tells, die_area_tells, row_tells, tracks_tell, gcell_grid_tells}
use Rattle.number_laws.proofs.Tells.{Tells, NoNumbers, word_tells, one_of_tells, number_tells, behind_tells, before_tells, seq_tells, alt_tells, many_none, seen_tells}
use Rattle.number_laws.proofs.WireTells.{net_form_tells, special_net_form_tells, def_via_form_tells, rule_form_tells}

units_tell : Tells units_statement.of (Passes is_scale)
unfolding units_statement
units_tell = behind_tells _ _ (behind_tells _ _ (before_tells _ _ (number_tells _)))

header_tells : Tells header_statement.of (λ x. Passes is_count x.1)
unfolding header_statement
header_tells = record {
  tell = λ x ws e. ((seq_tells _ _ (one_of_tells section_word sections) (before_tells _ (codes ";") (number_tells is_count))).tell x ws e).1;
  good = λ x ws p. (seq_tells _ _ (one_of_tells section_word sections) (before_tells _ (codes ";") (number_tells is_count))).good x ws (tt, p);
}

top_tells : (t : TopRecord) (ws : List (List ℕ)) → top_statement.of.bad t ws ≡ None → TopNumbers t
unfolding top_statement plain_statement floor_statement
top_tells (header s n) ws e = header_tells.tell (s, n) ws e
top_tells (units n) ws e = units_tell.tell n ws e
top_tells end_design ws e = tt
top_tells properties ws e = tt
top_tells (extension tokens) ws e = tt
top_tells (die_area area) ws e = die_area_tells.tell area ws e
top_tells (row r) ws e = row_tells.tell r ws e
top_tells (tracks t) ws e = tracks_tell.tell t ws e
top_tells (gcell_grid g) ws e = gcell_grid_tells.tell g ws e
top_tells (kept w rest) ws e = tt

top_good : (t : TopRecord) (ws : List (List ℕ)) → TopNumbers t → top_statement.of.bad t ws ≡ None
unfolding top_statement plain_statement floor_statement extension_statement kept_statement
top_good (header s n) ws p = header_tells.good (s, n) ws p
top_good (units n) ws p = units_tell.good n ws p
top_good end_design ws p = refl
top_good properties ws p = refl
top_good (extension tokens) ws p = refl
top_good (die_area area) ws p = die_area_tells.good area ws p
top_good (row r) ws p = row_tells.good r ws p
top_good (tracks t) ws p = tracks_tell.good t ws p
top_good (gcell_grid g) ws p = gcell_grid_tells.good g ws p
top_good (kept w rest) ws p = refl

group_tells : NoNumbers group_form.of
unfolding group_form group_clause
group_tells =
    seen_tells as_group _ (behind_tells _ _ (seq_tells _ _ name_tells (seq_tells _ _ (many_none is_plain (word is_plain).of (word_tells is_plain)) (
    before_tells _ _ (many_none _ _ (behind_tells _ _ (alt_tells _ _ _ (behind_tells _ _ rest_tells) kept_clause_tells)))))))
    (λ g t. tt) (λ g t. (tt, (tt, tt)))

entry_good : (s : Section) (x : Entry) (ws : List (List ℕ)) → EntryNumbers x → (entries_form s).of.bad x ws ≡ None
unfolding entries_form skipped_form
entry_good Components (component c) ws p = component_form_tells.good c ws p
entry_good Pins (pin a) ws p = pin_form_tells.good a ws p
entry_good Regions (region r) ws p = region_form_tells.good r ws p
entry_good Groups (group g) ws p = group_tells.good g ws tt
entry_good Blockages (blockage b) ws p = blockage_form_tells.good b ws p
entry_good Nets (net n) ws p = net_form_tells.good n ws p
entry_good SpecialNets (special_net n) ws p = special_net_form_tells.good n ws p
entry_good Vias (via v) ws p = def_via_form_tells.good v ws p
entry_good NonDefaultRules (rule r) ws p = rule_form_tells.good r ws p
entry_good _ (skipped s tokens) ws p = refl
entry_good _ _ ws p = refl

record_good : (m : Mode) (r : Record) (ws : List (List ℕ)) → RecordNumbers r → (statement m).of.bad r ws ≡ None
unfolding statement property_statement
record_good Top (top t) ws p = top_good t ws p
record_good (In s) (entry x) ws p = entry_good s x ws p
record_good Props (in_properties end_properties) ws p = refl
record_good Props (in_properties (property tokens)) ws p = refl
record_good (In s) (end_section t) ws p = refl
record_good _ _ ws p = refl

pub no_def_number_is_left_out : NoneIsLeftOut def RecordNumbers
no_def_number_is_left_out m r p = record_good m r [] p

entry_tells : (s : Section) (x : Entry) (ws : List (List ℕ)) → Fits (entries_form s) x ws → (entries_form s).of.bad x ws ≡ None → EntryNumbers x
unfolding entries_form
entry_tells Components (component c) ws fits e = component_form_tells.tell c ws e
entry_tells Pins (pin p) ws fits e = pin_form_tells.tell p ws e
entry_tells Regions (region r) ws fits e = region_form_tells.tell r ws e
entry_tells Groups (group g) ws fits e = tt
entry_tells Blockages (blockage b) ws fits e = blockage_form_tells.tell b ws e
entry_tells Nets (net n) ws fits e = net_form_tells.tell n ws e
entry_tells SpecialNets (special_net n) ws fits e = special_net_form_tells.tell n ws e
entry_tells Vias (via v) ws fits e = def_via_form_tells.tell v ws e
entry_tells NonDefaultRules (rule r) ws fits e = rule_form_tells.tell r ws e
entry_tells _ (skipped s tokens) ws fits e = tt
entry_tells _ _ ws fits e = absurd fits

record_tells : (m : Mode) (r : Record) (ws : List (List ℕ)) → Fits (statement m) r ws → (statement m).of.bad r ws ≡ None → RecordNumbers r
unfolding statement
record_tells Top (top t) ws fits e = top_tells t ws e
record_tells Props (in_properties p) ws fits e = tt
record_tells (In s) (end_section t) ws fits e = tt
record_tells (In s) (entry x) ws fits e = entry_tells s x ws fits.1 e
record_tells _ _ ws fits e = absurd fits

good_tells : (r : Record) → HasNoBadNumber def r → RecordNumbers r
good_tells r g = record_tells g.mode r [] g.fits g.good

pub def_numbers_pass : DefNumbersPass
def_numbers_pass text recs e = All-weaker (HasNoBadNumber def) RecordNumbers good_tells recs (no_number_is_bad def Top text recs e)
