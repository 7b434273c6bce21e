-- An entry stands in its section alone.
use Rattle.std.proofs.Common.{◌≡◌, ℕ, List, Some, refl}
use Rattle.design_model.specs.declared.mode.Section.{Section}
use Rattle.design_model.specs.declared.mode.Section.TheVariants.{Vias, NonDefaultRules, Regions, Components, Pins, Blockages, SpecialNets, Nets, Groups, ScanChains, PinProperties, Slots, Fills, Styles}
use Rattle.form_meanings.specs.Words.{Rest}
use Rattle.statement_model.specs.Form.{read, Fits}
use Rattle.def_grammar.specs.Records.{Entry, component, pin, region, group, blockage, net, special_net, via, rule, skipped, section_of, entries_form}

-- an entry that fits in a section is one of it
pub section_is : (s : Section) (e : Entry) (ws : List (List ℕ)) → Fits (entries_form s) e ws → section_of e ≡ s
unfolding entries_form
section_is Components (component c) ws fits = refl
section_is Pins (pin p) ws fits = refl
section_is Regions (region r) ws fits = refl
section_is Groups (group g) ws fits = refl
section_is Blockages (blockage b) ws fits = refl
section_is Nets (net n) ws fits = refl
section_is SpecialNets (special_net n) ws fits = refl
section_is Vias (via v) ws fits = refl
section_is NonDefaultRules (rule r) ws fits = refl
section_is ScanChains (skipped s tokens) ws fits = fits.0
section_is PinProperties (skipped s tokens) ws fits = fits.0
section_is Slots (skipped s tokens) ws fits = fits.0
section_is Fills (skipped s tokens) ws fits = fits.0
section_is Styles (skipped s tokens) ws fits = fits.0
section_is _ _ ws fits = absurd fits

-- so is one that was read there
pub section_read : (s : Section) (e : Entry) (r rest : Rest) → read (entries_form s) r ≡ Some (e, rest) → section_of e ≡ s
section_read s e r rest h = section_is s e rest.words ((entries_form s).exact.shows r (e, rest) h).fits
