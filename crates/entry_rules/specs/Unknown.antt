-- Lines on names that aren't defined (own): one for each reference of the text.
use Rattle.std.specs.Prelude.{ℕ, Bool, true, false, not, ◌&&◌, ◌||◌, List, [], ◌∷◌, ◌++◌, map, flat_map, Option, Some, None, codes, if◌then◌else◌}
use Rattle.std.specs.List.{filter_map, list_any}
use Rattle.std.specs.Str.{bytes_eq}
use Rattle.design_model.specs.declared.diagnostic.DiagKind.TheVariants.{Unknown}
use Rattle.design_model.specs.declared.mode.Section.{Section}
use Rattle.design_model.specs.declared.mode.Section.TheVariants.{Regions, Components, Pins, Nets, SpecialNets}
use Rattle.design_model.specs.EnumWords.{section_word}
use Rattle.design_model.specs.Lines.{line_text}
use Rattle.form_meanings.specs.Words.{◌>>=◌, is_word}
use Rattle.form_meanings.specs.Firsts.{find_named}
use Rattle.lef_grammar.specs.Library.{Library, Macro, layer_named, macro_named, pin_named, rule_named, site_named}
use Rattle.def_grammar.specs.Components.{Component}
use Rattle.def_grammar.specs.Parts.{is_some}
use Rattle.def_grammar.specs.Top.{row}
use Rattle.def_grammar.specs.Records.{Record, Entry, top, entry, component_of, entry_of, name_of, section_of}
use Rattle.entry_rules.specs.References.{Reference, to_macro, to_region, to_site, to_layer, to_via, to_rule, to_net, to_terminal, entry_references, row_references}
use Rattle.entry_rules.specs.ViaLayers.{def_rule_named, or_lef, layers_named}

-- what is defined, by its name; and which pins components lack: lacks c p where c's macro is known and has no pin p
pub record Known : Type 0 where
  pub macro : List ℕ → Bool
  pub region : List ℕ → Bool
  pub site : List ℕ → Bool
  pub layer : List ℕ → Bool
  pub via : List ℕ → Bool
  pub rule : List ℕ → Bool
  pub net : List ℕ → Bool
  pub component : List ℕ → Bool
  pub design_pin : List ℕ → Bool
  pub lacks : List ℕ → List ℕ → Bool

-- the words of a line: of what kind the name is, and the name
abbrev pub unless : Bool → List (List ℕ) → List (List (List ℕ))
unless known words = if known then [] else words ∷ []

abbrev pub unknown_terminal : Known → List ℕ → List ℕ → List (List (List ℕ))
unknown_terminal known owner pin =
    if is_word (codes "PIN") owner then unless (known.design_pin pin) (codes "PIN" ∷ owner ∷ pin ∷ [])
    else (if known.component owner then unless (not (known.lacks owner pin)) (codes "PIN" ∷ owner ∷ pin ∷ [])
    else (codes "COMPONENT" ∷ owner ∷ []) ∷ [])

abbrev pub unknown_of : Known → Reference → List (List (List ℕ))
unknown_of known (to_macro name) = unless (known.macro name) (codes "MACRO" ∷ name ∷ [])
unknown_of known (to_region name) = unless (known.region name) (codes "REGION" ∷ name ∷ [])
unknown_of known (to_site name) = unless (known.site name) (codes "SITE" ∷ name ∷ [])
unknown_of known (to_layer name) = unless (known.layer name) (codes "LAYER" ∷ name ∷ [])
unknown_of known (to_via name) = unless (known.via name) (codes "VIA" ∷ name ∷ [])
unknown_of known (to_rule name) = unless (known.rule name) (codes "RULE" ∷ name ∷ [])
unknown_of known (to_net name) = unless (known.net name) (codes "NET" ∷ name ∷ [])
unknown_of known (to_terminal owner pin) = unknown_terminal known owner pin

-- `unknown K w.. S o`, for each of some references of the entry o in S
abbrev pub reference_lines : Known → List ℕ → List ℕ → List Reference → List (List ℕ)
reference_lines known section owner references = map (λ words. line_text Unknown (words ++ section ∷ owner ∷ []) []) (flat_map (unknown_of known) references)

-- an entry's name, or - where it has none
abbrev pub name_or_dash : Option (List ℕ) → List ℕ
name_or_dash None = codes "-"
name_or_dash (Some name) = name

-- the lines of an entry, or of a row
abbrev pub unknown_lines_of : Known → Record → List (List ℕ)
unknown_lines_of known (entry e) = reference_lines known (section_word (section_of e)) (name_or_dash (name_of e)) (entry_references e)
unknown_lines_of known (top (row r)) = reference_lines known (codes "ROWS") r.name (row_references r)
unknown_lines_of known _ = []

abbrev pub is_same : List ℕ → Option (List ℕ) → Bool
is_same name None = false
is_same name (Some own) = bytes_eq own name

-- an entry of a section has this name
abbrev pub is_in : Section → List ℕ → Entry → Bool
is_in s name e = bytes_eq (section_word (section_of e)) (section_word s) && is_same name (name_of e)

abbrev pub stands_in : List Record → Section → List ℕ → Bool
stands_in design s name = list_any (is_in s name) (filter_map entry_of design)

abbrev pub component_named : List Record → List ℕ → Option Component
component_named design name = find_named (λ (c : Component). c.name) (filter_map component_of design) name

-- a macro that is known lacks a pin
abbrev pub is_lacking : List ℕ → Option Macro → Bool
is_lacking p None = false
is_lacking p (Some m) = not (is_some (pin_named m p))

-- what a library and a design define. A net is an entry of NETS or SPECIALNETS; a via and a rule are looked up in both texts.
abbrev pub known_by : Library → List Record → Known
known_by library design = record {
  macro = λ name. is_some (macro_named library name);
  region = stands_in design Regions;
  site = λ name. is_some (site_named library name);
  layer = λ name. is_some (layer_named library name);
  via = λ name. is_some (layers_named library design name);
  rule = λ name. is_some (def_rule_named design name) || is_some (rule_named library name);
  net = λ name. stands_in design Nets name || stands_in design SpecialNets name;
  component = stands_in design Components;
  design_pin = stands_in design Pins;
  lacks = λ name p. is_lacking p (component_named design name >>= λ (c : Component). macro_named library c.cell);
}

-- all lines on names
abbrev pub unknown_lines : Library → List Record → List (List ℕ)
unknown_lines library design = flat_map (unknown_lines_of (known_by library design)) design
