-- What LEF texts define: the first definition of each name.
use Rattle.std.specs.Prelude.{ℕ, ◌+◌, List, [], ◌∷◌, Option, Result, Ok, Err, map, sum}
use Rattle.design_model.specs.declared.fault.Fault.{Fault}
use Rattle.statement_model.specs.Folds.{◌>>◌}
use Rattle.lef_grammar.specs.LefRecords.{LefRecord, read_lef}
use Rattle.form_meanings.specs.Firsts.{find_named, with_all}
pub use Rattle.lef_grammar.specs.Definitions.{Layer, Site, Via, Rule, Macro, Pin}
use Rattle.lef_grammar.specs.Definitions.{layers_of, sites_of, vias_of, rules_of, macros_of}

-- a library: of each kind the definitions in order, each the first of its name; layers stand from the bottom up
pub record Library : Type 0 where
  pub layers : List Layer
  pub sites : List Site
  pub vias : List Via
  pub rules : List Rule
  pub macros : List Macro

abbrev pub empty_library : Library
empty_library = record { layers = []; sites = []; vias = []; rules = []; macros = [] }

-- a library with what a text defines besides
abbrev pub with_text : Library → List LefRecord → Library
with_text l recs = record {
  layers = with_all (λ (d : Layer). d.name) l.layers (layers_of recs);
  sites = with_all (λ (d : Site). d.name) l.sites (sites_of recs);
  vias = with_all (λ (d : Via). d.name) l.vias (vias_of recs);
  rules = with_all (λ (d : Rule). d.name) l.rules (rules_of recs);
  macros = with_all (λ (d : Macro). d.name) l.macros (macros_of recs);
}

-- a fault of a LEF text: the text's number, from 1, and the fault
pub record LefFault : Type 0 where
  pub file : ℕ
  pub fault : Fault

abbrev pub in_file : {A : Type 0} → ℕ → Result A Fault → Result A LefFault
in_file n (Ok a) = Ok a
in_file n (Err f) = Err (record { file = n; fault = f })

-- the first definitions of all texts from the n-th on, besides those before; or the fault of the first text that has one
abbrev pub library_from : ℕ → Library → List (List ℕ) → Result Library LefFault
library_from n before [] = Ok before
library_from n before (t ∷ ts) = in_file n (read_lef t) >> λ recs. library_from (n + 1) (with_text before recs) ts

abbrev pub library_of : List (List ℕ) → Result Library LefFault
library_of texts = library_from 1 empty_library texts

-- the definition of a name
abbrev pub layer_named : Library → List ℕ → Option Layer
layer_named l name = find_named (λ (d : Layer). d.name) l.layers name

abbrev pub site_named : Library → List ℕ → Option Site
site_named l name = find_named (λ (d : Site). d.name) l.sites name

abbrev pub via_named : Library → List ℕ → Option Via
via_named l name = find_named (λ (d : Via). d.name) l.vias name

abbrev pub rule_named : Library → List ℕ → Option Rule
rule_named l name = find_named (λ (d : Rule). d.name) l.rules name

abbrev pub macro_named : Library → List ℕ → Option Macro
macro_named l name = find_named (λ (d : Macro). d.name) l.macros name

abbrev pub pin_named : Macro → List ℕ → Option Pin
pin_named m name = find_named (λ (p : Pin). p.name) m.pins name

-- how many parts of a macro's pins have no checked shape
abbrev pub unchecked_of : Macro → ℕ
unchecked_of m = sum (map (λ (p : Pin). p.unchecked) m.pins)
