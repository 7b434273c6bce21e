-- Lines on names of which the same is known.
use Rattle.std.proofs.Common.{◌≡◌, ℕ, List, [], ◌∷◌, ◌++◌, map, flat_map, codes, refl, ap, ap₂}
use Rattle.std.specs.List.{AllByRecursion}
use Rattle.design_model.specs.declared.diagnostic.DiagKind.TheVariants.{Unknown}
use Rattle.design_model.specs.EnumWords.{section_word}
use Rattle.design_model.specs.Lines.{line_text}
use Rattle.def_grammar.specs.Records.{Record, end_section, entry, in_properties, name_of, section_of, top}
use Rattle.def_grammar.specs.Top.{die_area, end_design, extension, gcell_grid, header, kept, properties, row, tracks, units}
use Rattle.entry_rules.specs.References.{Reference, entry_references, row_references, to_layer, to_macro, to_net, to_region, to_rule, to_site, to_terminal, to_via}
use Rattle.entry_rules.specs.Unknown.{Known, name_or_dash, reference_lines, unknown_lines_of, unknown_of, unless}
use Rattle.agreement_laws.specs.Agreement.{AgreeOn, references_of}

module _ (a b : Known) where
  of_one : (x : Reference) → AgreeOn a b x → unknown_of a x ≡ unknown_of b x
  of_one (to_macro name) h = ap (λ k. unless k (codes "MACRO" ∷ name ∷ [])) h
  of_one (to_region name) h = ap (λ k. unless k (codes "REGION" ∷ name ∷ [])) h
  of_one (to_site name) h = ap (λ k. unless k (codes "SITE" ∷ name ∷ [])) h
  of_one (to_layer name) h = ap (λ k. unless k (codes "LAYER" ∷ name ∷ [])) h
  of_one (to_via name) h = ap (λ k. unless k (codes "VIA" ∷ name ∷ [])) h
  of_one (to_rule name) h = ap (λ k. unless k (codes "RULE" ∷ name ∷ [])) h
  of_one (to_net name) h = ap (λ k. unless k (codes "NET" ∷ name ∷ [])) h
  of_one (to_terminal owner pin) h = rw (h.0, h.1, h.2) refl

  of_all : (xs : List Reference) → AllByRecursion (AgreeOn a b) xs → flat_map (unknown_of a) xs ≡ flat_map (unknown_of b) xs
  of_all [] h = refl
  of_all (x ∷ xs) h = ap₂ (λ (l m : List (List (List ℕ))). l ++ m) (of_one x h.0) (of_all xs h.1)

  in_lines : (section owner : List ℕ) (xs : List Reference) → AllByRecursion (AgreeOn a b) xs → reference_lines a section owner xs ≡ reference_lines b section owner xs
  in_lines section owner xs h = ap (map (λ words. line_text Unknown (words ++ section ∷ owner ∷ []) [])) (of_all xs h)

  pub same_unknown : (r : Record) → AllByRecursion (AgreeOn a b) (references_of r) → unknown_lines_of a r ≡ unknown_lines_of b r
  same_unknown (entry e) h = in_lines (section_word (section_of e)) (name_or_dash (name_of e)) (entry_references e) h
  same_unknown (in_properties p) h = refl
  same_unknown (end_section s) h = refl
  same_unknown (top (row r)) h = in_lines (codes "ROWS") r.name (row_references r) h
  same_unknown (top (die_area d)) h = refl
  same_unknown (top (tracks t)) h = refl
  same_unknown (top (gcell_grid g)) h = refl
  same_unknown (top (header s n)) h = refl
  same_unknown (top (units n)) h = refl
  same_unknown (top end_design) h = refl
  same_unknown (top properties) h = refl
  same_unknown (top (extension ws)) h = refl
  same_unknown (top (kept w ws)) h = refl
