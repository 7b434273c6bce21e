-- What statements define, and then more from one outside of all blocks on.
use Rattle.std.proofs.Common.{◌≡◌, ℕ, List, [], ◌∷◌, ◌++◌, map, refl, ap, ◌∙◌, Option, Some, None}
use Rattle.std.specs.List.{cons_option}
use Rattle.std.specs.Option.{option_map}
use Rattle.std.proofs.lemmas.List.{map-append}
use Rattle.lef_grammar.specs.Definitions.{Layer, Site, Via, Rule, Macro, inner_record, layer_record, layer_with, macro_with, opened_layer, opened_macro, opened_rule, opened_site, opened_via, rule_with, site_record, site_with, via_record, via_with}
use Rattle.form_meanings.specs.Firsts.{found_then, front, headed, with_all, with_first}
use Rattle.lef_grammar.specs.LefRecords.{LefRecord, outside}
use Rattle.lef_grammar.specs.Library.{Library, with_text}
use Rattle.lef_grammar.specs.Outermost.{OutermostRecord}

module _ {R B C : Type 0} (name_in : C → List ℕ) (header : R → Option (List ℕ)) (inner : R → Option B) (define : List ℕ × List B → C) (r : R) (stops : inner r ≡ None) (after : List R) where
  front_stops : (rs : List R) → front inner (rs ++ r ∷ after) ≡ front inner rs
  unfolding front
  front_stops [] = rw (stops) refl
  front_stops (x ∷ rs) = ap (found_then (inner x)) (front_stops rs)

  cons_join : (o : Option (List ℕ × List B)) (xs ys : List (List ℕ × List B)) → cons_option o (xs ++ ys) ≡ cons_option o xs ++ ys
  cons_join None xs ys = refl
  cons_join (Some x) xs ys = refl

  headed_join : (rs : List R) → headed header inner (rs ++ r ∷ after) ≡ headed header inner rs ++ headed header inner (r ∷ after)
  unfolding headed
  headed_join [] = refl
  headed_join (x ∷ rs) =
      ap (λ (bs : List B). cons_option (option_map (λ b. (b, bs)) (header x)) (headed header inner (rs ++ r ∷ after))) (front_stops rs)
      ∙ ap (cons_option (option_map (λ b. (b, front inner rs)) (header x))) (headed_join rs)
      ∙ cons_join (option_map (λ b. (b, front inner rs)) (header x)) (headed header inner rs) (headed header inner (r ∷ after))

  all_join : (before cs more : List C) → with_all name_in before (cs ++ more) ≡ with_all name_in (with_all name_in before cs) more
  unfolding with_all
  all_join before [] more = refl
  all_join before (c ∷ cs) more = all_join (with_first name_in before c) cs more

  pub joined : (rs : List R) (before : List C)
      → with_all name_in before (map define (headed header inner (rs ++ r ∷ after))) ≡ with_all name_in (with_all name_in before (map define (headed header inner rs))) (map define (headed header inner (r ∷ after)))
  joined rs before =
      ap (λ xs. with_all name_in before (map define xs)) (headed_join rs)
      ∙ ap (with_all name_in before) (map-append define (headed header inner rs) (headed header inner (r ∷ after)))
      ∙ all_join before (map define (headed header inner rs)) (map define (headed header inner (r ∷ after)))

library_with : Library → List Layer → List Site → List Via → List Rule → List Macro → Library
library_with l a b c d e = record { layers = a; sites = b; vias = c; rules = d; macros = e }

-- statements from one outside of all blocks on define what they do, whatever came before
pub texts_join : (l : Library) (rs : List LefRecord) (r : OutermostRecord) (after : List LefRecord) → with_text l (rs ++ outside r ∷ after) ≡ with_text (with_text l rs) (outside r ∷ after)
texts_join l rs r after = rw (
  joined (λ (d : Layer). d.name) opened_layer layer_record layer_with (outside r) refl after rs l.layers,
  joined (λ (d : Site). d.name) opened_site site_record site_with (outside r) refl after rs l.sites,
  joined (λ (d : Via). d.name) opened_via via_record via_with (outside r) refl after rs l.vias,
  joined (λ (d : Rule). d.name) opened_rule inner_record rule_with (outside r) refl after rs l.rules,
  joined (λ (d : Macro). d.name) opened_macro inner_record macro_with (outside r) refl after rs l.macros,
) refl
