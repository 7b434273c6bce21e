-- Two changes of statements of a text that reads, with the records around them.
use Rattle.std.proofs.Common.{◌≡◌, ℕ, ◌-◌, List, [], ◌∷◌, ◌++◌, map, Ok, refl, sym, ap, ◌∙◌, append_assoc}
use Rattle.std.proofs.lemmas.List.{map-append}
use Rattle.design_model.specs.declared.mode.Mode.TheVariants.{Top}
use Rattle.statement_model.specs.Tokens.{Token, tokens}
use Rattle.def_grammar.specs.Located.{located}
use Rattle.def_grammar.specs.Records.{Record, read_def}
use Rattle.edit_rules.specs.Plans.{StatementChange}
use Rattle.edit_laws.specs.StatementLaws.{records, StandsAmong, IsChange, Make, AreOnce}
use Rattle.edit_laws.proofs.EntryCounts.{records_are}
use Rattle.edit_laws.proofs.PlanTexts.{tokens_read}
use Rattle.edit_laws.proofs.SaidStatements.{whole_forms}
use Rattle.edit_laws.proofs.SectionModes.{Located}

-- records in parts
pub records_append : (xs ys : Located) → records (xs ++ ys) ≡ records xs ++ records ys
records_append xs ys = map-append (λ (x : List Token × Record). x.1) xs ys

module _ (text : List ℕ) (design : List Record) (reads : read_def text ≡ Ok design) where
  -- its statements with their records
  abbrev pub all : Located
  all = located text design

  pub design_is : records all ≡ design
  design_is = (records_are text design reads).0

  pub once : AreOnce [] design
  once = (whole_forms Top [] (tokens text) design (tokens_read text design reads)).once

  -- two changes of statements, with the records around them
  module _ (first : Located) (a_tokens : List Token) (a : Record) (between : Located) (b_tokens : List Token) (b : Record) (others : Located) (is : all ≡ first ++ (a_tokens, a) ∷ (between ++ (b_tokens, b) ∷ others)) where
    abbrev pub front : Located
    front = first ++ (a_tokens, a) ∷ between

    pub fronted : all ≡ front ++ (b_tokens, b) ∷ others
    fronted = is ∙ sym (append_assoc first ((a_tokens, a) ∷ between) ((b_tokens, b) ∷ others))

    abbrev pub stands_first : StandsAmong all a_tokens a
    stands_first = record { first = first; others = between ++ (b_tokens, b) ∷ others; all_are = is }

    abbrev pub stands_second : StandsAmong all b_tokens b
    stands_second = record { first = front; others = others; all_are = fronted }

    pub design_parts : records front ++ b ∷ records others ≡ design
    design_parts = sym (records_append front ((b_tokens, b) ∷ others)) ∙ (ap records (sym fronted) ∙ design_is)

    pub two_make : (c d : StatementChange) → IsChange a_tokens a c → IsChange b_tokens b d → Make all ((a_tokens, c) ∷ (b_tokens, d) ∷ []) (records first ++ (c.said ++ (records between ++ (d.said ++ records others))))
    two_make c d first_is second_is =
        let stands_later : StandsAmong (between ++ (b_tokens, b) ∷ others) b_tokens b = record { first = between; others = others; all_are = refl } in
        (a, stands_first, first_is, records between ++ (d.said ++ records others), (b, stands_later, second_is, records others, refl, refl), refl)
