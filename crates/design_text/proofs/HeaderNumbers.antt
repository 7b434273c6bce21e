-- The number in the header of a section, as that of the first statement that is this header.
use Rattle.std.proofs.Common.{◌≡◌, ℕ, List, [], ◌∷◌, Option, Some, None, refl, sym, ap, ◌∙◌, inl, inr}
use Rattle.std.proofs.lemmas.Bool.{cases_Bool}
use Rattle.design_model.specs.declared.mode.Section.{Section}
use Rattle.statement_model.specs.Tokens.{Token}
use Rattle.def_grammar.specs.Located.{located}
use Rattle.def_grammar.specs.Records.{Record, end_section, entry, in_properties, top}
use Rattle.def_grammar.specs.Top.{header, plain}
use Rattle.count_laws.specs.Counts.{header_number}
use Rattle.edit_rules.specs.SectionEdits.{is_header, is_section}
use Rattle.def_splice.specs.LookupViews.{first_where}
use Rattle.def_splice.proofs.SearchSteps.{said}
use Rattle.text_pieces.specs.Statements.{statements_of}
use Rattle.design_text.specs.DesignTexts.{Content, IsNumbered, text_of}
use Rattle.design_text.specs.Headers.{number_in}

abbrev pub number_found : Option (List Token × Record) → Option (List ℕ)
number_found None = None
number_found (Some x) = number_in x.1

first_has : (s : Section) (xs : List (List Token × Record)) → header_number s (said xs) ≡ number_found (first_where (is_header s) xs)
first_has s [] = refl
first_has s ((ps, top (header t n)) ∷ xs) = elim (cases_Bool (is_section s t)) [ inl is ↦ rw is refl | inr other ↦ rw other (first_has s xs) ]
first_has s ((ps, top (plain p)) ∷ xs) = first_has s xs
first_has s ((ps, in_properties p) ∷ xs) = first_has s xs
first_has s ((ps, end_section t) ∷ xs) = first_has s xs
first_has s ((ps, entry e) ∷ xs) = first_has s xs

pub number_is : (s : Section) (c : Content) (design : List Record) → IsNumbered c design → number_found (first_where (is_header s) (located (text_of c) design)) ≡ header_number s design
number_is s c design k =
    ap (λ (xs : List (List Token × Record)). number_found (first_where (is_header s) xs)) k.located
    ∙ (sym (first_has s (statements_of (text_of c))) ∙ ap (header_number s) k.said)
