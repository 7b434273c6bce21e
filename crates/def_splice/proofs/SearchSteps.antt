-- Statements that pass a test, among those of a text.
use Rattle.std.proofs.Common.{◌≡◌, not, ◌||◌, ℕ, Bool, List, [], ◌∷◌, Option, Some, None, Ok, map, refl, ap, ◌∙◌, inl, inr}
use Rattle.std.specs.List.{filter_map, list_any}
use Rattle.std.specs.Option.{option_map}
use Rattle.std.proofs.lemmas.Bool.{cases_Bool}
use Rattle.statement_model.specs.Tokens.{Token}
use Rattle.def_grammar.specs.Parts.{is_some}
use Rattle.def_grammar.specs.Records.{def, Entry, Record, entry_of, read_def}
use Rattle.edit_rules.specs.SectionEdits.{tokens_where}
use Rattle.def_grammar.specs.Located.{located}
use Rattle.design_model.specs.declared.mode.Mode.TheVariants.{Top}
use Rattle.statement_reader.specs.ReadingLaws.{RecordsAreLocated}
use Rattle.def_splice.specs.LookupViews.{first_where, of_entry}
use Rattle.def_splice.proofs.LocatedStatements.{located_is}

-- what statements say
abbrev pub said : List (List Token × Record) → List Record
said xs = map (λ (x : List Token × Record). x.1) xs

-- the tokens of the first statement of a kind
pub tokens_of_first : (test : Record → Bool) (xs : List (List Token × Record)) → tokens_where test xs ≡ option_map (λ x. x.0) (first_where test xs)
tokens_of_first test [] = refl
tokens_of_first test (x ∷ xs) = elim (cases_Bool (test x.1)) [ inl is ↦ rw is refl | inr other ↦ rw other (tokens_of_first test xs) ]

-- an entry of which a test holds is one of the statements
pub any_entry : (test : Entry → Bool) (rec : Record) (o : Option Entry) (rs : List Record) → entry_of rec ≡ o → list_any test (filter_map entry_of (rec ∷ rs)) ≡ (of_entry test o || list_any test (filter_map entry_of rs))
any_entry test rec None rs is = rw is refl
any_entry test rec (Some e) rs is = rw is refl

-- what the statements of a text say is its design
module _ (law : RecordsAreLocated def) (text : List ℕ) (design : List Record) (reads : read_def text ≡ Ok design) where
  pub all_said : said (located text design) ≡ design
  all_said = ap said (located_is law text design reads) ∙ law Top text design reads

-- a statement is found where one of the design passes
pub is_there : (test : Record → Bool) (xs : List (List Token × Record)) → is_some (tokens_where test xs) ≡ not (not (list_any test (said xs)))
is_there test [] = refl
is_there test (x ∷ xs) = elim (cases_Bool (test x.1)) [ inl is ↦ rw is refl | inr other ↦ rw other (is_there test xs) ]
