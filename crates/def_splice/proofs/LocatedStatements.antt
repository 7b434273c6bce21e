-- The statements of a text that reads are those that are read one after the other.
use Rattle.std.proofs.Common.{◌≡◌, List, [], ◌∷◌, ◌++◌, ℕ, map, refl, sym, ap, ◌∙◌, inl, inr, Result, Ok, Err}
use Rattle.std.specs.List.{zip}
use Rattle.std.proofs.lemmas.Bool.{cases_Bool}
use Rattle.design_model.specs.declared.fault.Fault.{Fault}
use Rattle.design_model.specs.declared.mode.Mode.{Mode}
use Rattle.design_model.specs.declared.mode.Mode.TheVariants.{Top}
use Rattle.statement_model.specs.Tokens.{Token, tokens}
use Rattle.statement_model.specs.Boundaries.{is_whole, statements}
use Rattle.statement_model.specs.Reading.{read_form}
use Rattle.statement_reader.specs.Located.{in_front, located_on, located_at}
use Rattle.statement_reader.specs.ReadingLaws.{RecordsAreLocated}
use Rattle.def_grammar.specs.Records.{def, def_ending, Record, read_def}
use Rattle.def_grammar.specs.Located.{located}

front_zip : (s : List Token) (later : List (List Token)) (r : Result (Record × Mode) Fault) (rest : Mode → List (List Token × Record)) → ((m : Mode) → zip later (map (λ x. x.1) (rest m)) ≡ rest m)
    → zip (s ∷ later) (map (λ x. x.1) (in_front def s r rest)) ≡ in_front def s r rest
front_zip s later (Ok x) rest same = ap (λ (z : List (List Token × Record)). (s, x.0) ∷ z) (same x.1)
front_zip s later (Err f) rest same = refl

zip_located : (ps before : List Token) (m : Mode) → zip (statements def_ending before ps).0 (map (λ x. x.1) (located_on def m before ps)) ≡ located_on def m before ps
unfolding statements located_on
zip_located [] before m = refl
zip_located (p ∷ ps) before m = elim (cases_Bool (is_whole def_ending (before ++ p ∷ []))) [
  | inl is ↦ rw is (front_zip (before ++ p ∷ []) (statements def_ending [] ps).0 (read_form def m (before ++ p ∷ [])) (λ after. located_on def after [] ps) (zip_located ps []))
  | inr more ↦ rw more (zip_located ps (before ++ p ∷ []) m)
]

pub located_is : RecordsAreLocated def → (text : List ℕ) (design : List Record) → read_def text ≡ Ok design → located text design ≡ located_at def Top text 0
located_is law text design reads = ap (located text) (sym (law Top text design reads)) ∙ zip_located (tokens text).pieces [] Top
