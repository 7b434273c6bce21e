-- Worked rows of edits of a design, by computing.
use Rattle.std.proofs.Common.{◌≡◌, ◌++◌, true, false, List, ℕ, [], ◌∷◌, Ok, Err, Result, Option, Some, None, refl, codes, pos, negsuc}
use Rattle.design_model.specs.declared.fault.Fault.{Fault}
use Rattle.edit_model.specs.declared.edit.EditCode.{EditCode}
use Rattle.edit_model.specs.declared.edit.EditCode.TheVariants.{UnknownName, Fixed, Number}
use Rattle.design_model.specs.declared.geometry.Orient.TheVariants.{N, FN}
use Rattle.form_meanings.specs.Words.{Rest, start}
use Rattle.statement_model.specs.Tokens.{lex, tokens}
use Rattle.statement_model.specs.Boundaries.{words}
use Rattle.statement_model.specs.Cuts.{Cut, with_cuts}
use Rattle.statement_model.specs.Form.{read}
use Rattle.def_grammar.specs.Components.{Component, component_form}
use Rattle.def_grammar.specs.Records.{Record, read_def}
use Rattle.lef_grammar.specs.Library.{empty_library}
use Rattle.edit_rules.specs.ComponentEdits.{place_change}
use Rattle.edit_rules.specs.Edits.{Change, place, cuts_of, applied}
use Rattle.edit_rules.specs.Plans.{cut_of, lowest}
use Rattle.definition_examples.proofs.Computing.{def_texts}

-- a design of one component with these clauses
abbrev design_of : List ℕ → List ℕ
design_of clauses = codes "UNITS DISTANCE MICRONS 1000 ;\nCOMPONENTS 1 ;\n- u INV" ++ (clauses ++ codes ";\nEND COMPONENTS\nEND DESIGN\n")

abbrev cuts_in : List ℕ → Result (List Record) Fault → Change → Result (List Cut) EditCode
cuts_in text (Ok design) change = cuts_of empty_library text design change
cuts_in text (Err fault) change = Ok []

-- the cuts of an edit of that design, where it reads
abbrev cuts_at : List ℕ → Change → Result (List Cut) EditCode
cuts_at clauses change = cuts_in (design_of clauses) (read_def (design_of clauses)) change

-- the cut in the text of an entry alone that places its component at ( 460 -5 ) FN
abbrev cut_if_read : List ℕ → Option (Component × Rest) → Option Cut
cut_if_read text None = None
cut_if_read text (Some x) = Some (cut_of text (tokens text).pieces (place_change (pos 460) (negsuc 4) FN x.0))

abbrev cut_in : List ℕ → Option Cut
cut_in text = cut_if_read text (read component_form (start (words (tokens text).pieces)))

-- a clause is put at the entry's end, and the blank before the ; stays
put_last : cuts_at (codes " ") (place (codes "u") (pos 0) (pos 0) N) ≡ Ok (record { lo = 52; hi = 52; put = codes " + PLACED ( 0 0 ) N" } ∷ [])
unfolding def_texts
put_last = refl

-- behind a string a space is put before the ;
put_behind_string : cuts_at (codes " + PROPERTY k \"x\"") (place (codes "u") (pos 0) (negsuc 4) N) ≡ Ok (record { lo = 69; hi = 69; put = codes " + PLACED ( 0 -5 ) N " } ∷ [])
unfolding def_texts
put_behind_string = refl

-- a placement takes the place of the one before, from its word on
put_again : cuts_at (codes " + PLACED ( 1 2 ) S + WEIGHT 3 ") (place (codes "u") (pos 460) (pos 0) FN) ≡ Ok (record { lo = 55; hi = 71; put = codes "PLACED ( 460 0 ) FN" } ∷ [])
unfolding def_texts
put_again = refl

-- it takes the place of UNPLACED with all its tokens
put_for_unplaced : cuts_at (codes " + UNPLACED a b + WEIGHT 3 ") (place (codes "u") (pos 460) (pos 0) FN) ≡ Ok (record { lo = 55; hi = 67; put = codes "PLACED ( 460 0 ) FN" } ∷ [])
unfolding def_texts
put_for_unplaced = refl

-- a fixed component is refused, before a number out of range
held : cuts_at (codes " + FIXED ( 1 2 ) S ") (place (codes "u") (pos 2147483648) (pos 0) FN) ≡ Err Fixed
unfolding def_texts
held = refl

-- an unknown one before all
unknown : cuts_at (codes " ") (place (codes "v") (pos 2147483648) (pos 0) FN) ≡ Err UnknownName
unfolding def_texts
unknown = refl

-- a number that no text may hold
out_of_range : cuts_at (codes " ") (place (codes "u") (pos 0) (pos 2147483648) FN) ≡ Err Number
unfolding def_texts
out_of_range = refl

-- the new text reads as the edited design
reads_edited : read_def (with_cuts (record { lo = 52; hi = 52; put = codes " + PLACED ( 0 0 ) N" } ∷ []) (design_of (codes " ")))
    ≡ read_def (design_of (codes " + PLACED ( 0 0 ) N "))
unfolding lex
reads_edited = refl

-- the records of the edited design are those of the new text
abbrev edited_records : Result (List Record) Fault → Change → Result (List Record) Fault
edited_records (Ok design) change = Ok (applied change design)
edited_records (Err fault) change = Err fault

reads_applied : edited_records (read_def (design_of (codes " + UNPLACED a + WEIGHT 3 "))) (place (codes "u") (pos 460) (pos 0) FN)
    ≡ read_def (design_of (codes " + PLACED ( 460 0 ) FN + WEIGHT 3 "))
unfolding def_texts
reads_applied = refl

-- UNPLACED with more tokens gives its place, up to the last of them
cut_of_unplaced : cut_in (codes "- u INV + UNPLACED a b + WEIGHT 3 ;") ≡ Some (record { lo = 10; hi = 22; put = codes "PLACED ( 460 -5 ) FN" })
unfolding def_texts
cut_of_unplaced = refl

-- a placement that is the last clause, and a placement where none was, which becomes the last
cut_of_last : (cut_in (codes "- u INV x + WEIGHT 3 + PLACED ( 1 2 ) S ;") ≡ Some (record { lo = 23; hi = 39; put = codes "PLACED ( 460 -5 ) FN" }))
    × (cut_in (codes "- u INV x + WEIGHT 3 ;") ≡ Some (record { lo = 20; hi = 20; put = codes " + PLACED ( 460 -5 ) FN" }))
unfolding def_texts
cut_of_last = (refl, refl)

-- a string right before the ;, which stands behind the cut or is taken
cut_at_string : (cut_in (codes "- u INV + PROPERTY k \"x\";") ≡ Some (record { lo = 24; hi = 24; put = codes " + PLACED ( 460 -5 ) FN " }))
    × (cut_in (codes "- u INV + UNPLACED \"x\";") ≡ Some (record { lo = 10; hi = 22; put = codes "PLACED ( 460 -5 ) FN " }))
unfolding def_texts
cut_at_string = (refl, refl)

-- the first of two clauses that place the component counts
cut_of_first : cut_in (codes "- u INV + UNPLACED + PLACED ( 1 2 ) S ;") ≡ Some (record { lo = 10; hi = 18; put = codes "PLACED ( 460 -5 ) FN" })
unfolding def_texts
cut_of_first = refl

-- the cut of a change in a text of one statement
abbrev cut_at_tokens : List ℕ → ℕ → ℕ → List ℕ → Cut
cut_at_tokens text before taken put = cut_of text (tokens text).pieces (record { before = before; taken = taken; put = put; said = [] })

-- what is put in the place of tokens has a space behind it where the next byte would be glued to it, but none behind
-- nothing and behind white space
spaces_behind : (cut_at_tokens (codes "\"a\"\"b\"c") 1 1 (codes "x") ≡ record { lo = 3; hi = 6; put = codes "x " })
    × (cut_at_tokens (codes "\"a\"\"b\"c") 1 1 (codes "x\t") ≡ record { lo = 3; hi = 6; put = codes "x\t" })
    × (cut_at_tokens (codes "\"a\"\"b\"c") 1 1 [] ≡ record { lo = 3; hi = 6; put = [] })
    × (cut_at_tokens (codes "a b\tc") 1 1 (codes "x") ≡ record { lo = 2; hi = 3; put = codes "x" })
unfolding def_texts
spaces_behind = (refl, refl, refl, refl)

-- where no token is taken, bytes go right behind the token before, or to the place of the first
gaps : (cut_at_tokens (codes " a  b ;") 1 0 (codes " x") ≡ record { lo = 2; hi = 2; put = codes " x" })
    × (cut_at_tokens (codes " a  b ;") 0 0 (codes "- x ;\n") ≡ record { lo = 1; hi = 1; put = codes "- x ;\n" })
unfolding def_texts
gaps = (refl, refl)

-- of several refusals the first counts
first_refusal : (lowest ((false, UnknownName) ∷ (true, Fixed) ∷ (true, Number) ∷ []) ≡ Some Fixed) × (lowest ((false, Fixed) ∷ []) ≡ None)
first_refusal = (refl, refl)
