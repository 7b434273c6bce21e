-- Worked rows: how many statements are read at most where cuts of a text are made.
use Rattle.std.proofs.Common.{◌≡◌, List, ℕ, [], ◌∷◌, refl, codes}
use Rattle.statement_model.specs.Cuts.{Cut}
use Rattle.statement_reader.specs.Located.{located_on}
use Rattle.definition_examples.proofs.Computing.{def_texts}
use Rattle.design_text.specs.FewReads.{most_reads}

abbrev text : List ℕ
text = codes "UNITS DISTANCE MICRONS 1000 ;\nCOMPONENTS 2 ;\n- u1 INV ;\n- u2 INV ;\nEND COMPONENTS\nEND DESIGN\n"

abbrev cut : ℕ → ℕ → List ℕ → Cut
cut lo hi put = record { lo = lo; hi = hi; put = put }

unfoldable words : Unit {0}
unfolding def_texts located_on
words = tt

-- nothing is changed
none_cut : most_reads text [] ≡ 0
none_cut = refl

-- a component is placed
one_placed : most_reads text (cut 53 53 (codes " + PLACED ( 0 0 ) N") ∷ []) ≡ 1
unfolding words
one_placed = refl

-- one is added: its header, the entry before it, and its own, whatever stands between them
one_added : most_reads text (cut 41 42 (codes "3") ∷ cut 66 66 (codes "\n- u3 INV ;") ∷ []) ≡ 3
unfolding words
one_added = refl

-- Of three cuts, and of two where the text doesn't read with the later one alone, all from the first to the last are read: here the
-- header of a section, its entries and its end.
three_made : most_reads text (cut 41 42 (codes "4") ∷ cut 55 55 (codes "\n- u4 INV ;") ∷ cut 66 66 (codes "\n- u3 INV ;") ∷ []) ≡ 5
unfolding words
three_made = refl

abbrev empty : List ℕ
empty = codes "UNITS DISTANCE MICRONS 1000 ;\nPINS 0 ;\nEND PINS\nFILLS 0 ;\nEND FILLS\nEND DESIGN\n"

renamed : most_reads empty (cut 30 34 (codes "GROUPS") ∷ cut 43 47 (codes "GROUPS") ∷ []) ≡ 2
unfolding words
renamed = refl

-- where it does read, a statement of the later stretch may be read for both
both_read : most_reads text (cut 50 53 (codes "BUF") ∷ cut 61 64 (codes "BUF") ∷ []) ≡ 2
unfolding words
both_read = refl
