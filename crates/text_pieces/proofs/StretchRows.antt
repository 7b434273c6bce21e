-- Worked rows: which statements of a text are new where a cut is made.
use Rattle.std.proofs.Common.{◌≡◌, List, ℕ, [], ◌∷◌, refl, codes}
use Rattle.design_model.specs.EnumWords.{section_word}
use Rattle.design_model.specs.Units.{whole}
use Rattle.design_model.specs.declared.mode.Mode.TheVariants.{Top, In, After}
use Rattle.design_model.specs.declared.mode.Section.TheVariants.{Components}
use Rattle.form_meanings.specs.Meaning.{repeat}
use Rattle.form_meanings.specs.Words.{number_at, split_at}
use Rattle.statement_model.specs.Boundaries.{last_of}
use Rattle.statement_model.specs.Cuts.{Cut}
use Rattle.statement_model.specs.Tokens.{lex}
use Rattle.statement_reader.specs.Located.{located_on}
use Rattle.def_grammar.specs.Components.{clause, component_form, placement}
use Rattle.def_grammar.specs.Numbers.{is_count, is_int, is_scale}
use Rattle.def_grammar.specs.Records.{entries_form, statement}
use Rattle.def_grammar.specs.Top.{floor_statement, header_statement, kept_statement, plain_statement, top_statement, units_statement}
use Rattle.text_pieces.specs.NewStretches.{ends_of, new_stretch}

abbrev text : List ℕ
text = codes "UNITS DISTANCE MICRONS 1000 ;\nCOMPONENTS 2 ;\n- u1 INV ;\n- u2 INV ;\nEND COMPONENTS\nEND DESIGN\n"

abbrev cut : ℕ → ℕ → List ℕ → Cut
cut lo hi put = record { lo = lo; hi = hi; put = put }

unfoldable words : Unit {0}
unfolding lex last_of repeat split_at number_at whole located_on section_word is_count is_int is_scale units_statement header_statement floor_statement kept_statement plain_statement top_statement placement clause component_form entries_form statement
words = tt

all_ends : ends_of text ≡ (29, Top) ∷ (44, In Components) ∷ (55, In Components) ∷ (66, In Components) ∷ (81, Top) ∷ (92, After) ∷ []
unfolding words
all_ends = refl

-- another macro
one_changed : new_stretch text (cut 50 53 (codes "NAND")) ≡ (56, In Components) ∷ []
unfolding words
one_changed = refl

-- a comment is opened over the next statement, so that what comes behind that ends as it did
one_hidden : new_stretch text (cut 55 56 (codes " #")) ≡ (55, In Components) ∷ (82, Top) ∷ []
unfolding words
one_hidden = refl

-- what is put between two statements might go on with the first, which is read again
one_put : new_stretch text (cut 55 55 (codes "\n- u3 INV ;")) ≡ (55, In Components) ∷ (66, In Components) ∷ []
unfolding words
one_put = refl

-- and so might what comes behind a statement that is gone
one_gone : new_stretch text (cut 44 55 []) ≡ (44, In Components) ∷ []
unfolding words
one_gone = refl

-- where the first is gone, the one behind it is counted, but isn't read
first_gone : new_stretch text (cut 0 29 []) ≡ (15, In Components) ∷ []
unfolding words
first_gone = refl
