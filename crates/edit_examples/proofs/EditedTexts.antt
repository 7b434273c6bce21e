-- What an edit makes of a small DEF text, with the library of the examples on nets.
use Rattle.std.specs.Prelude.{◌≡◌, ℕ, List, [], ◌++◌, Result, Ok, Err, codes}
use Rattle.design_model.specs.declared.fault.Fault.{Fault}
use Rattle.edit_model.specs.declared.edit.EditCode.{EditCode}
use Rattle.statement_model.specs.Cuts.{Cut, with_cuts}
use Rattle.def_grammar.specs.Records.{Record, read_def}
use Rattle.connection_examples.proofs.NetTexts.{library, net_words}
use Rattle.edit_rules.specs.Edits.{Change, cuts_of}
use Rattle.edit_rules.specs.NetEdits.{opens_comment}

unfoldable pub edit_words : Unit {0}
unfolding net_words opens_comment
edit_words = tt

abbrev made : List ℕ → Result (List Cut) EditCode → Result (List ℕ) EditCode
made text (Ok cuts) = Ok (with_cuts cuts text)
made text (Err code) = Err code

abbrev edited_if : List ℕ → Result (List Record) Fault → Change → Result (List ℕ) EditCode
edited_if text (Ok design) change = made text (cuts_of library text design change)
edited_if text (Err fault) change = Ok []

-- the text of UNITS, these statements, and END DESIGN
abbrev pub text_of : List ℕ → List ℕ
text_of statements = codes "UNITS DISTANCE MICRONS 1000 ;\n" ++ statements ++ codes "END DESIGN\n"

-- the edit of a text with these statements is refused so,
abbrev pub Refuses : List ℕ → Change → EditCode → Type 0
Refuses statements change code = edited_if (text_of statements) (read_def (text_of statements)) change ≡ Err code

-- or makes these of them
abbrev pub Makes : List ℕ → Change → List ℕ → Type 0
Makes statements change new = edited_if (text_of statements) (read_def (text_of statements)) change ≡ Ok (text_of new)
