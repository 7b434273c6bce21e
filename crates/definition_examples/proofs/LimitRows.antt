-- The limits of a text, with their numbers written out.
use Rattle.std.proofs.Common.{◌≡◌, ◌<◌, ◌++◌, ℕ, List, Ok, Err, refl, codes, length, ◌∷◌, [], lt-ltb}
use Rattle.design_model.specs.declared.TheConstants.{MAX_TEXT}
use Rattle.design_model.specs.declared.fault.FaultCode.TheVariants.{TooLong, Number}
use Rattle.statement_model.specs.Reading.{fault_at, read_text}
use Rattle.def_grammar.specs.Top.{units, end_design}
use Rattle.def_grammar.specs.Records.{top, read_def}
use Rattle.lef_grammar.specs.LefRecords.{read_lef}
use Rattle.definition_examples.proofs.Computing.{def_texts}

-- the most bytes that a text may have
most_text : MAX_TEXT ≡ 1073741824
most_text = refl

-- a text of more is too long, in DEF and in LEF
long_def : (text : List ℕ) → 1073741824 < length text → read_def text ≡ Err (fault_at TooLong 0)
unfolding read_text
long_def text h = rw (lt-ltb MAX_TEXT (length text) h) refl

long_lef : (text : List ℕ) → 1073741824 < length text → read_lef text ≡ Err (fault_at TooLong 0)
unfolding read_text
long_lef text h = rw (lt-ltb MAX_TEXT (length text) h) refl

-- a text with so many database units per micron
abbrev of_scale : List ℕ → List ℕ
of_scale scale = codes "UNITS DISTANCE MICRONS " ++ (scale ++ codes " ;\nEND DESIGN\n")

-- 1 to 100000 database units per micron
fewest_units : (read_def (of_scale (codes "1")) ≡ Ok (top (units (codes "1")) ∷ top end_design ∷ []))
    × (read_def (of_scale (codes "0")) ≡ Err (fault_at Number 23))
unfolding def_texts
fewest_units = (refl, refl)

most_units : (read_def (of_scale (codes "100000")) ≡ Ok (top (units (codes "100000")) ∷ top end_design ∷ []))
    × (read_def (of_scale (codes "100001")) ≡ Err (fault_at Number 23))
unfolding def_texts
most_units = (refl, refl)
