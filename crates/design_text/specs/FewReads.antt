-- How many statements are read at most where cuts of a text are made.
use Rattle.std.specs.Prelude.{◌+◌, ◌≤◌, ℕ, List, [], ◌∷◌, length, Ok, is_ok, if◌then◌else◌}
use Rattle.statement_model.specs.Cuts.{Cut, with_cuts}
use Rattle.def_grammar.specs.Records.{read_def}
use Rattle.lef_grammar.specs.Library.{Library}
use Rattle.edit_rules.specs.Edits.{Change}
use Rattle.edit_rules.specs.Runs.{Makes}
use Rattle.text_pieces.specs.Covering.{cover_of}
use Rattle.text_pieces.specs.NewStretches.{new_stretch}

-- those that are new where one cut is made
abbrev pub new_in : List ℕ → Cut → ℕ
new_in text cut = length (new_stretch text cut)

-- None for no cut; for two cuts those of each, where the text reads with the later one alone; and else those of all bytes from the
-- first cut to the last.
abbrev pub most_reads : List ℕ → List Cut → ℕ
most_reads text [] = 0
most_reads text (first ∷ last ∷ []) =
    let between = with_cuts (last ∷ []) text in
    if is_ok (read_def between) then new_in text last + new_in between first else new_in text (cover_of text (first ∷ last ∷ []))
most_reads text cuts = new_in text (cover_of text cuts)

-- an edit of a text reads no more for the cuts that it makes
abbrev pub ReadsFew : Library → List ℕ → Change → ℕ → Type 0
ReadsFew library text change reads = (cuts : List Cut) × Makes library text change (Ok cuts) × (reads ≤ most_reads text cuts)
