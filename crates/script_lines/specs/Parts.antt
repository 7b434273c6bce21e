-- The first line of a text, and the first word of a line.
use Rattle.std.specs.Prelude.{◌≡◌, ℕ, List, [], ◌∷◌, Option, Some, None}
use denote.Ref.{Bor}
use Rattle.edit_rules.specs.Script.{script_lines, line_words, after_word}

-- the lines of what is left of a script, where there is something
abbrev pub lines_left : Option (Bor (List ℕ)) → List (List ℕ)
lines_left None = []
lines_left (Some text) = script_lines text.now

-- the first line and what is left behind it have all the lines
abbrev pub IsNextLine : List ℕ → List ℕ → Option (Bor (List ℕ)) → Type 0
IsNextLine text line later = script_lines text ≡ line ∷ lines_left later

-- the first word and the line behind it have all the words
abbrev pub IsNextWord : List ℕ → Option (Bor (List ℕ) × Bor (List ℕ)) → Type 0
IsNextWord line None = line_words line ≡ []
IsNextWord line (Some (word, later)) = (line_words line ≡ word.now ∷ line_words later.now) × (later.now ≡ after_word line)
