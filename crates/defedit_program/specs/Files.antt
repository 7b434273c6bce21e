-- What the program reads of a file.
use Rattle.std.specs.Prelude.{◌<◌, ◌⊎◌, List, ℕ, length}
use Rattle.std.specs.Io.KnownBytes.{Consumes, IsAtEnd}
use Rattle.design_model.specs.declared.TheConstants.{MAX_TEXT}
use Rattle.edit_script.specs.Ends.{Known}

-- all that was left in a file, or so much of it that it is longer than a text may be
abbrev pub IsText : Known → Known → List ℕ → Type 0
IsText old new bytes = Consumes old new bytes × (IsAtEnd new ⊎ (MAX_TEXT < length bytes))
