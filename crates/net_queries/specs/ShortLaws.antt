-- What the line on two shapes hangs on.
use Rattle.std.specs.Prelude.{◌≡◌, ℕ, List}
use Rattle.connection_rules.specs.NetLines.{NetShape, short_of}

-- The line on two shapes that touch is the same whichever comes first.
abbrev pub ShortIsSymmetric : Type 0
ShortIsSymmetric = (name_of : ℕ → List ℕ) (a b : NetShape) → short_of name_of a b ≡ short_of name_of b a
