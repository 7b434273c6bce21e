-- What a session is.
use Rattle.std.specs.Prelude.{ℕ, List}
use Rattle.lef_grammar.specs.Library.{Library}

-- a library, and the present text
pub record Content : Type 0 where
  pub library : Library
  pub text : List ℕ
