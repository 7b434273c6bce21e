-- Things that go out of a list while others come in, and lines that follow.
use Rattle.std.specs.Prelude.{ℕ, List, ◌++◌}
use Rattle.line_laws.specs.Lines.{SameLines, SameThings}

-- of the things of a list some go out, others come in, and the rest stays, in whatever order
pub record Exchange {A : Type 0} (old new out put stay : List A) : Type 0 where
  pub old_is : SameThings old (out ++ stay)
  pub new_is : SameThings new (put ++ stay)

-- of lines some go, others come, and the rest stays, each as often
pub record LinesFollow (old new out put : List (List ℕ)) : Type 0 where
  pub stay : List (List ℕ)
  pub old_is : SameLines old (out ++ stay)
  pub new_is : SameLines new (put ++ stay)
