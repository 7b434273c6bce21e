-- Changes that last while others are prepared, made and taken back.
use Rattle.text_pieces.specs.Changes.{IsBetween, Prepared}
use Rattle.text_pieces.specs.Content.{Content}
use Rattle.text_pieces.specs.Preparing.{StandsStill}

-- A change leads from one content to another, or to one in which all stands as it does there. What is kept for other changes
-- doesn't matter: it still leads there from any content in which all stands as in the first.
pub record Leads (c : Content) (p : Prepared) (d : Content) : Type 0 where
  pub other : Content
  pub between : IsBetween c p c other
  pub still : StandsStill d other
