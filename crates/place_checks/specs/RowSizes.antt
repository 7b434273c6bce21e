-- How far apart the sites of a row are, and how far points of rows reach.
use Rattle.std.specs.Prelude.{◌≤◌, Option, nat_abs}
use Rattle.design_model.specs.declared.geometry.Point.{Point}
use Rattle.form_meanings.specs.Words.{◌>>=◌}
use Rattle.def_grammar.specs.Rows.{SiteArray}
use Rattle.design_rules.specs.Surroundings.{step_of}

-- the step of sites of a size
abbrev pub step_in : Point → Option SiteArray → Point
step_in size sites = step_of size (sites >>= λ (a : SiteArray). a.step)

-- each number of a point lies within plus or minus 10 ^ 11, as a size of a site does
pub record IsSmallPoint (p : Point) : Type 0 where
  pub x : nat_abs p.x ≤ 100000000000
  pub y : nat_abs p.y ≤ 100000000000
