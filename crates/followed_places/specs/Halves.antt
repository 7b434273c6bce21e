-- The components of a text in two halves.
use Rattle.std.specs.Prelude.{Bool, int_lt, not}
use Rattle.design_rules.specs.Boxes.{Boxed}
use Rattle.followed_places.specs.declared.halves.Half.{Half}
use Rattle.followed_places.specs.declared.halves.Half.TheVariants.{Below, From}

-- the lower edge of a component is below an ordinate, or it isn't
abbrev pub is_in : Half → Boxed → Bool
is_in (Below ordinate) c = int_lt c.box.y1 ordinate
is_in (From ordinate) c = not (int_lt c.box.y1 ordinate)
