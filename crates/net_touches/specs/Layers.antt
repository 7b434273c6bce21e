-- The layers that things are on, one after the other.
use Rattle.std.specs.Prelude.{◌≡◌, ℕ, Bool, true, ◌&&◌, nat_lt, List, [], filter, Option, Some, None, IfSome}
use Rattle.design_model.specs.declared.identifier.LayerId.{LayerId}

abbrev pub is_above : Option LayerId → ℕ → Bool
is_above None n = true
is_above (Some l) n = nat_lt l.0 n

abbrev pub is_below : Option LayerId → ℕ → Bool
is_below None n = true
is_below (Some l) n = nat_lt n l.0

-- above one layer and below another; each is, where there is no such layer
abbrev pub is_between : Option LayerId → Option LayerId → ℕ → Bool
is_between after next n = is_above after n && is_below next n

-- of these layers none is above the one and below the next, which is above the one; where there is no next, none is above
pub record IsNext (after : Option LayerId) (layers : List ℕ) (next : Option LayerId) : Type 0 where
  pub above : IfSome next (λ l. is_above after l.0 ≡ true)
  pub none_between : filter (is_between after next) layers ≡ []
