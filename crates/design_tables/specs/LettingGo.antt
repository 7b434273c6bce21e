-- Changes of tables that are let go of.
use Rattle.std.specs.Prelude.{◌≡◌, ◌==◌, ◌&&◌, ℕ, Bool, true, false, List, Option, Some, None, length}
use Rattle.design_tables.specs.Listings.{Listing, found, has_name}

-- nothing stands under a name that has a place
abbrev pub is_unused : Option Listing → Bool
is_unused None = false
is_unused (Some l) = length l.marks == 0 && l.entries == 0

-- of the names of a change, none has a place in a table under which nothing stands
abbrev pub AreInUse : List (List ℕ × Listing) → List (List ℕ × Listing) → Type 0
AreInUse change es = (name : List ℕ) → has_name name change ≡ true → is_unused (found name es) ≡ false
