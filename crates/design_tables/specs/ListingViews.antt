-- Tables of the program as those of the definitions.
use Rattle.std.specs.Prelude.{ℕ, List}
use Rattle.design_tables.specs.Listings as definitions
use Rattle.design_tables.specs.MarkLists.{marks_listed}
use Rattle.design_tables.specs.declared.names.Listing.{Listing}

abbrev pub listing_view : {A : Type 0} → Listing A → definitions.Listing
listing_view l = record { marks = marks_listed l.marks; entries = l.entries }

abbrev pub named_view : {A : Type 0} → List ℕ × Listing A → List ℕ × definitions.Listing
named_view e = (e.0, listing_view e.1)
