use Rattle.std.proofs.Common.{◌≡◌, ◌||◌, ℕ, List, true}
use Rattle.std.specs.List.{list_any}
use Rattle.std.specs.Str.{bytes_eq}
use Rattle.design_tables.specs.Listings.{has_name, listed}
use Rattle.design_tables.specs.Prepared.{HasNames}
use Rattle.design_tables.proofs.names.NameTable.make_places.Given as goal

abbrev pub invariant-loop-name : goal.invariant-loop-name
invariant-loop-name g l = record {
  same : (n : List ℕ) → listed n l.self ≡ listed n l.initial.self;
  kept : HasNames l.initial.self l.self;
  there : (n : List ℕ) → has_name n l.of ≡ true → (list_any (λ k. bytes_eq n k) l.left || has_name n l.self) ≡ true;
}
