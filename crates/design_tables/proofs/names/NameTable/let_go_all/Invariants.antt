use Rattle.std.proofs.Common.{◌≡◌, ◌||◌, ℕ, List, true, not}
use Rattle.std.specs.List.{list_any}
use Rattle.std.specs.Str.{bytes_eq}
use Rattle.design_tables.specs.LettingGo.{is_unused}
use Rattle.design_tables.specs.Listings.{found, has_name, listed}
use Rattle.design_tables.proofs.names.NameTable.let_go_all.Given as goal

abbrev pub invariant-loop-name : goal.invariant-loop-name
invariant-loop-name g l = record {
  same : (n : List ℕ) → listed n l.self ≡ listed n l.initial.self;
  gone : (n : List ℕ) → has_name n l.change ≡ true → (list_any (λ k. bytes_eq n k) l.left || not (is_unused (found n l.self))) ≡ true;
}
