use Rattle.std.proofs.Common.{◌≡◌, ◌||◌, ℕ, List, drop}
use Rattle.net_laws.specs.NetChanges.{is_one_of}
use Rattle.followed_nets.specs.Listed.{AreApart}
use Rattle.followed_nets.proofs.blocked.names_once.Given as goal

abbrev pub invariant-loop-name : goal.invariant-loop-name
invariant-loop-name g l = record {
  all : (net : List ℕ) → (is_one_of l.once.items net || is_one_of (drop l.name-index l.names) net) ≡ is_one_of l.names net;
  apart : AreApart l.once.items;
}
