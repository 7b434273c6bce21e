use Rattle.std.proofs.Common.{ap, refl, ◌∙◌}
use Rattle.design_tables.specs.Listings.{has_name}
use Rattle.design_tables.proofs.ExchangeLemmas.{all_left, are_apart}
use Rattle.design_tables.proofs.names.NameTable.make_places.Goals as goal

pub loop-name-init : goal.loop-name-init
loop-name-init g c = record {
  same = λ n. refl;
  kept = λ n has. has;
  there = λ n has. all_left n c.of.inside.names.entries c.keys-left.result (has_name n c.args.self.now) c.keys-left.ensures.rest (ap (has_name n) c.of.view_is ∙ has);
}

pub returns-in_err-make_place-clause-apart : goal.returns-in_err-make_place-clause-apart
returns-in_err-make_place-clause-apart g c = rw (← c.of.view_is) (are_apart c.of.inside.names.entries c.keys-left.ensures.unique)

pub returns-clause-apart : goal.returns-clause-apart
returns-clause-apart g c = rw (← c.of.view_is) (are_apart c.of.inside.names.entries c.keys-left.ensures.unique)
