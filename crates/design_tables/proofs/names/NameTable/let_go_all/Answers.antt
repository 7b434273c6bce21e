use Rattle.std.proofs.Common.{ap, not, refl, ◌∙◌}
use Rattle.design_tables.specs.LettingGo.{is_unused}
use Rattle.design_tables.specs.Listings.{found, has_name}
use Rattle.design_tables.proofs.ExchangeLemmas.{all_left}
use Rattle.design_tables.proofs.names.NameTable.let_go_all.Goals as goal

pub loop-name-init : goal.loop-name-init
loop-name-init g c = record {
  same = λ n. refl;
  gone = λ n has. all_left n c.change.inside.names.entries c.keys-left.result (not (is_unused (found n c.args.self.now))) c.keys-left.ensures.rest (ap (has_name n) c.change.view_is ∙ has);
}
