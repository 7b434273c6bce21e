use Rattle.std.proofs.Common.{sym, ap, ◌∙◌}
use Rattle.design_tables.specs.Listings.{found}
use Rattle.design_tables.proofs.ListingLemmas.{found_is, found_lent}
use Rattle.design_tables.proofs.names.NameTable.get.Goals as goal

pub returns : goal.returns
returns g c = found_lent _ _ c.get.ensures.value ∙ sym (found_is c.args.name.now c.self.inside.names.entries) ∙ ap (found c.args.name.now) c.self.view_is
