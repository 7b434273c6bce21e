use Rattle.std.proofs.Common.{◌≡◌, true, map, sym, ap, ◌∙◌}
use Rattle.design_tables.specs.LettingGo.{is_unused}
use Rattle.design_tables.specs.ListingViews.{named_view}
use Rattle.design_tables.specs.Listings.{found, listed}
use Rattle.design_tables.proofs.LettingLemmas.{listed_left, unused_left}
use Rattle.design_tables.proofs.names.NameTable.let_go_of.Goals as goal

pub returns-then-is_unused-clause-same : goal.returns-then-is_unused-clause-same
returns-then-is_unused-clause-same g c = λ n.
    let es = c.self.inside.names.entries in
    let fs = c.swap_remove.new.self.entries in
    let name = c.args.name.now in
    let up = c.swap_remove.ensures.updates in
    let unused : is_unused (found name (map named_view es)) ≡ true = ap (λ t. is_unused (found name t)) c.self.view_is ∙ sym c.is_unused.ensures ∙ c.if-is_unused.true in
    listed_left name es fs up.1 up.3 unused n ∙ ap (listed n) c.self.view_is

pub returns-then-is_unused-clause-gone : goal.returns-then-is_unused-clause-gone
returns-then-is_unused-clause-gone g c = λ n.
    let es = c.self.inside.names.entries in
    let fs = c.swap_remove.new.self.entries in
    let name = c.args.name.now in
    let up = c.swap_remove.ensures.updates in
    rw c.self.view_is at (unused_left name es fs up.1 up.3 n)
