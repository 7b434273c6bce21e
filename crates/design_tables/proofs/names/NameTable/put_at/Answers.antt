use Rattle.std.proofs.Common.{◌≡◌, true, map, ap, sym, ◌∙◌}
use Rattle.std.specs.Str.{bytes_eq}
use Rattle.design_tables.specs.ListingViews.{named_view}
use Rattle.design_tables.proofs.UpdateLemmas.{put_there, same_at}
use Rattle.design_tables.proofs.names.NameTable.put_at.Goals as goal

pub returns-then-eq-clause-put : goal.returns-then-eq-clause-put
returns-then-eq-clause-put g c = λ is.
    let same : bytes_eq c.bytes.result.now c.args.name.now ≡ true = cc in
    rw (← c.self.view_is)
    (put_there c.self.inside.names c.args.place _ _ c.pair_mut-listing.ensures.unique c.pair_mut-listing.ensures.value c.args.name.now c.args.mark c.push.new.self (ap (λ k. bytes_eq k c.args.name.now) (sym c.bytes.ensures) ∙ same) c.in_ok-push.ensures)

pub returns-clause-same : goal.returns-clause-same
returns-clause-same g c = λ is. ap (map named_view) (same_at c.self.inside.names.entries c.args.place _ _ c.pair_mut-listing.ensures.value) ∙ c.self.view_is
