use Rattle.std.proofs.Common.{◌++◌, ◌∷◌, [], List, ap, ◌∙◌, if◌then◌else◌}
use Rattle.std.specs.List.{list_any}
use Rattle.cell_sums.specs.Blocks.{Key, is_key}
use Rattle.cell_sums.proofs.block_places.BlockPlaces.push.Goals as goal

pub returns-clause-pushed : goal.returns-clause-pushed
returns-clause-pushed g c =
    let key = c.args.key in
    let keys = c.self.inside.keys.keys in
    c.in_ok-insert.ensures.keys
    ∙ ap (λ b. if b then keys else keys ++ key ∷ []) (ap (λ (ks : List Key). list_any (is_key key) ks) c.self.view_is ∙ c.requires)
    ∙ ap (λ (ks : List Key). ks ++ key ∷ []) c.self.view_is
