use Rattle.std.proofs.Common.{◌≡◌, ◌∷◌, [], map, rules}
use Rattle.design_text.specs.DesignTexts.{design_of}
use Rattle.followed_measures.specs.Told.{told_names}
use Rattle.followed_measures.specs.ToldViews.{net_view}
use Rattle.followed_measures.proofs.ToldEditLemmas.{net_told}
use Rattle.followed_measures.proofs.told_edit.told_by_net.Goals as goal

pub returns : goal.returns
returns g c =
    let told = rw (c.in-Some.is) at c.in_ok-nets.ensures.told in
    let named : told_names (map net_view c.in-Some.nets.items) ≡ c.args.net.now ∷ [] = search rules in
    net_told c.args.library.now (design_of c.args.text.now) (map net_view c.in-Some.nets.items) c.args.net.now named told
