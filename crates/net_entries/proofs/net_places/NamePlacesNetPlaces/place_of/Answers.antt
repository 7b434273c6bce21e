use Rattle.std.proofs.Common.{ap, ◌∙◌}
use Rattle.form_meanings.specs.Firsts.{with_first}
use Rattle.net_entries.specs.Places.{place_in}
use Rattle.net_entries.proofs.PlaceLemmas.{key_place, key_put}
use Rattle.net_entries.proofs.net_places.NamePlacesNetPlaces.place_of.Goals as goal

pub returns-clause-place : goal.returns-clause-place
returns-clause-place g c =
    c.in_ok-place.ensures.index
    ∙ key_place c.in_ok-key.key c.self.inside.names.keys
    ∙ ap (place_in c.self.inside.names.keys) c.in_ok-key.ensures
    ∙ ap (λ names. place_in names c.args.name.now) c.self.view_is

pub returns-clause-named : goal.returns-clause-named
returns-clause-named g c =
    c.in_ok-place.ensures.keys
    ∙ key_put c.in_ok-key.key c.self.inside.names.keys
    ∙ ap (with_first (λ n. n) c.self.inside.names.keys) c.in_ok-key.ensures
    ∙ ap (λ names. with_first (λ n. n) names c.args.name.now) c.self.view_is
