use Rattle.std.proofs.Common.{List, ap, map, ◌∙◌}
use Rattle.form_meanings.specs.Firsts.{with_first}
use Rattle.net_entries.specs.Places.{place_in}
use Rattle.reports.specs.MeasuredNets.{MeasuredNet, entry_view, name_of}
use Rattle.reports.proofs.TableLemmas.{key_place, names_put}
use Rattle.reports.proofs.net_table.NetTableNetPlaces.place_of.Goals as goal

pub returns-clause-place : goal.returns-clause-place
returns-clause-place g c =
    c.in_ok-place.ensures.index
    ∙ key_place c.in_ok-key.key c.self.inside.nets.entries
    ∙ ap (place_in (map name_of (map entry_view c.self.inside.nets.entries))) c.in_ok-key.ensures
    ∙ ap (λ (ns : List MeasuredNet). place_in (map name_of ns) c.args.name.now) c.self.view_is

pub returns-clause-named : goal.returns-clause-named
returns-clause-named g c =
    ap (λ es. map name_of (map entry_view es)) c.in_ok-place.ensures.entries
    ∙ names_put c.in_ok-key.key _ c.self.inside.nets.entries
    ∙ ap (with_first (λ n. n) (map name_of (map entry_view c.self.inside.nets.entries))) c.in_ok-key.ensures
    ∙ ap (λ (ns : List MeasuredNet). with_first (λ n. n) (map name_of ns) c.args.name.now) c.self.view_is
