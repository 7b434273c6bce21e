use Rattle.std.proofs.Common.{ap, ◌∙◌}
use Rattle.std.specs.Option.{option_map}
use Rattle.form_meanings.specs.Firsts.{find_named}
use Rattle.reports.specs.MeasuredNets.{measures_view, name_of}
use Rattle.reports.proofs.TableLemmas.{found}
use Rattle.reports.proofs.net_table.NetTable.get.Goals as goal

pub returns : goal.returns
returns g c =
    ap (option_map (measures_view c.args.name.now)) (c.copied.ensures ∙ c.get.ensures.value)
    ∙ found c.args.name.now c.self.inside.nets.entries
    ∙ ap (λ ns. find_named name_of ns c.args.name.now) c.self.view_is
