use Rattle.std.proofs.Common.{ap, ◌∙◌}
use Rattle.std.specs.Option.{option_map}
use Rattle.design_model.specs.Views.{rectangle_of}
use Rattle.reports.specs.MeasuredNets.{measured_at}
use Rattle.reports.proofs.TableLemmas.{written_at}
use Rattle.reports.proofs.net_table.NetTable.set_at.Goals as goal

pub returns : goal.returns
returns g c =
    written_at c.self.inside.nets.entries c.args.place c.args.measures
    ∙ ap (measured_at c.args.place c.args.measures.length (option_map rectangle_of c.args.measures.bounds)) c.self.view_is
