use Rattle.std.proofs.Common.{◌+◌, ◌-◌, Some, map, ap, subst, ◌∙◌, if◌then◌else◌}
use Rattle.std.specs.Str.{bytes_eq}
use Rattle.std.specs.Option.{option_map}
use Rattle.design_model.specs.Views.{rectangle_of}
use Rattle.net_lists.specs.PartCuts.{shape_view}
use Rattle.reports.specs.Answers.{Answers, box_in, length_in}
use Rattle.reports.specs.Densities.{HasExchanged}
use Rattle.reports.specs.MeasuredNets.{MeasuredNet, measures_view}
use Rattle.reports.proofs.ExchangeSteps.{other_total, told_in}
use Rattle.reports.proofs.reports.Reports.exchange_net.Goals as goal

pub returns : goal.returns
returns g c =
    let name = c.args.name.now in
    let length = c.args.new_length in
    let measures = measures_view name (record { length = length; bounds = c.args.bounds }) in
    record {
      layers = ap (λ (a : Answers). a.layers) c.self.view_is;
      net_length = λ n.
          told_in (λ (m : MeasuredNet). m.net_length) name measures c.self.inside.measured.table c.set.new.self c.in_ok-set.ensures n
          ∙ ap (λ (a : Answers). if bytes_eq name n then Some length else length_in a n) c.self.view_is;
      net_box = λ n.
          told_in (λ (m : MeasuredNet). m.net_box) name measures c.self.inside.measured.table c.set.new.self c.in_ok-set.ensures n
          ∙ ap (λ (a : Answers). if bytes_eq name n then Some (option_map rectangle_of c.args.bounds) else box_in a n) c.self.view_is;
      total_length = other_total c.args.self.now.total_length length c.args.old_length _ c.requires.within (ap (λ (a : Answers). a.total_length - c.args.old_length + length) c.self.view_is);
      cells = subst (λ (a : Answers). HasExchanged (map shape_view c.args.gone.now) (map shape_view c.args.come.now) a.cells c.exchange.new.self) c.self.view_is c.in_ok-exchange.ensures;
      place_cells = ap (λ (a : Answers). a.place_cells) c.self.view_is;
    }
