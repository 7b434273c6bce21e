use Rattle.std.proofs.Common.{ap, subst}
use Rattle.std.specs.Option.{option_map}
use Rattle.std.proofs.lemmas.Result.{on_ok_weaker}
use Rattle.design_model.specs.Views.{rectangle_of}
use Rattle.reports.specs.Answers.{Answers}
use Rattle.reports.specs.Densities.{HasExchanged, box_shapes}
use Rattle.reports.proofs.reports.Reports.exchange_component.Goals as goal

pub returns : goal.returns
returns g c =
    let gone = box_shapes (option_map rectangle_of c.args.gone) in
    let come = box_shapes (option_map rectangle_of c.args.come) in
    on_ok_weaker c.exchange_box.result
    (λ e. record {
      layers = ap (λ (a : Answers). a.layers) c.self.view_is;
      nets = ap (λ (a : Answers). a.nets) c.self.view_is;
      total_length = ap (λ (a : Answers). a.total_length) c.self.view_is;
      cells = ap (λ (a : Answers). a.cells) c.self.view_is;
      place_cells = subst (λ (a : Answers). HasExchanged gone come a.place_cells c.exchange_box.new.self) c.self.view_is e;
    })
    c.exchange_box.ensures
