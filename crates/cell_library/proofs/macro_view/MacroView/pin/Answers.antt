use Rattle.std.proofs.Common.{refl}
use Rattle.cell_library.specs.PinViews.{pin_name, pin_view}
use Rattle.cell_library.proofs.NamedLemmas.{lent_seen}
use Rattle.cell_library.proofs.macro_view.MacroView.pin.Goals as goal

pub returns : goal.returns
returns g c = lent_seen _ _ pin_view pin_name (λ e. refl) c.args.name.now c.get.result c.args.self.cell.now.pins c.get.ensures
