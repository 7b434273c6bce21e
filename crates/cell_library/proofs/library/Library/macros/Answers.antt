use Rattle.std.proofs.Common.{ap}
use Rattle.lef_grammar.specs.Library.{Library}
use Rattle.cell_library.proofs.library.Library.macros.Goals as goal

pub returns : goal.returns
returns g c = ap (λ (l : Library). l.macros) c.self.view_is
