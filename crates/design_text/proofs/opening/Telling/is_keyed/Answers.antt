use Rattle.std.proofs.Common.{◌∙◌, sym}
use Rattle.design_text.proofs.opening.Telling.is_keyed.Goals as goal

pub returns : goal.returns
returns g c = λ xs told e. record { once = told.1 c.if-self.false; units = sym (c.has_units.ensures xs told.0) ∙ e }
