use Rattle.std.proofs.Common.{◌∙◌, sym}
use Rattle.shape_index.proofs.Finding.{test_is}
use Rattle.shape_index.proofs.shape.are_same.Goals as goal

pub returns : goal.returns
returns c = let t = test_is c.args.a.now c.args.b.now in (λ h. t.0 (sym c.eq.ensures ∙ h), λ s. c.eq.ensures ∙ t.1 s)
