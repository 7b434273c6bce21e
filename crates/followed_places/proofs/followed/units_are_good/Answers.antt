use Rattle.std.proofs.Common.{ap}
use Rattle.design_rules.specs.Boxes.{scale}
use Rattle.design_text.specs.DesignTexts.{text_of}
use Rattle.followed_places.proofs.followed.units_are_good.Goals as goal

pub returns-clause-some : goal.returns-clause-some
returns-clause-some g c =
    let good = c.scales_are_good.ensures (text_of c.args.text.now) _ c.design_is_read.ensures.reads in
    rw (ap scale c.statements_are_kept.ensures.said) good.some

pub returns-clause-few : goal.returns-clause-few
returns-clause-few g c =
    let good = c.scales_are_good.ensures (text_of c.args.text.now) _ c.design_is_read.ensures.reads in
    rw (ap scale c.statements_are_kept.ensures.said) good.few
