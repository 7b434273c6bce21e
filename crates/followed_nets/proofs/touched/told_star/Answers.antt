use Rattle.std.proofs.Common.{◌∙◌, List, ℕ, ap}
use Rattle.design_rules.specs.Boxes.{scale}
use Rattle.net_laws.specs.StarNets.{pins_by_one}
use Rattle.design_text.specs.DesignTexts.{design_of}
use Rattle.followed_nets.proofs.touched.told_star.Goals as goal

pub star_pins-requires-clause-head : goal.star_pins-requires-clause-head
star_pins-requires-clause-head g c = c.in-Some.ensures.head (design_of c.args.text.now) c.requires.heads

pub returns-clause-pins : goal.returns-clause-pins
returns-clause-pins g c =
    let design = design_of c.args.text.now in
    let pins = rw (c.in-Some-2.is) at c.in_ok-pins.ensures in
    pins ∙ ap (λ (n : List ℕ). pins_by_one c.args.library.now design (scale design) n c.args.component.now) c.in-Some.ensures.named
