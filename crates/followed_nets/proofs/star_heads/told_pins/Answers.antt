use Rattle.std.proofs.Common.{◌∙◌}
use Rattle.design_text.specs.DesignTexts.{design_of}
use Rattle.followed_nets.specs.ToldViews.{head_view}
use Rattle.followed_nets.proofs.StarHeadLemmas.{told_pins}
use Rattle.followed_nets.proofs.star_heads.told_pins.Goals as goal

pub star_pins-requires-clause-head : goal.star_pins-requires-clause-head
star_pins-requires-clause-head g c = c.requires.head.head

pub returns-clause-pins : goal.returns-clause-pins
returns-clause-pins g c =
    let pins = rw (c.in-Some.is) at c.in_ok-pins.ensures in
    let shapes = rw (c.deref.ensures.value) at c.in_ok-shapes.ensures in
    told_pins c.args.library.now (design_of c.args.text.now) c.args.component.now (head_view c.args.head.now) c.requires.head _ _ _ (c.in_ok-name.ensures ∙ c.bytes.ensures) shapes pins
