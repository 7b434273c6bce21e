use Rattle.std.proofs.Common.{◌≡◌, ◌∙◌, map, ap}
use Rattle.def_reader.specs.StatementViews.{record_view}
use Rattle.design_rules.specs.Boxes.{scale}
use Rattle.net_laws.specs.StarNets.{TellOne}
use Rattle.design_text.specs.DesignTexts.{design_of, text_of}
use Rattle.followed_nets.specs.ToldViews.{head_view}
use Rattle.followed_nets.proofs.star_pins.star_pins.Goals as goal

pub pins_by-requires-clause-some : goal.pins_by-requires-clause-some
pins_by-requires-clause-some g c =
    let design = design_of c.args.text.now in
    let tell = rw (c.in-Some.is) at c.in_ok-statements.ensures in
    let told = c.one_component_is_told.ensures c.args.library.now (map record_view c.in-Some.statements.items) design (head_view c.args.head.now).name c.args.component.now tell in
    let good = c.scales_are_good.ensures (text_of c.args.text.now) design c.design_is_read.ensures.reads in
    rw (ap (λ l. scale (map record_view l)) c.deref.ensures.value ∙ told.same_scale) good.some

pub pins_by-requires-clause-few : goal.pins_by-requires-clause-few
pins_by-requires-clause-few g c =
    let design = design_of c.args.text.now in
    let tell = rw (c.in-Some.is) at c.in_ok-statements.ensures in
    let told = c.one_component_is_told.ensures c.args.library.now (map record_view c.in-Some.statements.items) design (head_view c.args.head.now).name c.args.component.now tell in
    let good = c.scales_are_good.ensures (text_of c.args.text.now) design c.design_is_read.ensures.reads in
    rw (ap (λ l. scale (map record_view l)) c.deref.ensures.value ∙ told.same_scale) good.few

pub returns : goal.returns
returns g c =
    let design = design_of c.args.text.now in
    let tell = rw (c.in-Some.is) at c.in_ok-statements.ensures in
    let these : TellOne (map record_view c.deref.result.now) design (head_view c.args.head.now).name c.args.component.now = rw (c.deref.ensures.value) tell in
    c.in_ok-pins.ensures design (head_view c.args.head.now).name c.args.component.now these
