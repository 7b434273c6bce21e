use Rattle.std.proofs.Common.{◌≡◌, ◌∙◌, map, ap}
use Rattle.def_reader.specs.StatementViews.{record_view}
use Rattle.design_rules.specs.Boxes.{scale}
use Rattle.net_laws.specs.OneNet.{TellNet}
use Rattle.design_text.specs.DesignTexts.{design_of, text_of}
use Rattle.followed_nets.proofs.told.told_net.Goals as goal

pub told_of-requires-clause-some : goal.told_of-requires-clause-some
told_of-requires-clause-some g c =
    let design = design_of c.args.text.now in
    let tell = rw (c.in-Some.is) at c.in_ok-statements.ensures in
    let told = c.one_net_is_told.ensures c.args.library.now (map record_view c.in-Some.statements.items) design c.args.net.now tell in
    let good = c.scales_are_good.ensures (text_of c.args.text.now) design c.design_is_read.ensures.reads in
    rw (ap (λ l. scale (map record_view l)) c.deref.ensures.value ∙ told.same_scale) good.some

pub told_of-requires-clause-few : goal.told_of-requires-clause-few
told_of-requires-clause-few g c =
    let design = design_of c.args.text.now in
    let tell = rw (c.in-Some.is) at c.in_ok-statements.ensures in
    let told = c.one_net_is_told.ensures c.args.library.now (map record_view c.in-Some.statements.items) design c.args.net.now tell in
    let good = c.scales_are_good.ensures (text_of c.args.text.now) design c.design_is_read.ensures.reads in
    rw (ap (λ l. scale (map record_view l)) c.deref.ensures.value ∙ told.same_scale) good.few

pub returns-clause-told : goal.returns-clause-told
returns-clause-told g c =
    let design = design_of c.args.text.now in
    let tell = rw (c.in-Some.is) at c.in_ok-statements.ensures in
    let these : TellNet (map record_view c.deref.result.now) design c.args.net.now = rw (c.deref.ensures.value) tell in
    record { some = map record_view c.deref.result.now; tell = these; told = c.in_ok-told.ensures.told design these }
