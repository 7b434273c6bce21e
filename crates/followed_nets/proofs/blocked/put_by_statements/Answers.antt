use Rattle.std.proofs.Common.{◌∙◌, ap, map}
use Rattle.def_reader.specs.StatementViews.{record_view}
use Rattle.connection_rules.specs.NetParts.{all_nets}
use Rattle.design_rules.specs.Boxes.{scale}
use Rattle.net_touches.specs.Barriers.{barrier_view, name_at}
use Rattle.design_text.specs.DesignTexts.{design_of, text_of}
use Rattle.followed_nets.proofs.NetWalls.{put_alone}
use Rattle.followed_nets.proofs.blocked.put_by_statements.Goals as goal

pub put_told-requires-clause-some : goal.put_told-requires-clause-some
put_told-requires-clause-some g c =
    let design = design_of c.args.text.now in
    let tell = rw (c.in-Some.is) at c.in_ok-statements.ensures in
    let told = c.one_net_is_told.ensures c.args.library.now (map record_view c.in-Some.statements.items) design c.args.net.now tell in
    let good = c.scales_are_good.ensures (text_of c.args.text.now) design c.design_is_read.ensures.reads in
    rw (ap (λ l. scale (map record_view l)) c.deref.ensures.value ∙ told.same_scale) good.some

pub put_told-requires-clause-few : goal.put_told-requires-clause-few
put_told-requires-clause-few g c =
    let design = design_of c.args.text.now in
    let tell = rw (c.in-Some.is) at c.in_ok-statements.ensures in
    let told = c.one_net_is_told.ensures c.args.library.now (map record_view c.in-Some.statements.items) design c.args.net.now tell in
    let good = c.scales_are_good.ensures (text_of c.args.text.now) design c.design_is_read.ensures.reads in
    rw (ap (λ l. scale (map record_view l)) c.deref.ensures.value ∙ told.same_scale) good.few

pub returns-clause-tells : goal.returns-clause-tells
returns-clause-tells g c = λ yes. (map record_view c.in-Some.statements.items, rw (c.in-Some.is) at c.in_ok-statements.ensures)

pub returns-clause-out : goal.returns-clause-out
returns-clause-out g c = λ yes.
    let library = c.args.library.now in
    let design = design_of c.args.text.now in
    let some = map record_view c.in-Some.statements.items in
    let tell = rw (c.in-Some.is) at c.in_ok-statements.ensures in
    let told = c.one_net_is_told.ensures library some design c.args.net.now tell in
    let put = rw (c.deref.ensures.value) at c.in_ok-put_told.ensures.out in
    put_alone (name_at (map (λ w. w.now) c.args.layers.now)) library design (map barrier_view c.args.changed.now.gone.items) c.args.net.now (all_nets library some (scale some)) _ _ told.nets put

pub returns-clause-put : goal.returns-clause-put
returns-clause-put g c = λ yes.
    let library = c.args.library.now in
    let design = design_of c.args.text.now in
    let some = map record_view c.in-Some.statements.items in
    let tell = rw (c.in-Some.is) at c.in_ok-statements.ensures in
    let told = c.one_net_is_told.ensures library some design c.args.net.now tell in
    let put = rw (c.deref.ensures.value) at c.in_ok-put_told.ensures.put in
    put_alone (name_at (map (λ w. w.now) c.args.layers.now)) library design (map barrier_view c.args.changed.now.come.items) c.args.net.now (all_nets library some (scale some)) _ _ told.nets put
