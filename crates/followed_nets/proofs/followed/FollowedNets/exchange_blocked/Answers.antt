use Rattle.std.proofs.Common.{rules, ◌≡◌, ◌∙◌, ◌++◌, List, ℕ, arith, map, subst, sym}
use Rattle.std.specs.Prelude.{IfSome}
use Rattle.std.specs.List.{AllByRecursion}
use Rattle.connection_rules.specs.NetLines.{Barrier, layer_name}
use Rattle.connection_rules.specs.NetParts.{Net, all_nets}
use Rattle.design_rules.specs.Boxes.{scale}
use Rattle.net_touches.specs.Barriers.{barrier_view}
use Rattle.design_text.specs.Exchanges.{records_in}
use Rattle.followed_nets.specs.Noted.{said}
use Rattle.followed_nets.specs.Stars.{AreStars, IsStar}
use Rattle.followed_nets.proofs.BarredFollow.{bars_then, come_in, go_out, with_bars}
use Rattle.followed_nets.proofs.BlockedLemmas.{kept_stars, lines_of_come, lines_of_gone}
use Rattle.followed_nets.proofs.followed.FollowedNets.exchange_blocked.Goals as goal

pub barred_lines-requires-clause-common : goal.barred_lines-requires-clause-common
barred_lines-requires-clause-common g c = c.requires.3.nets.common_are

pub barred_lines-requires-clause-stars : goal.barred_lines-requires-clause-stars
barred_lines-requires-clause-stars g c = kept_stars c.args.library.now (said (records_in c.args.text.now)) c.args.self.now.stars c.requires.3.nets.stars_are

pub exchange_lines-requires : goal.exchange_lines-requires
exchange_lines-requires g c =
    let library = c.args.library.now in
    let design = said (records_in c.args.text.now) in
    let old = c.requires.0 in
    let new = c.requires.1 in
    let gone = map barrier_view c.args.changed.gone.items in
    let come = map barrier_view c.args.changed.come.items in
    let are = c.requires.3 in
    let near = rw (c.in-Some.is) at c.in_ok-near.ensures.all in
    let apart = rw (c.in-Some.is) at c.in_ok-near.ensures.apart in
    let tell = rw (c.in-Some-2.is, c.deref.ensures.value) at c.in_ok-lines.ensures.tells in
    let out = rw (c.in-Some-2.is, c.deref.ensures.value) at c.in_ok-lines.ensures.out in
    let put = rw (c.in-Some-2.is, c.deref.ensures.value) at c.in_ok-lines.ensures.put in
    let law = c.told_nets_are_exchanged.ensures in
    let names = c.in-Some.near.names.items in
    let nets = all_nets library design (scale design) in
    let all_out = lines_of_gone (layer_name library.layers) library design law names gone come apart tell c.self.inside.shapes near (rw (← c.self.view_is) at are.nets.shapes_are) _ out in
    let all_put = lines_of_come (layer_name library.layers) library design law names gone come apart tell c.self.inside.shapes near (rw (← c.self.view_is) at are.nets.shapes_are) _ put in
    let follow = c.barred_lines_follow.ensures in
    let on = with_bars follow (layer_name library.layers) nets old new gone come c.requires.2 in (
      on old,
      on (old ++ come),
      on new,
      are.lines,
      come_in follow (layer_name library.layers) nets old new gone come c.requires.2 _ all_put,
      go_out follow (layer_name library.layers) nets old new gone come c.requires.2 _ all_out,
    )

pub returns-clause-lines : goal.returns-clause-lines
returns-clause-lines g c = λ old new change are.
    let library = c.args.library.now in
    let design = said (records_in c.args.text.now) in
    let gone = map barrier_view c.args.changed.gone.items in
    let come = map barrier_view c.args.changed.come.items in
    let near = rw (c.in-Some.is) at c.in_ok-near.ensures.all in
    let apart = rw (c.in-Some.is) at c.in_ok-near.ensures.apart in
    let tell = rw (c.in-Some-2.is, c.deref.ensures.value) at c.in_ok-lines.ensures.tells in
    let out = rw (c.in-Some-2.is, c.deref.ensures.value) at c.in_ok-lines.ensures.out in
    let put = rw (c.in-Some-2.is, c.deref.ensures.value) at c.in_ok-lines.ensures.put in
    let law = c.told_nets_are_exchanged.ensures in
    let names = c.in-Some.near.names.items in
    let nets = all_nets library design (scale design) in
    let all_out = lines_of_gone (layer_name library.layers) library design law names gone come apart tell c.self.inside.shapes near (rw (← c.self.view_is) at are.nets.shapes_are) _ out in
    let all_put = lines_of_come (layer_name library.layers) library design law names gone come apart tell c.self.inside.shapes near (rw (← c.self.view_is) at are.nets.shapes_are) _ put in
    let follow = c.barred_lines_follow.ensures in
    let on = with_bars follow (layer_name library.layers) nets old new gone come change in
    let comes = come_in follow (layer_name library.layers) nets old new gone come change _ all_put in
    let goes = go_out follow (layer_name library.layers) nets old new gone come change _ all_out in
    let made = c.in_ok-exchange_bars.ensures (search (rules, c.if-not-branch.false)) in
    record {
      nets = record {
        shapes_are = rw (← c.self.view_is) at are.nets.shapes_are;
        common_are = rw (← c.self.view_is) at are.nets.common_are;
        bars_are = bars_then old new gone come (map barrier_view c.self.inside.bars.items) (map barrier_view c.exchange_bars.new.bars.items) change (rw (← c.self.view_is) at are.nets.bars_are) made;
        stars_are = rw (← c.self.view_is) at are.nets.stars_are;
        heads_are = rw (← c.self.view_is) at are.nets.heads_are;
      };
      lines = rw (c.in-Some-3.is) at (c.in_ok-lines-2.ensures (on old) (on (old ++ come)) (on new) are.lines comes goes);
    }

pub returns-clause-tests : goal.returns-clause-tests
returns-clause-tests g c =
    let near = rw (c.in-Some.is) at c.in_ok-near.ensures.tests in
    let sum = c.saturating_add-tests.ensures in
    rw (← c.self.view_is) (omega (arith, near, sum))
