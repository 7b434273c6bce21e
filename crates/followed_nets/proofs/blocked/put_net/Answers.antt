use Rattle.std.proofs.Common.{map}
use Rattle.net_touches.specs.Barriers.{barrier_view, name_at}
use Rattle.design_text.specs.DesignTexts.{design_of}
use Rattle.followed_nets.proofs.NetWalls.{put_star, star_tells}
use Rattle.followed_nets.proofs.blocked.put_net.Goals as goal

pub returns-in_ok-put_star-in-Some-clause-tells : goal.returns-in_ok-put_star-in-Some-clause-tells
returns-in_ok-put_star-in-Some-clause-tells g c = λ yes.
    let library = c.args.library.now in
    let design = design_of c.args.text.now in
    star_tells c.entries_tell.ensures library design c.in-Some.star.now c.args.net.now (c.in-Some.ensures.star library design c.requires.stars) c.in-Some.ensures.named

pub returns-in_ok-put_star-in-Some-clause-out : goal.returns-in_ok-put_star-in-Some-clause-out
returns-in_ok-put_star-in-Some-clause-out g c = λ yes.
    let library = c.args.library.now in
    let design = design_of c.args.text.now in
    put_star (name_at (map (λ w. w.now) c.args.layers.now)) library design (map barrier_view c.args.changed.now.gone.items) c.in-Some.star.now (c.in-Some.ensures.star library design c.requires.stars) c.args.net.now _ _ c.in-Some.ensures.named
    c.in_ok-put_star-in-Some.ensures.out

pub returns-in_ok-put_star-in-Some-clause-put : goal.returns-in_ok-put_star-in-Some-clause-put
returns-in_ok-put_star-in-Some-clause-put g c = λ yes.
    let library = c.args.library.now in
    let design = design_of c.args.text.now in
    put_star (name_at (map (λ w. w.now) c.args.layers.now)) library design (map barrier_view c.args.changed.now.come.items) c.in-Some.star.now (c.in-Some.ensures.star library design c.requires.stars) c.args.net.now _ _ c.in-Some.ensures.named
    c.in_ok-put_star-in-Some.ensures.put
