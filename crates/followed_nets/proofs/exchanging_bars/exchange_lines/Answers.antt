use Rattle.followed_nets.proofs.exchanging_bars.exchange_lines.Goals as goal

pub with_lines-requires : goal.with_lines-requires
with_lines-requires g c = (c.requires.0, c.requires.1, c.requires.3, c.requires.4)

pub without_lines-requires : goal.without_lines-requires
without_lines-requires g c =
    let more = rw (c.in-Some.is) at (c.in_ok-more.ensures c.requires.0 c.requires.1 c.requires.3 c.requires.4) in
    (c.requires.1, c.requires.2, more, c.requires.5)

pub returns : goal.returns
returns g c = λ before between after are comes goes.
    let more = rw (c.in-Some.is) at (c.in_ok-more.ensures before between are comes) in
    rw (c.in-Some-2.is) at (c.in_ok-left.ensures between after more goes)
