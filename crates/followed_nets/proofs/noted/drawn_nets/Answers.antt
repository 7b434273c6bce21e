use Rattle.std.proofs.Common.{rules}
use Rattle.followed_nets.proofs.noted.drawn_nets.Goals as goal

pub returns-clause-stars : goal.returns-clause-stars
returns-clause-stars g c = λ names. c.in_ok-stars.ensures c.args.library.now (search rules) names
