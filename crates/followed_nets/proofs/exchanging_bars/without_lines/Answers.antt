use Rattle.std.proofs.Common.{List, ℕ, subst, sym}
use Rattle.following_laws.specs.Following.{LinesFollow}
use Rattle.followed_nets.proofs.exchanging_bars.without_lines.Goals as goal

pub followed-requires : goal.followed-requires
followed-requires g c = (c.requires.0, c.requires.1, c.requires.2, subst (λ (put : List (List ℕ)). LinesFollow c.requires.0 c.requires.1 c.args.out put) (sym c.new-none.ensures) c.requires.3)

pub returns : goal.returns
returns g c = λ before after are follow. c.followed.ensures before after are (subst (λ (put : List (List ℕ)). LinesFollow before after c.args.out put) (sym c.new-none.ensures) follow)
