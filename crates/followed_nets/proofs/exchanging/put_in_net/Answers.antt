use Rattle.std.proofs.Common.{List, ◌∷◌, map, ℕ, subst, sym}
use Rattle.following_laws.specs.Following.{LinesFollow}
use Rattle.net_touches.specs.Barriers.{name_at}
use Rattle.followed_nets.specs.Pieces.{lines_on}
use Rattle.followed_nets.specs.ToldViews.{told_view}
use Rattle.followed_nets.proofs.PieceLemmas.{comes, more_are}
use Rattle.followed_nets.proofs.exchanging.put_in_net.Goals as goal

pub followed-requires : goal.followed-requires
followed-requires g c =
    let layers = name_at (map (λ w. w.now) c.args.layers.now) in
    let bars = c.requires.0 in
    let piece = c.requires.1 in
    let rest = c.requires.2 in
    let had = c.requires.4 in
    let follow = comes layers bars piece rest (told_view c.args.net) c.requires.3 c.args.shapes.now had.shapes_are c.in_ok-put.put.lines c.in_ok-put.ensures.lines in
    (lines_on layers rest bars, lines_on layers (piece ∷ rest) bars, had.lines_are, subst (λ (out : List (List ℕ)). LinesFollow (lines_on layers rest bars) (lines_on layers (piece ∷ rest) bars) out c.in_ok-put.put.lines) (sym c.new-none.ensures) follow)

pub returns-clause-follows : goal.returns-clause-follows
returns-clause-follows g c = λ bars piece rest told had.
    let layers = name_at (map (λ w. w.now) c.args.layers.now) in
    let t = told_view c.args.net in
    let follow = comes layers bars piece rest t told c.args.shapes.now had.shapes_are c.in_ok-put.put.lines c.in_ok-put.ensures.lines in
    let these = subst (λ (out : List (List ℕ)). LinesFollow (lines_on layers rest bars) (lines_on layers (piece ∷ rest) bars) out c.in_ok-put.put.lines) (sym c.new-none.ensures) follow in
    record {
      shapes_are = more_are layers bars piece rest t told c.args.shapes.now c.put_in.new.shapes had.shapes_are c.in_ok-put.ensures.shapes;
      lines_are = rw (c.in-Some.is) at (c.in_ok-lines.ensures (lines_on layers rest bars) (lines_on layers (piece ∷ rest) bars) had.lines_are these);
    }
