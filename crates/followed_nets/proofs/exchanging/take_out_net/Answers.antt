use Rattle.std.proofs.Common.{List, ◌∷◌, map, ℕ, subst, sym}
use Rattle.following_laws.specs.Following.{LinesFollow}
use Rattle.net_touches.specs.Barriers.{name_at}
use Rattle.followed_nets.specs.Pieces.{lines_on}
use Rattle.followed_nets.specs.ToldViews.{told_view}
use Rattle.followed_nets.proofs.PieceLemmas.{goes, left_are}
use Rattle.followed_nets.proofs.exchanging.take_out_net.Goals as goal

pub followed-requires : goal.followed-requires
followed-requires g c =
    let layers = name_at (map (λ w. w.now) c.args.layers.now) in
    let bars = c.requires.0 in
    let piece = c.requires.1 in
    let rest = c.requires.2 in
    let had = c.requires.4 in
    let t = told_view c.args.net in
    let removed = rw (c.in-Some.is) at c.in_ok-out.ensures.shapes in
    let lines = rw (c.in-Some.is) at c.in_ok-out.ensures.lines in
    let left = left_are layers bars piece rest t c.requires.3 c.args.shapes.now c.take_out.new.shapes had.shapes_are removed in
    let follow = goes layers bars piece rest t c.requires.3 c.take_out.new.shapes left c.in-Some.out.lines lines in
    (lines_on layers (piece ∷ rest) bars, lines_on layers rest bars, had.lines_are, subst (λ (put : List (List ℕ)). LinesFollow (lines_on layers (piece ∷ rest) bars) (lines_on layers rest bars) c.in-Some.out.lines put) (sym c.new-none.ensures) follow)

pub returns-clause-follows : goal.returns-clause-follows
returns-clause-follows g c = λ bars piece rest told had.
    let layers = name_at (map (λ w. w.now) c.args.layers.now) in
    let t = told_view c.args.net in
    let removed = rw (c.in-Some.is) at c.in_ok-out.ensures.shapes in
    let lines = rw (c.in-Some.is) at c.in_ok-out.ensures.lines in
    let left = left_are layers bars piece rest t told c.args.shapes.now c.take_out.new.shapes had.shapes_are removed in
    let follow = goes layers bars piece rest t told c.take_out.new.shapes left c.in-Some.out.lines lines in
    let these = subst (λ (put : List (List ℕ)). LinesFollow (lines_on layers (piece ∷ rest) bars) (lines_on layers rest bars) c.in-Some.out.lines put) (sym c.new-none.ensures) follow in
    record { shapes_are = left; lines_are = rw (c.in-Some-2.is) at (c.in_ok-lines.ensures (lines_on layers (piece ∷ rest) bars) (lines_on layers rest bars) had.lines_are these) }
