use Rattle.std.proofs.Common.{◌∙◌, [], ◌∷◌, ap, map, sym, arith}
use Rattle.std.proofs.lemmas.List.{map-append, nil_from_length}
use Rattle.net_touches.specs.Barriers.{name_at}
use Rattle.followed_nets.specs.ToldViews.{told_view}
use Rattle.followed_nets.proofs.NearLemmas.{all_among, among_these, one_tested}
use Rattle.followed_nets.proofs.PiecesLeft.{goes_next, last_to_go, none_to_go}
use Rattle.followed_nets.proofs.ShortLines.{same_shorts}
use Rattle.followed_nets.proofs.exchanging.take_out_nets.Goals as goal

pub loop-net-init : goal.loop-net-init
loop-net-init g c = record {
  left = λ bars pieces rest told had. record { left = pieces; told = told; had = had };
  among = all_among c.args.shapes.now;
  tests = omega arith;
}

pub take_out_net-requires : goal.take_out_net-requires
take_out_net-requires g c =
    let layers = name_at (map (λ w. w.now) c.args.layers.now) in
    let bars = c.requires.0 in
    let rest = c.requires.2 in
    let go = c.loop-net.invariant.left bars c.requires.1 rest c.requires.3 c.requires.4 in
    let is = ap (map told_view) c.in-Some.ensures.items ∙ map-append told_view c.pop.new.self.items (c.in-Some.net ∷ []) in
    let symmetric = same_shorts c.short_is_symmetric.ensures layers in
    let last = last_to_go layers bars c.same_lines_sort_alike.ensures symmetric rest _ _ _ _ _ go is in
    (bars, last.piece, _, last.is, goes_next layers bars c.same_lines_sort_alike.ensures symmetric rest _ _ _ _ _ go is)

pub loop-net-preserved : goal.loop-net-preserved
loop-net-preserved g c =
    let layers = name_at (map (λ w. w.now) c.args.layers.now) in
    let is = ap (map told_view) c.in-Some.ensures.items ∙ map-append told_view c.pop.new.self.items (c.in-Some.net ∷ []) in
    let symmetric = same_shorts c.short_is_symmetric.ensures layers in
    let among = among_these c.take_out_net.new.shapes c.loop-net.shapes c.args.shapes.now (rw (c.in-Some-2.is) at c.in_ok-left.ensures.shapes) c.loop-net.invariant.among in
    record {
      left = λ bars pieces rest told had.
          let go = c.loop-net.invariant.left bars pieces rest told had in
          let last = last_to_go layers bars c.same_lines_sort_alike.ensures symmetric rest _ _ _ _ _ go is in
          let next = goes_next layers bars c.same_lines_sort_alike.ensures symmetric rest _ _ _ _ _ go is in
          record { left = last.earlier; told = last.told; had = rw (c.in-Some-2.is) at (c.in_ok-left.ensures.follows bars last.piece _ last.is next) };
      among = among;
      tests = one_tested _ _ (told_view c.in-Some.net) c.args.shapes.now c.take_out_net.new.shapes _ _ _ is among (rw (c.in-Some-2.is) at c.in_ok-left.ensures.tests) c.loop-net.invariant.tests;
    }

pub returns-clause-follows : goal.returns-clause-follows
returns-clause-follows g c = λ bars pieces rest told had.
    let none = nil_from_length c.loop-net.nets.items (sym c.loop-net.nets.ok.0 ∙ c.in_default.ensures.cases.0) in
    none_to_go (name_at (map (λ w. w.now) c.args.layers.now)) bars rest _ _ _ (ap (map told_view) none) (c.loop-net.invariant.left bars pieces rest told had)

pub returns-clause-tests : goal.returns-clause-tests
returns-clause-tests g c = let few = c.loop-net.invariant.tests in omega (arith, few)
