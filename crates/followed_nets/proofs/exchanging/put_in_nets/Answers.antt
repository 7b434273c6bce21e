use Rattle.std.proofs.Common.{◌∙◌, [], ◌∷◌, ◌++◌, ap, map, sym, arith, refl}
use Rattle.std.proofs.lemmas.List.{map-append, nil_from_length}
use Rattle.net_touches.specs.Barriers.{name_at}
use Rattle.followed_nets.specs.ToldViews.{told_view}
use Rattle.followed_nets.proofs.NearLemmas.{all_among, among_these, one_tested}
use Rattle.followed_nets.proofs.PiecesLeft.{comes_next, last_to_come, none_to_come}
use Rattle.followed_nets.proofs.exchanging.put_in_nets.Goals as goal

pub loop-net-init : goal.loop-net-init
loop-net-init g c = record {
  left = λ bars pieces rest told had. record { left = pieces; there = rest; all_are = refl; told = told; had = had };
  tests = λ then among. omega arith;
}

pub put_in_net-requires : goal.put_in_net-requires
put_in_net-requires g c =
    let layers = name_at (map (λ w. w.now) c.args.layers.now) in
    let bars = c.requires.0 in
    let come = c.loop-net.invariant.left bars c.requires.1 c.requires.2 c.requires.3 c.requires.4 in
    let is = ap (map told_view) c.in-Some.ensures.items ∙ map-append told_view c.pop.new.self.items (c.in-Some.net ∷ []) in
    let last = last_to_come layers bars (c.requires.1 ++ c.requires.2) _ _ _ _ _ come is in
    (bars, last.piece, come.there, last.is, come.had)

pub loop-net-preserved : goal.loop-net-preserved
loop-net-preserved g c =
    let layers = name_at (map (λ w. w.now) c.args.layers.now) in
    let is = ap (map told_view) c.in-Some.ensures.items ∙ map-append told_view c.pop.new.self.items (c.in-Some.net ∷ []) in
    let shapes = rw (c.in-Some-2.is) at c.in_ok-more.ensures.shapes in
    record {
      left = λ bars pieces rest told had.
          let come = c.loop-net.invariant.left bars pieces rest told had in
          let last = last_to_come layers bars (pieces ++ rest) _ _ _ _ _ come is in
          comes_next layers bars (pieces ++ rest) _ _ _ _ _ come is c.put_in_net.new.shapes c.in-Some-2.more.lines.lines (rw (c.in-Some-2.is) at (c.in_ok-more.ensures.follows bars last.piece come.there last.is come.had));
      tests = λ then among.
          let before = among_these c.loop-net.shapes c.put_in_net.new.shapes then shapes among in
          one_tested _ _ (told_view c.in-Some.net) then c.loop-net.shapes _ _ _ is before (rw (c.in-Some-2.is) at c.in_ok-more.ensures.tests) (c.loop-net.invariant.tests then before);
    }

pub returns-clause-follows : goal.returns-clause-follows
returns-clause-follows g c = λ bars pieces rest told had.
    let none = nil_from_length c.loop-net.nets.items (sym c.loop-net.nets.ok.0 ∙ c.in_default.ensures.cases.0) in
    none_to_come (name_at (map (λ w. w.now) c.args.layers.now)) bars (pieces ++ rest) _ _ _ (ap (map told_view) none) (c.loop-net.invariant.left bars pieces rest told had)

pub returns-clause-tests : goal.returns-clause-tests
returns-clause-tests g c = let few = c.loop-net.invariant.tests c.loop-net.shapes (all_among c.loop-net.shapes) in omega (arith, few)
