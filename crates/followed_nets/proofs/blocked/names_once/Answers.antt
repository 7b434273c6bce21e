use Rattle.std.proofs.Common.{rules, ◌≡◌, ◌∙◌, ◌≤◌, ◌||◌, Bool, List, ℕ, [], ap, length, sym}
use Rattle.std.proofs.lemmas.List.{drop_all}
use Rattle.net_laws.specs.NetChanges.{is_one_of}
use Rattle.followed_nets.proofs.NearNames.{next_once, or_none}
use Rattle.followed_nets.proofs.blocked.names_once.Goals as goal

pub loop-name-preserved : goal.loop-name-preserved
loop-name-preserved g c = record {
  all =
      next_once c.args.names.now c.loop-name.name-index c.name-item.result c.loop-name-test.true c.name-item.is c.loop-name.once.items c.add_name.new.nets.items c.loop-name.invariant.all
      (rw (c.bytes.ensures) at c.in_ok-add_name.ensures.all);
  apart = c.in_ok-add_name.ensures.apart c.loop-name.invariant.apart;
}

pub returns-clause-all : goal.returns-clause-all
returns-clause-all g c = λ net.
    let past : length c.args.names.now ≤ c.loop-name.name-index = search rules in
    or_none (is_one_of c.loop-name.once.items net) _ (ap (λ (l : List (List ℕ)). is_one_of l net) (drop_all c.loop-name.name-index c.args.names.now past)) ∙ c.loop-name.invariant.all net
