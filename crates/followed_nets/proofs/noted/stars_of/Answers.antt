use Rattle.std.proofs.Common.{rules, ◌≡◌, ◌<◌, length, subst, sym, List}
use Rattle.connection_rules.specs.NetParts.{Net}
use Rattle.design_text.specs.DesignTexts.{design_of}
use Rattle.followed_nets.specs.Stars.{IsStar}
use Rattle.followed_nets.proofs.NoteLemmas.{all_and_one, one_more_named}
use Rattle.followed_nets.proofs.noted.stars_of.Goals as goal

pub loop-name-preserved : goal.loop-name-preserved
loop-name-preserved g c =
    let below : c.loop-name.name-index < length c.args.names.now = search rules in
    let named : c.in-Some.star.name ≡ c.name-item.result = search rules in
    record {
      named = rw (c.in_ok-push-in-Some.ensures.items) (one_more_named c.loop-name.stars.items c.args.names.now c.loop-name.name-index c.name-item.result c.in-Some.star below c.name-item.is named c.loop-name.invariant.named);
      stars = λ library all.
          let star = rw (c.in-Some.is) at (c.in_ok-star.ensures.star library all) in
          rw (c.in_ok-push-in-Some.ensures.items) (all_and_one (IsStar library (design_of c.args.text.now)) c.loop-name.stars.items c.in-Some.star (c.loop-name.invariant.stars library all) star);
    }
