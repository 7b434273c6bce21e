use Rattle.std.proofs.Common.{rules, tests}
use Rattle.std.proofs.lemmas.Iterator.{YieldsList-from_slice, YieldsList-from_map, items_from_collect}
use Rattle.net_classes.proofs.PartHeads.{heads_mark}
use Rattle.net_classes.proofs.class_counts.pin_marks.Goals as goal

pub returns : goal.returns
returns g c =
    rw (← (heads_mark c.args.net.now.parts.now c.args.net.now.shapes.now))
    (items_from_collect _ c.collect.ensures.ran (YieldsList-from_map _ _ (YieldsList-from_slice c.args.net.now.parts.now cc) c.map.ensures.closure (λ x r q k. search (rules, tests))))
