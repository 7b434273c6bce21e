use Rattle.std.proofs.Common.{rules, ◌∙◌}
use Rattle.std.proofs.lemmas.Result.{IfOk-weaker}
use Rattle.std.proofs.lemmas.Iterator.{YieldsList-from_map, YieldsList-from_slice, items_from_collect}
use Rattle.std.proofs.lemmas.Iterator.Consumers.{YieldsList-at}
use Rattle.shape_index.proofs.AllListed.{number, order_made}
use Rattle.shape_index.proofs.tile_order.order_of.Goals as goal

pub returns : goal.returns
returns g c =
    let made = items_from_collect _ c.collect.ensures.ran (YieldsList-from_map _ number (YieldsList-at c.map.ensures.source (YieldsList-from_slice c.sort_unstable.new.self.items (c.iter.ensures.rest ∙ c.deref.ensures.value))) c.map.ensures.closure (λ x r q k. search rules)) in
    IfOk-weaker c.collect.result _ _ (λ v is. order_made c.args.shapes.now c.in_ok-keys.keys.items c.sort_unstable.new.self.items v.items c.in_ok-keys.ensures c.sort_unstable.ensures.permutation c.sort_unstable.ensures.sorted is) made
