use Rattle.std.proofs.Common.{not, ◌∙◌, rules, tests}
use Rattle.std.proofs.lemmas.Iterator.{YieldsList-from_slice}
use Rattle.std.proofs.lemmas.Iterator.Search.{any_from_yields_List}
use Rattle.net_lists.specs.declared.parts.PartHead.{PartHead}
use Rattle.net_classes.proofs.PartHeads.{heads_tell}
use Rattle.kept_nets.proofs.counted.has_wires.Goals as goal

pub returns : goal.returns
returns c =
    let parts = c.args.net.now.parts.now in
    any_from_yields_List (λ (h : PartHead). not h.is_pin) _ _ c.any.result c.any.ensures.ran (YieldsList-from_slice parts cc) (λ x b q k. search (rules, tests))
    ∙ heads_tell parts c.args.net.now.shapes.now
