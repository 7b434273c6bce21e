use Rattle.std.proofs.Common.{◌∙◌, ap, sym, rules, tests}
use Rattle.shape_rules.specs.Classes.{numbers}
use Rattle.net_lists.specs.PartCuts.{parts_of}
use Rattle.net_classes.specs.PartShapes.{numbered_from}
use Rattle.net_classes.proofs.JoinedLabels.{labels_if_ok}
use Rattle.net_classes.proofs.PartHeads.{length_parts}
use Rattle.net_classes.proofs.class_counts.joined_parts.Goals as goal

pub returns : goal.returns
returns g c =
    let heads = c.args.net.now.parts.now in
    let shapes = c.args.net.now.shapes.now in
    let parts = parts_of heads shapes in
    labels_if_ok _ c.in_ok-shapes.shapes.items parts c.deref-2.result.now c.in_ok-alone.alone
    (λ a i j b call. search (rules, tests))
    c.in_ok-shapes.ensures
    (c.deref-2.ensures.value ∙ c.in_ok-items.ensures ∙ ap (numbered_from 0) c.deref.ensures.value)
    (c.in_ok-alone.ensures.labels ∙ ap (numbers 0) (sym (length_parts heads shapes)))
    c.for_meeting_pairs.result
    c.for_meeting_pairs.ensures
