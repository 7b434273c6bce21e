use Rattle.std.proofs.Common.{sym, ap, ◌∙◌, length}
use Rattle.net_lists.specs.PartCuts.{parts_of}
use Rattle.net_classes.proofs.PartHeads.{length_labels, length_marks}
use Rattle.net_classes.proofs.class_counts.classes_of.Goals as goal

pub counts-requires : goal.counts-requires
counts-requires g c =
    let parts = parts_of c.args.net.now.parts.now c.args.net.now.shapes.now in
    ap length (c.deref.ensures.value ∙ c.in_ok-marks.ensures) ∙ length_marks parts ∙ sym (ap length c.in_ok-classes.ensures ∙ length_labels parts)
