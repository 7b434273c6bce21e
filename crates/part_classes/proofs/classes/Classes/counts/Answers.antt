use Rattle.std.proofs.Common.{◌≡◌, ap, sym, ◌∙◌, arith}
use Rattle.shape_rules.specs.Classes.{distinct}
use Rattle.part_classes.proofs.CountLaws.{holding_few}
use Rattle.part_classes.proofs.classes.Classes.counts.Goals as goal

pub overflow_sub-result : goal.overflow_sub-result
overflow_sub-result g c =
    let labels = c.deref-2.result.now in
    let few = holding_few c.args.marks.now labels in
    let classes : c.count_classes-classes.result ≡ distinct labels = c.count_classes-classes.ensures ∙ ap distinct (c.deref.ensures.value ∙ sym c.deref-2.ensures.value) in
    omega (arith, few, classes, c.count_holding-holding.ensures)
