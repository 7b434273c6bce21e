use Rattle.std.proofs.Common.{refl, ◌∙◌, sym, ap, ◌+◌, ℕ, arith}
use Rattle.shape_rules.specs.Classes.{distinct}
use Rattle.part_classes.proofs.CountLemmas.{first_of_class, later_of_class}
use Rattle.part_classes.proofs.forest.count_classes.Goals as goal
use Rattle.part_classes.proofs.forest.count_classes.Goals.{then-labels-part, else-labels-part}

pub loop-part-init : goal.loop-part-init
unfolding distinct
loop-part-init c = record { count = refl; few = omega arith }

pub loop-part-preserved : goal.loop-part-preserved
loop-part-preserved c =
    let i = c.loop-part.invariant in
    elim c.if-labels-part.branch [
      | then-labels-part w ↦ rw w.classes-is (record {
        count = ap (λ (n : ℕ). n + 1) i.count ∙ sym (first_of_class c.args.labels.now c.loop-part.part c.requires (omega (arith, c.loop-part-test.true)) (grind (arith, w.if-labels-part.true)));
        few = omega (arith, i.few);
      })
      | else-labels-part w ↦ rw w.classes-is (record {
        count = i.count ∙ sym (later_of_class c.args.labels.now c.loop-part.part c.requires (omega (arith, c.loop-part-test.true)) (λ e. grind (arith, w.if-labels-part.false, e)));
        few = omega (arith, i.few);
      })
    ]
