use Rattle.std.proofs.Common.{◌≡◌, ◌∙◌, length, ap, arith}
use Rattle.shape_rules.specs.Classes.{numbers}
use Rattle.part_classes.proofs.LabelLaws.{length_numbers}
use Rattle.part_classes.proofs.ForestLemmas.{number_pushed, apart}
use Rattle.part_classes.proofs.classes.Classes.new.Goals as goal

pub loop-part-init : goal.loop-part-init
unfolding numbers
loop-part-init g c = c.in_ok-parents.ensures.items

pub loop-part-preserved : goal.loop-part-preserved
loop-part-preserved g c = c.in_ok-push.ensures.items ∙ number_pushed c.loop-part.part c.loop-part.parents.items c.loop-part.invariant

pub returns : goal.returns
returns g c =
    let all : c.loop-part.part ≡ c.args.count = omega (arith, c.loop-part-test.false, c.loop-part.auto.part-end) in
    let labels = apart c.loop-part.part c.loop-part.parents.items c.loop-part.invariant ∙ ap (numbers 0) all in
    record { labels = labels; size = ap length labels ∙ length_numbers 0 c.args.count }
