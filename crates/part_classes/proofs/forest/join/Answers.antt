use Rattle.std.proofs.Common.{◌∙◌, arith}
use Rattle.part_classes.proofs.ForestLemmas.{first_hung, second_hung}
use Rattle.part_classes.proofs.forest.join.Goals as goal

pub returns-then-first-second : goal.returns-then-first-second
returns-then-first-second c =
    let one = c.root-first.ensures in
    let two = c.root-second.ensures in
    second_hung c.args.parents.now c.root-second.new.parents c.args.a c.args.b _ _
    (record { size = two.size ∙ one.size; same = λ k. two.same k ∙ one.same k; first = one.root; second = two.root ∙ one.same _ })
    c.requires.first c.requires.second (omega (arith, c.if-first-second.true)) (omega (arith, two.least, two.size, one.size, c.requires.second))

pub returns-else-first-second : goal.returns-else-first-second
returns-else-first-second c =
    let one = c.root-first.ensures in
    let two = c.root-second.ensures in
    first_hung c.args.parents.now c.root-second.new.parents c.args.a c.args.b _ _
    (record { size = two.size ∙ one.size; same = λ k. two.same k ∙ one.same k; first = one.root; second = two.root ∙ one.same _ })
    c.requires.first c.requires.second (omega (arith, c.if-first-second.false)) (omega (arith, one.least, two.size, one.size, c.requires.first))
