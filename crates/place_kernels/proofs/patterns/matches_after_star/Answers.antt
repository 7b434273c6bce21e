use Rattle.std.proofs.Common.{sym, ◌∙◌}
use Rattle.std.proofs.lemmas.Bool.Decides.{Decides-eqb}
use Rattle.std.proofs.lemmas.Slice.Eq.{ends_is}
use Rattle.place_kernels.proofs.Parts.{star_step, star_none, star_end}
use Rattle.place_kernels.proofs.patterns.matches_after_star.Goals as goal

pub returns-in_default-after_first : goal.returns-in_default-after_first
returns-in_default-after_first c =
    sym (c.loop-part.invariant ∙ star_none c.loop-part.parts.now c.in-Some.part.now c.in-Some.after.now c.loop-part.left.now c.in-Some.ensures c.in_default-after_first.ensures)

pub loop-part-preserved : goal.loop-part-preserved
loop-part-preserved c =
    c.loop-part.invariant ∙ star_step c.loop-part.parts.now c.in-Some.part.now c.in-Some.after.now c.loop-part.left.now c.in-Some-after_first.rest.now c.in-Some.ensures c.in-Some-after_first.ensures

pub returns : goal.returns
returns c =
    let ends = ends_is Decides-eqb c.loop-part.left.now c.loop-part.parts.now c.ends_with.result c.ends_with.ensures.value in
    star_end c.loop-part.parts.now c.loop-part.left.now c.ends_with.result c.in_default.ensures ends ∙ sym c.loop-part.invariant
