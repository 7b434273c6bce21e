use Rattle.std.proofs.Common.{Some, None, refl, ◌∙◌}
use Rattle.std.proofs.lemmas.Bool.Decides.{Decides-eqb}
use Rattle.std.proofs.lemmas.Slice.Eq.{strip_prefix_is}
use Rattle.place_kernels.specs.Views.{starred_pattern}
use Rattle.place_kernels.proofs.Parts.{first_found, first_none}
use Rattle.place_kernels.proofs.patterns.StarredPattern.matches.Goals as goal

pub returns-in-Some : goal.returns-in-Some
returns-in-Some c =
    let p = c.args.self.now in
    let begins = strip_prefix_is Decides-eqb c.args.name.now p.front.now (Some c.in-Some.rest) c.in-Some.ensures.cases in
    c.matches_after_star.ensures ∙ first_found (starred_pattern p) p.front.now p.after.now c.args.name.now c.in-Some.rest.now (record { is = refl; starless = p.starless }) begins

pub returns-in-None : goal.returns-in-None
returns-in-None c =
    let p = c.args.self.now in
    first_none (starred_pattern p) p.front.now p.after.now c.args.name.now (record { is = refl; starless = p.starless }) (strip_prefix_is Decides-eqb c.args.name.now p.front.now None c.in-None.ensures.cases)
