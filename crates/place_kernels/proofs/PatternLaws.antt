-- The laws of patterns.
use Rattle.std.proofs.Common.{[], ◌∷◌, ◌++◌, sym, ◌∙◌, ap}
use Rattle.std.proofs.lemmas.List.{append-nil}
use Rattle.place_rules.specs.Patterns.{star, matches}
use Rattle.place_kernels.specs.Laws.{StarlessMatchesItself, StarMatchesAnyBytes, StarMatchesAll}
use Rattle.place_kernels.proofs.Stars.{none_by_none, join_says, join_from, starless_says, starless_from}

pub starless_matches_itself : StarlessMatchesItself
starless_matches_itself pattern name starless = (starless_says pattern name starless, λ same. ap (matches pattern) (sym same) ∙ starless_from pattern starless)

pub star_matches_any_bytes : StarMatchesAnyBytes
star_matches_any_bytes a b name = (
  λ h. let joined = join_says a b name h in (joined.front, joined.between, joined.rest, joined.is, joined.first, joined.last),
  λ parts. ap (matches (a ++ (star ∷ b))) parts.3 ∙ join_from a b parts.0 parts.1 parts.2 parts.4 parts.5,
)

pub star_matches_all : StarMatchesAll
star_matches_all name = ap (matches (star ∷ [])) (sym (append-nil name)) ∙ join_from [] [] [] name [] none_by_none none_by_none
