use Rattle.std.proofs.Common.{◌≡◌, ◌++◌, drop, filter, map}
use Rattle.design_tables.specs.TableViews.{numbered_view}
use Rattle.staying_laws.specs.PlaceStatements.{surrounds_or_blocks}
use Rattle.followed_places.proofs.around.push_numbers_around.Given as goal

abbrev pub invariant-loop-numbered : goal.invariant-loop-numbered
invariant-loop-numbered g l =
    l.numbers.items ++ map (λ x. x.0) (filter (λ x. surrounds_or_blocks x.1) (map numbered_view (drop l.numbered-index l.statements)))
    ≡ l.initial.numbers.items ++ map (λ x. x.0) (filter (λ x. surrounds_or_blocks x.1) (map numbered_view l.statements))
