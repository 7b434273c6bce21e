use Rattle.std.proofs.Common.{◌≡◌, drop, map}
use Rattle.std.specs.List.{list_any}
use Rattle.design_tables.specs.TableViews.{numbered_view}
use Rattle.staying_laws.specs.PlaceStatements.{is_surrounding}
use Rattle.followed_places.proofs.around.is_any_surrounding.Given as goal

abbrev pub invariant-loop-numbered : goal.invariant-loop-numbered
invariant-loop-numbered l = list_any (λ x. is_surrounding x.1) (map numbered_view (drop l.numbered-index l.statements)) ≡ list_any (λ x. is_surrounding x.1) (map numbered_view l.statements)
