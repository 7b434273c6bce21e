use Rattle.std.proofs.Common.{◌≡◌, filter, not, take}
use Rattle.design_tables.specs.Changes.{is_gone}
use Rattle.design_tables.specs.MarkLists.{marks_listed}
use Rattle.design_tables.proofs.names.Listing.without.Given as goal

abbrev pub invariant-loop-mark : goal.invariant-loop-mark
invariant-loop-mark g l = marks_listed l.marks ≡ filter (λ m. not (is_gone l.gone.keys m.id)) (take l.mark-index l.mark-items)
