use Rattle.std.proofs.Common.{List, Some, sym, ap, ◌∙◌}
use Rattle.std.specs.List.{slice_get}
use Rattle.name_groups.specs.Groups.{Group}
use Rattle.name_groups.proofs.TableLemmas.{group_at}
use Rattle.name_groups.proofs.table.Groups.at.Goals as goal

pub returns : goal.returns
returns g c =
    ap (λ (gs : List (Group g.row.T.Denot)). slice_get gs c.args.index) (sym c.self.view_is)
    ∙ group_at c.self.inside.groups.entries c.args.index c.get_index.result c.unwrap.result.0 c.unwrap.result.1 c.unwrap.ensures c.get_index.ensures.entry
    ∙ ap (λ (xs : List g.row.T.Denot). Some (record { name = c.unwrap.result.0.now.bytes.now; members = xs })) (sym c.as_slice.ensures.value)
