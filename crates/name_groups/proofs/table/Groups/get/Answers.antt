use Rattle.std.proofs.Common.{List, sym, ap, ◌∙◌}
use Rattle.name_groups.specs.Groups.{Group, members_named}
use Rattle.name_groups.proofs.TableLemmas.{items_of, members_found}
use Rattle.name_groups.proofs.table.Groups.get.Goals as goal

pub returns-in-Some : goal.returns-in-Some
returns-in-Some g c =
    c.as_slice.ensures.value
    ∙ ap items_of c.in-Some.ensures.value
    ∙ sym (members_found c.args.name.now c.self.inside.groups.entries)
    ∙ ap (λ (gs : List (Group g.row.T.Denot)). members_named c.args.name.now gs) c.self.view_is

pub returns-in-None : goal.returns-in-None
returns-in-None g c =
    ap items_of c.in-None.ensures.value
    ∙ sym (members_found c.args.name.now c.self.inside.groups.entries)
    ∙ ap (λ (gs : List (Group g.row.T.Denot)). members_named c.args.name.now gs) c.self.view_is
