use Rattle.std.proofs.Common.{◌≡◌, [], rules, sym, ap, ◌∙◌}
use Rattle.indexmap.specs.Entry.{entry_value, map_with_value}
use Rattle.name_groups.proofs.TableLemmas.{items_of, member_added}
use Rattle.name_groups.proofs.table.Groups.add.Goals.{in-Occupied+in_ok-push-in-Occupied, in-Vacant+in_ok-one-in-Vacant}
use Rattle.name_groups.proofs.table.Groups.add.Goals as goal

pub returns : goal.returns
returns g c =
    elim c.match-branch-2.branch [
      | in-Occupied+in_ok-push-in-Occupied w ↦
          let v = w.push.new.self in
          let after : c.match-branch-2.self-inside.groups ≡ map_with_value c.in_ok-entry.field-0 v = search rules in
          member_added (record { bytes = c.args.name }) c.args.member v c.self.inside.groups.entries c.match-branch-2.self-inside.groups.entries c.args.self.now w.into_mut.result.now.items
          (ap (λ m. m.entries) after ∙ c.in_ok-entry.ensures.update.1 v)
          (ap items_of (sym c.in_ok-entry.ensures.value ∙ ap entry_value w.in-Occupied.is ∙ w.into_mut.ensures.value))
          w.in_ok-push-in-Occupied.ensures.items
          c.self.view_is
      | in-Vacant+in_ok-one-in-Vacant w ↦
          let v = w.in_ok-one-in-Vacant.field-0 in
          let after : c.match-branch-2.self-inside.groups ≡ map_with_value c.in_ok-entry.field-0 v = search rules in
          member_added (record { bytes = c.args.name }) c.args.member v c.self.inside.groups.entries c.match-branch-2.self-inside.groups.entries c.args.self.now []
          (ap (λ m. m.entries) after ∙ c.in_ok-entry.ensures.update.1 v)
          (ap items_of (rw w.in-Vacant.is at c.in_ok-entry.ensures.found))
          w.in_ok-one-in-Vacant.ensures
          c.self.view_is
    ]
