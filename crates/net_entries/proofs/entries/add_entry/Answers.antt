use Rattle.std.proofs.Common.{ap, sym, ◌∙◌}
use Rattle.form_meanings.specs.Firsts.{with_first}
use Rattle.net_entries.specs.Places.{group_names}
use Rattle.net_entries.proofs.EntryLemmas.{named_added}
use Rattle.net_entries.proofs.PlaceLemmas.{names_after}
use Rattle.net_entries.proofs.entries.add_entry.Goals as goal

pub returns-in_ok-add_at-clause-wired : goal.returns-in_ok-add_at-clause-wired
returns-in_ok-add_at-clause-wired g c = λ library design u. named_added library design u c.in-Some.name.now _ c.args.groups.now c.add_at.new.self (c.in-Some.ensures library design u) c.in_ok-add_at.ensures

pub returns-in_ok-add_at-clause-names : goal.returns-in_ok-add_at-clause-names
returns-in_ok-add_at-clause-names g c =
    c.in_ok-place.ensures.named
    ∙ ap (λ names. with_first (λ n. n) names c.in-Some.name.now) c.requires
    ∙ sym (names_after c.in-Some.name.now _ c.args.groups.now)
    ∙ ap group_names (sym c.in_ok-add_at.ensures)
