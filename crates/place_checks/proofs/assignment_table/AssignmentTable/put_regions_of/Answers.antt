use Rattle.std.proofs.Common.{ap, map}
use Rattle.lefdef_tokens.specs.Views.{word_view}
use Rattle.place_checks.specs.Views.{boxed_view}
use Rattle.place_checks.proofs.Oks.{following}
use Rattle.place_checks.proofs.PatternLemmas.{regions_are}
use Rattle.place_checks.proofs.assignment_table.AssignmentTable.put_regions_of.Goals as goal

pub returns : goal.returns
returns g c =
    let table = c.args.self.now in
    following c.push_matching.result (λ matching. regions_are (boxed_view c.args.component.now) table.named.items c.with_name.result.now table.starred.items c.deref.result.now _ _ _ _ table.starless
    (ap (map word_view) c.requires) c.in-Ok.ensures c.with_name.ensures c.in-Ok-push_regions.ensures c.deref.ensures.value matching) c.push_matching.ensures
