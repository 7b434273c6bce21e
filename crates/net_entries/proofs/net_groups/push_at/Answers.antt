use Rattle.std.proofs.lemmas.Result.{on_ok_weaker}
use Rattle.std.proofs.Common.{refl}
use Rattle.net_entries.proofs.PlaceLemmas.{pushed_at}
use Rattle.net_entries.proofs.net_groups.push_at.Goals as goal

pub returns : goal.returns
returns g c = on_ok_weaker c.push.result (λ more. pushed_at c.args.entry c.args.groups.now c.args.place c.index-groups-place.result _ c.requires refl more) c.push.ensures
