use Rattle.std.proofs.Common.{map, Ok, of_calls}
use Rattle.shape_pairs.specs.Pairs.{LeadsOverMeetingPairs}
use Rattle.shape_pairs.proofs.Leading.{leads_by}
use Rattle.net_touches.specs.Barriers.{name_at}
use Rattle.net_touches.specs.ThingViews.{thing_view}
use Rattle.net_touches.proofs.MeetingLemmas.{Step, lead_to_lines}
use Rattle.net_touches.proofs.layer.put_pairs.Goals as goal

pub returns : goal.returns
returns g c =
    let names = name_at (map (λ w. w.now) c.args.names.now) in
    let views = map thing_view c.args.things.now in
    let led : LeadsOverMeetingPairs (Step names views) c.deref.result.now (Ok c.args.lines) c.in_ok-for_meeting_pairs.field-0 =
    leads_by _ (Step names views) (λ a i j b e. search (of_calls)) c.deref.result.now (Ok c.args.lines) c.in_ok-for_meeting_pairs.field-0 c.in_ok-for_meeting_pairs.ensures
    in
    lead_to_lines names views c.in_ok-items.items.items c.args.lines _ c.in_ok-items.ensures (rw c.deref.ensures.value at led)
