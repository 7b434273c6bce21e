use Rattle.std.proofs.Common.{◌≡◌, ◌∙◌, map}
use Rattle.connection_rules.specs.NetLines.{barriers}
use Rattle.design_rules.specs.Boxes.{scale}
use Rattle.line_laws.specs.Lines.{SameThings}
use Rattle.net_touches.specs.Barriers.{barrier_view}
use Rattle.design_text.specs.DesignTexts.{design_of}
use Rattle.followed_nets.specs.ToldViews.{told_view}
use Rattle.followed_nets.proofs.BarredNets.{told_alike}
use Rattle.followed_nets.proofs.followed.FollowedNets.touched.Goals as goal

pub returns-clause-touched : goal.returns-clause-touched
returns-clause-touched g c =
    let library = c.args.library.now in
    let design = design_of c.args.text.now in
    let bars = barriers library design (scale design) in
    let same : SameThings (map barrier_view c.deref-2.result.now) bars = rw (c.deref-2.ensures.value) (rw (← c.self.view_is) at c.requires.bars) in
    record {
      apart = c.requires.apart;
      lists = c.requires.lists;
      told = told_alike library (map barrier_view c.deref-2.result.now) bars same design (map told_view c.in-Some.before.items) (rw (c.in-Some.is) at c.in_ok-before.ensures.told);
      named = rw (c.in-Some.is) at c.in_ok-before.ensures.named ∙ c.deref-3.ensures.value;
      few = rw (c.in-Some.is) at c.in_ok-before.ensures.few;
      pins = c.requires.pins;
    }
