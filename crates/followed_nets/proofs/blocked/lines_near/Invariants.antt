use Rattle.std.proofs.Common.{◌++◌, drop, flat_map, map}
use Rattle.design_text.specs.DesignTexts.{design_of}
use Rattle.line_laws.specs.Lines.{SameLines}
use Rattle.net_touches.specs.Barriers.{barrier_view, name_at}
use Rattle.followed_nets.specs.Blocked.{AllTell, barred_lines}
use Rattle.followed_nets.proofs.blocked.lines_near.Given as goal

abbrev pub invariant-loop-name : goal.invariant-loop-name
invariant-loop-name g l = record {
  tells : AllTell (design_of l.text) (drop l.name-index l.names) → AllTell (design_of l.text) l.names;
  out :
      let lines = barred_lines (name_at (map (λ w. w.now) l.layers)) l.library (design_of l.text) (map barrier_view l.changed.gone.items) in
      SameLines (l.lines.out ++ flat_map lines (drop l.name-index l.names)) (flat_map lines l.names);
  put :
      let lines = barred_lines (name_at (map (λ w. w.now) l.layers)) l.library (design_of l.text) (map barrier_view l.changed.come.items) in
      SameLines (l.lines.put ++ flat_map lines (drop l.name-index l.names)) (flat_map lines l.names);
}
