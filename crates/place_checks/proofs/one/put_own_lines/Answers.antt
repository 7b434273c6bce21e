use Rattle.std.proofs.Common.{◌≡◌, ◌∙◌, ◌++◌, List, ℕ, OnOk, ap, append_assoc, flat_map, map, subst}
use Rattle.design_model.specs.Families.{lines_with}
use Rattle.design_model.specs.Views.{rectangle_of}
use Rattle.design_rules.specs.OverlapLines.{overlap_of}
use Rattle.design_rules.specs.PlaceLines.{blocked_of, lines_in}
use Rattle.place_checks.specs.IndexViews.{surroundings_view}
use Rattle.place_checks.specs.Views.{boxed_view}
use Rattle.place_checks.proofs.one.put_own_lines.Goals as goal

pub returns : goal.returns
returns g c =
    let one = boxed_view c.args.component.now in
    let old = c.args.lines.now in
    let overlaps = lines_with overlap_of one (map boxed_view c.args.others.now) in
    let around = lines_in (surroundings_view c.args.surroundings.now) one in
    let blocked = flat_map (blocked_of one) (map rectangle_of c.args.keep_outs.now) in
    let all =
    ap (λ (l : List (List ℕ)). l ++ blocked) (c.in-Ok-lines_in.ensures ∙ ap (λ (l : List (List ℕ)). l ++ around) c.in-Ok.ensures)
    ∙ append_assoc (old ++ overlaps) around blocked
    ∙ append_assoc old overlaps (around ++ blocked) in
    subst (λ (l : List (List ℕ)). OnOk c.put_blocked_by.result (c.put_blocked_by.new.lines ≡ l)) all c.put_blocked_by.ensures
