use Rattle.std.proofs.Common.{rules, ◌≡◌, ◌∙◌, List, ap, drop, length, map, sum_by, sym}
use Rattle.std.proofs.lemmas.List.{take_at}
use Rattle.std.proofs.lemmas.List.Sorted.{IsPermutation-map, sum_by-IsPermutation}
use Rattle.net_lists.specs.PartCuts.{shape_view}
use Rattle.net_lists.specs.declared.parts.NetShape.{NetShape}
use Rattle.followed_nets.proofs.changed_shapes.turn_round.Goals as goal

pub returns : goal.returns
returns g c =
    let was = c.args.shapes.now.items in
    let now = c.reverse.new.self in
    let long : length now ≡ c.args.shapes.now.len = search rules in
    let same = take_at now (drop (length now) was) c.args.shapes.now.len long in
    let perm = rw (c.as_mut_slice.ensures.value) at c.reverse.ensures.permutation in
    record { sums = λ w. sym (sum_by-IsPermutation w (map shape_view was) (map shape_view now) (IsPermutation-map shape_view was now perm)) ∙ ap (λ (l : List NetShape). sum_by w (map shape_view l)) (sym same) }
