use Rattle.std.proofs.Common.{map, rules, w64}
use Rattle.std.specs.Int.RustNames.{FitsSigned}
use Rattle.std.specs.List.{filter_map}
use Rattle.std.proofs.lemmas.Int.{to_z-of_z}
use Rattle.design_model.specs.Views.{rectangle_of}
use Rattle.design_rules.specs.Boxes.{box_of}
use Rattle.design_text.specs.DesignTexts.{design_of}
use Rattle.followed_places.proofs.HalvesLemmas.{all_in_halves}
use Rattle.followed_places.proofs.anew.lines_in_halves.Goals as goal

pub put_lines_across-requires : goal.put_lines_across-requires
put_lines_across-requires g c = rw c.deref-3.ensures.value c.in_ok-high.ensures.sorted

pub returns : goal.returns
returns g c = λ s same.
    let p = c.args.placement.now in
    let fits : FitsSigned w64 c.middle_of-middle.result = search rules in
    let components = filter_map (box_of p.library.now p.scale) (design_of p.text.now) in
    let those = simp to_z-of_z at (rw c.deref.ensures.value at c.in_ok-up.ensures) in
    let first = simp to_z-of_z at (rw c.new-lines.ensures at (c.in_ok-low.ensures.lines s same)) in
    let second = simp to_z-of_z at (c.in_ok-high.ensures.lines s same) in
    let below = simp to_z-of_z at c.in_ok-low.ensures.same in
    let above = simp to_z-of_z at c.in_ok-high.ensures.same in
    let across = rw (c.deref-2.ensures.value, c.deref-3.ensures.value) at c.in_ok-put_lines_across.ensures in
    all_in_halves c.middle_of-middle.result s (map rectangle_of p.keep_outs.now) components c.in_ok-low.low.items c.in_ok-high.high.items c.in_ok-up.up.items c.put_half.new.lines c.put_half-2.new.lines
    c.put_lines_across.new.lines below above those first second across
