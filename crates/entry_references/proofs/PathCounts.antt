-- The diagonal segments of a path are no more than its words.
use Rattle.std.proofs.Common.{◌≤◌, Bool, true, false, List, [], ◌∷◌, length, arith, length-append}
use Rattle.design_model.specs.declared.geometry.Point.{Point}
use Rattle.form_meanings.specs.Meaning.{spell_all}
use Rattle.statement_model.specs.Form.{Form, spell}
use Rattle.def_grammar.specs.Points.{place_after}
use Rattle.def_grammar.specs.Wiring.{Path, PathItem, path_mask, path_virtual, path_rectangle, path_point, path_via, path_item, wire_point}
use Rattle.wire_rules.specs.Paths.{ViaUse}
use Rattle.entry_rules.specs.Unchecked.{diagonals, diagonals_of, is_diagonal, one_if}
use Rattle.entry_rules.specs.WireItems.{items_after, start_of}

pub one_at_most : (b : Bool) → one_if b ≤ 1
one_at_most true = omega arith
one_at_most false = omega arith

few_diagonals : {Via : Type 0} (use_of : Via → ViaUse) (at from : Point) (is : List (PathItem Via)) → diagonals at (items_after use_of from is) ≤ length is
unfolding diagonals items_after
few_diagonals use_of at from [] = omega arith
few_diagonals use_of at from (path_mask w ∷ is) = let k = few_diagonals use_of at from is in omega (arith, k)
few_diagonals use_of at from (path_virtual to ∷ is) = let k = few_diagonals use_of (place_after from to) (place_after from to) is in omega (arith, k)
few_diagonals use_of at from (path_rectangle c ∷ is) = let k = few_diagonals use_of at from is in omega (arith, k)
few_diagonals use_of at from (path_point to ∷ is) =
    let k = few_diagonals use_of (place_after from to.at) (place_after from to.at) is in
    let one = one_at_most (is_diagonal at (place_after from to.at)) in
    omega (arith, k, one)
few_diagonals use_of at from (path_via v ∷ is) = let k = few_diagonals use_of at from is in omega (arith, k)

module _ {Via : Type 0} (via : Form Via) (some : (v : Via) → 1 ≤ length (spell via v)) where
  item_spelled : (i : PathItem Via) → 1 ≤ length (spell (path_item via) i)
  unfolding wire_point
  item_spelled (path_mask w) = omega arith
  item_spelled (path_virtual to) = omega arith
  item_spelled (path_rectangle c) = omega arith
  item_spelled (path_point to) = omega arith
  item_spelled (path_via v) = some v

  items_spelled : (is : List (PathItem Via)) → length is ≤ length (spell_all (spell (path_item via)) is)
  items_spelled [] = omega arith
  items_spelled (i ∷ is) =
      let one = item_spelled i in
      let others = items_spelled is in
      rw (length-append (spell (path_item via) i) (spell_all (spell (path_item via)) is)) (omega (arith, one, others))

  pub few_in_path : (use_of : Via → ViaUse) (p : Path Via) → diagonals_of use_of p ≤ length (spell_all (spell (path_item via)) p.items)
  few_in_path use_of p =
      let k = few_diagonals use_of (start_of use_of p) (start_of use_of p) p.items in
      let l = items_spelled p.items in
      omega (arith, k, l)
