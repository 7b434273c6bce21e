use Rattle.std.proofs.Common.{arith, inl, inr, sym, subst}
use Rattle.std.proofs.lemmas.Bool.{cases_lt}
use Rattle.std.proofs.lemmas.Option.{slice_get-get_or}
use Rattle.design_model.specs.declared.identifier.ShapeId.{ShapeId}
use Rattle.shape_index.specs.declared.shape.Shape.{Shape}
use Rattle.shape_index.specs.Shapes.{AreSame}
use Rattle.shape_index.specs.TileOrder.{OneTile, listed}
use Rattle.shape_index.proofs.Finding.{entry_there, none_behind}
use Rattle.shape_index.proofs.Listed.{in_run}
use Rattle.shape_index.proofs.TileSearch.{inside}
use Rattle.shape_index.proofs.tile_order.find_same.Goals as goal

pub returns-then-not-are_of_one_tile-clause-absent : goal.returns-then-not-are_of_one_tile-clause-absent
returns-then-not-are_of_one_tile-clause-absent g c = λ k d below. elim (cases_lt k c.loop-id.slot) [
  | inl h ↦ c.loop-id.invariant.passed k d h
  | inr h ↦
      let other : ¬ OneTile c.key_of.result c.key_of-tile.result = λ t. let yes = c.are_of_one_tile.ensures.1 t in let no = c.if-not-are_of_one_tile.true in cc in
      none_behind (listed c.args.shapes.now c.args.order.now) c.loop-id.slot k _ d _ _ _ c.requires.in_order c.in-Some.ensures c.key_of.ensures.value c.key_of-tile.ensures.value other (c.loop-id.invariant.left c.loop-id.slot d (omega arith) (omega (arith, h, below, c.requires.all_there))) h below
]

pub returns-then-are_same-clause-found : goal.returns-then-are_same-clause-found
returns-then-are_same-clause-found g c =
    (c.in-Some.shape.now, entry_there (listed c.args.shapes.now c.args.order.now) c.loop-id.slot _ c.in-Some.ensures, c.are_same.ensures.0 c.if-are_same.true)

pub past_run-slot-requires : goal.past_run-slot-requires
past_run-slot-requires g c = omega (arith, inside (listed c.args.shapes.now c.args.order.now) _ _ c.in-Some.ensures, c.requires.all_there)

pub loop-id-preserved : goal.loop-id-preserved
loop-id-preserved g c = record {
  passed = λ k d low. elim (cases_lt k c.loop-id.slot) [
    | inl h ↦ c.loop-id.invariant.passed k d h
    | inr h ↦
        let is = in_run c.args.shapes.now c.args.order.now c.loop-id.slot c.past_run-slot.result k _ d c.requires.all_there c.past_run-slot.ensures c.in-Some.ensures h low in
        subst (λ (e : ShapeId × Shape). ¬ AreSame e.1 c.args.sought.now) (sym is) (λ same. let yes = c.are_same.ensures.1 same in let no = c.if-are_same.false in cc)
  ];
  left = λ k d from below. c.loop-id.invariant.left k d (omega (arith, from, c.past_run-slot.ensures.some)) below;
}

pub returns-clause-absent : goal.returns-clause-absent
returns-clause-absent g c = λ k d below. elim (cases_lt k c.loop-id.slot) [
  | inl h ↦ c.loop-id.invariant.passed k d h
  | inr h ↦
      let some = slice_get-get_or (listed c.args.shapes.now c.args.order.now) c.loop-id.slot d (omega (arith, h, below)) in
      let none = rw c.in_default.is at c.entry_at.ensures in
      cc
]
