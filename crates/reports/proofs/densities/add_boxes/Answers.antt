use Rattle.std.proofs.Common.{ap, ◌∙◌}
use Rattle.std.specs.Option.{option_map}
use Rattle.design_model.specs.Views.{rectangle_of}
use Rattle.design_rules.specs.Boxes.{Boxed, box_of}
use Rattle.def_reader.specs.StatementViews.{record_view}
use Rattle.place_checks.specs.Outlines.{Scaled}
use Rattle.reports.proofs.BoxSums.{box_added}
use Rattle.reports.proofs.densities.add_boxes.Goals as goal

pub loop-statement-preserved : goal.loop-statement-preserved
loop-statement-preserved g c =
    let same = c.loop-statement.invariant.macros in
    let boxed = c.rect_of-rect.ensures.value ∙ ap (λ (m : Scaled). option_map (λ (b : Boxed). b.box) (box_of m.library m.scale (record_view c.statement-item.result))) same in
    record {
      macros = c.rect_of-rect.ensures.same ∙ same;
      so_far =
          box_added record_view (box_of c.args.library.now c.args.scale) c.args.records.now c.loop-statement.statement-index c.statement-item.result (option_map rectangle_of c.rect_of-rect.result)
          c.args.densities.now c.loop-statement.densities c.add_box.new.self c.loop-statement-test.true c.statement-item.is boxed c.loop-statement.invariant.so_far c.in_ok-add_box.ensures;
    }
