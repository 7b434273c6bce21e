use Rattle.std.proofs.Common.{rules, map}
use Rattle.std.proofs.lemmas.Fn.{chained_keeps}
use Rattle.shape_index.proofs.Pushed.{Holds}
use Rattle.statement_boxes.proofs.BoxLists.{few_compared, found_rects, met_compared, rect_pushed}
use Rattle.statement_boxes.proofs.boxes.StatementBoxes.met_rects.Goals as goal

pub returns-clause-those : goal.returns-clause-those
returns-clause-those g c =
    let run = c.for_met-rects.ensures.folded in
    let held = chained_keeps _ (λ xs q. Holds (λ v. v.items) (map (λ e. e.1.rect) xs) q) (λ xs q e v h k. rect_pushed (λ v. v.items) q v e xs h (search rules)) run.0 _ _ c.new.ensures.items run.2 in
    let all = found_rects (λ v. v.items) c.for_met-rects.result.0 c.args.rect c.self.inside.tiles.entries run.0 c.args.self.now held c.self.view_is c.self.invariant run.1 in
    rw c.in_ok-rects.was at all

pub returns-clause-compared : goal.returns-clause-compared
returns-clause-compared g c = few_compared c.args.rect c.self.inside.tiles.entries c.args.self.now c.for_met-rects.result.1 c.self.view_is c.for_met-rects.ensures.compared

pub returns-clause-least : goal.returns-clause-least
returns-clause-least g c = met_compared c.args.rect c.self.inside.tiles.entries c.args.self.now c.for_met-rects.result.1 c.self.view_is c.self.invariant c.for_met-rects.ensures.least
