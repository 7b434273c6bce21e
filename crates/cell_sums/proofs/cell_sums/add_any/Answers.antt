use Rattle.std.proofs.Common.{◌≡◌, ◌+◌, refl, rules, ap, ◌∙◌, w64}
use Rattle.std.proofs.lemmas.Int.{to_z-of_z}
use Rattle.std.proofs.lemmas.Result.{on_ok_weaker}
use Rattle.design_model.specs.Views.{rectangle_of}
use Rattle.cell_sums.specs.declared.stretch.Stretch.{Stretch}
use Rattle.cell_sums.proofs.TableLemmas.{tall_adds, wide_adds}
use Rattle.cell_sums.proofs.cell_sums.add_any.Goals as goal

pub returns-then-covered_rows-saturating_mul-clause-added : goal.returns-then-covered_rows-saturating_mul-clause-added
returns-then-covered_rows-saturating_mul-clause-added g c added =
    let r = rectangle_of c.args.rect in
    let across = c.covered-covered_columns.result.stretch in
    let upward = c.covered-covered_rows.result.stretch in
    let x1 : across.low ≡ r.x1 = ap (λ (s : Stretch). s.low) c.covered-covered_columns.ensures.stretch ∙ to_z-of_z w64 _ (search rules) in
    let x2 : across.high ≡ r.x2 = ap (λ (s : Stretch). s.high) c.covered-covered_columns.ensures.stretch ∙ to_z-of_z w64 _ (search rules) in
    let y1 : upward.low ≡ r.y1 = ap (λ (s : Stretch). s.low) c.covered-covered_rows.ensures.stretch ∙ to_z-of_z w64 _ (search rules) in
    let y2 : upward.high ≡ r.y2 = ap (λ (s : Stretch). s.high) c.covered-covered_rows.ensures.stretch ∙ to_z-of_z w64 _ (search rules) in
    on_ok_weaker c.add_tall.result
    (λ gained. tall_adds c.args.columns.now c.args.rows.now c.args.layer added (added + 1) refl r across upward x1 x2 y1 y2 c.args.flat.now c.args.upright.now c.add_tall.new.sheet gained)
    c.add_tall.ensures.added

pub returns-clause-added : goal.returns-clause-added
returns-clause-added g c added =
    let r = rectangle_of c.args.rect in
    let across = c.covered-covered_columns.result.stretch in
    let upward = c.covered-covered_rows.result.stretch in
    let x1 : across.low ≡ r.x1 = ap (λ (s : Stretch). s.low) c.covered-covered_columns.ensures.stretch ∙ to_z-of_z w64 _ (search rules) in
    let x2 : across.high ≡ r.x2 = ap (λ (s : Stretch). s.high) c.covered-covered_columns.ensures.stretch ∙ to_z-of_z w64 _ (search rules) in
    let y1 : upward.low ≡ r.y1 = ap (λ (s : Stretch). s.low) c.covered-covered_rows.ensures.stretch ∙ to_z-of_z w64 _ (search rules) in
    let y2 : upward.high ≡ r.y2 = ap (λ (s : Stretch). s.high) c.covered-covered_rows.ensures.stretch ∙ to_z-of_z w64 _ (search rules) in
    on_ok_weaker c.add_strips.result
    (λ gained. wide_adds c.args.columns.now c.args.rows.now c.args.layer added (added + 1) refl r across upward x1 x2 y1 y2 c.args.flat.now c.add_strips.new.sheet c.args.upright.now gained)
    c.add_strips.ensures.added
