use Rattle.std.proofs.Common.{◌∙◌, map, refl, sym, ap, inl, subst}
use Rattle.text_pieces.specs.Changes.{IsBetween}
use Rattle.text_pieces.specs.KeptRecords.{records_under}
use Rattle.text_pieces.specs.Lent.{numbered_records}
use Rattle.design_tables.specs.TableViews.{numbered_view}
use Rattle.design_text.proofs.AnyOrder.{keyed_left, keyed_other, leads_to_other, left, left_is_kept}
use Rattle.design_text.proofs.step.prepare_tables.Goals as goal

pub numbered-requires : goal.numbered-requires
numbered-requires g c = let p = c.requires.between in rw c.out.ensures (c.statements_are_parted.ensures p.0 p.1 p.2).out

pub numbered-requires-2 : goal.numbered-requires-2
numbered-requires-2 g c = let p = c.requires.between in rw c.put.ensures (c.statements_are_parted.ensures p.0 p.1 p.2).put

pub returns-in-Ok-prepare-clause-same : goal.returns-in-Ok-prepare-clause-same
returns-in-Ok-prepare-clause-same g c = c.prepare.ensures.same (numbered_records c.args.pieces.now) c.requires.tables

pub returns-in-Ok-prepare-clause-between : goal.returns-in-Ok-prepare-clause-between
returns-in-Ok-prepare-clause-between g c = λ base other b.
    let now = c.args.pieces.now in
    let slots = now.table.slots in
    let parted = c.statements_are_parted.ensures now other (subst (λ x. IsBetween now c.args.change.now x other) (sym b.base_is) b) in
    let outs = map numbered_view c.deref.result.now in
    let puts = map numbered_view c.deref-2.result.now in
    let out_is = ap (map numbered_view) c.deref.ensures.value ∙ c.in-Ok.ensures ∙ ap (records_under slots) c.out.ensures in
    let put_is = ap (map numbered_view) c.deref-2.ensures.value ∙ c.in-Ok-numbered.ensures ∙ ap (records_under slots) c.put.ensures in
    let o = c.order_makes_no_difference.ensures in
    let kept = left o.tables o.keys slots c.args.change.now now other parted outs puts out_is put_is in
    let is_kept = left_is_kept o.tables o.keys slots c.args.change.now now other parted outs puts out_is put_is in
    leads_to_other o.tables o.keys slots c.args.change.now now other parted outs puts out_is put_is c.prepare.new.self c.in-Ok-prepare.prepared
    (c.in-Ok-prepare.ensures.between (numbered_records now) kept c.requires.tables is_kept)

pub returns-in-Ok-prepare-clause-keyed : goal.returns-in-Ok-prepare-clause-keyed
returns-in-Ok-prepare-clause-keyed g c = λ base other b.
    let now = c.args.pieces.now in
    let slots = now.table.slots in
    let parted = c.statements_are_parted.ensures now other (subst (λ x. IsBetween now c.args.change.now x other) (sym b.base_is) b) in
    let outs = map numbered_view c.deref.result.now in
    let puts = map numbered_view c.deref-2.result.now in
    let out_is = ap (map numbered_view) c.deref.ensures.value ∙ c.in-Ok.ensures ∙ ap (records_under slots) c.out.ensures in
    let put_is = ap (map numbered_view) c.deref-2.ensures.value ∙ c.in-Ok-numbered.ensures ∙ ap (records_under slots) c.put.ensures in
    let o = c.order_makes_no_difference.ensures in
    let kept = left o.tables o.keys slots c.args.change.now now other parted outs puts out_is put_is in
    let is_kept = left_is_kept o.tables o.keys slots c.args.change.now now other parted outs puts out_is put_is in
    keyed_other o.tables o.keys slots c.args.change.now now other parted outs puts out_is put_is
    (c.in-Ok-prepare.ensures.keyed (numbered_records now) kept c.requires.tables is_kept c.requires.keyed)

pub returns-in-Err-Duplicate-clause-fails : goal.returns-in-Err-Duplicate-clause-fails
returns-in-Err-Duplicate-clause-fails g c = λ base other b.
    let now = c.args.pieces.now in
    let slots = now.table.slots in
    let parted = c.statements_are_parted.ensures now other (subst (λ x. IsBetween now c.args.change.now x other) (sym b.base_is) b) in
    let outs = map numbered_view c.deref.result.now in
    let puts = map numbered_view c.deref-2.result.now in
    let out_is = ap (map numbered_view) c.deref.ensures.value ∙ c.in-Ok.ensures ∙ ap (records_under slots) c.out.ensures in
    let put_is = ap (map numbered_view) c.deref-2.ensures.value ∙ c.in-Ok-numbered.ensures ∙ ap (records_under slots) c.put.ensures in
    let o = c.order_makes_no_difference.ensures in
    let kept = left o.tables o.keys slots c.args.change.now now other parted outs puts out_is put_is in
    let is_kept = left_is_kept o.tables o.keys slots c.args.change.now now other parted outs puts out_is put_is in
    inl (
      refl,
      λ keyed. c.in-Err-Duplicate.ensures.duplicate (numbered_records now) kept c.requires.tables is_kept c.requires.keyed c.in-Err-Duplicate.field-0-is
          (keyed_left o.tables o.keys slots c.args.change.now now other parted outs puts out_is put_is keyed),
    )
