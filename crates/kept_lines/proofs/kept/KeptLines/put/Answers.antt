use Rattle.std.proofs.Common.{arith, ◌≡◌}
use Rattle.std.specs.List.{insert}
use Rattle.std.proofs.lemmas.List.Sums.{prefix_len-le-length}
use Rattle.design_model.specs.Order.{texts}
use Rattle.kept_lines.specs.Kept.{is_below}
use Rattle.kept_lines.proofs.PlaceLemmas.{length-texts, put_in, put_texts}
use Rattle.kept_lines.proofs.kept.KeptLines.put.Goals as goal

pub insert-requires : goal.insert-requires
insert-requires g c =
    let place = rw (← c.self.view_is, c.as_slice.ensures) at c.place-place.ensures in
    omega (arith, place, prefix_len-le-length (is_below c.args.line.text) (texts c.self.inside.lines.items), length-texts c.self.inside.lines.items)

pub invariant_of-self : goal.invariant_of-self
invariant_of-self g c =
    let items : c.insert.new.self.items ≡ insert c.self.inside.lines.items c.place-place.result c.args.line = rw c.unwrap.ensures at c.insert.ensures.items in
    put_in _ _ c.args.line _ items (rw (← c.self.view_is, c.as_slice.ensures) at c.place-place.ensures) c.self.invariant c.requires.kind

pub returns-clause-lines : goal.returns-clause-lines
returns-clause-lines g c =
    let items : c.insert.new.self.items ≡ insert c.self.inside.lines.items c.place-place.result c.args.line = rw c.unwrap.ensures at c.insert.ensures.items in
    rw (← c.self.view_is) (put_texts _ _ c.args.line _ items (rw (← c.self.view_is, c.as_slice.ensures) at c.place-place.ensures))
