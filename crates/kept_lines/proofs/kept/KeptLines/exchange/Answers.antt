use Rattle.std.proofs.Common.{◌≡◌}
use Rattle.design_model.specs.Order.{sorted_by_bytes, texts}
use Rattle.kept_lines.proofs.ExchangeLemmas.{exchanged, stand_sorted}
use Rattle.kept_lines.proofs.kept.KeptLines.exchange.Goals as goal

pub take_all-requires : goal.take_all-requires
take_all-requires g c =
    let sorted : texts c.as_slice.result.now ≡ sorted_by_bytes c.args.out = rw c.as_slice.ensures c.into_sorted-out.ensures.texts in
    stand_sorted c.args.out _ _ _ sorted c.in_ok-reserve.ensures.lines c.requires

pub returns-clause-follow : goal.returns-clause-follow
returns-clause-follow g c = λ made.
    let gone : texts c.as_slice.result.now ≡ sorted_by_bytes c.args.out = rw c.as_slice.ensures c.into_sorted-out.ensures.texts in
    let come : texts c.into_vec-put.result.items ≡ sorted_by_bytes c.args.put = rw c.into_vec-put.ensures c.into_sorted.ensures.texts in
    exchanged _ _ _ _ _ _ _ gone come (rw c.in_ok-reserve.ensures.lines at c.take_all.ensures.taken) c.put_all.ensures.lines
