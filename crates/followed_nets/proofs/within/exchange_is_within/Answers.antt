use Rattle.design_text.specs.Exchanges.{exchange_view}
use Rattle.followed_nets.specs.SubjectViews.{subject_view}
use Rattle.followed_nets.proofs.WithinLemmas.{exchange_within, none_where}
use Rattle.followed_nets.proofs.within.exchange_is_within.Goals as goal

pub returns-in_ok-are_within : goal.returns-in_ok-are_within
returns-in_ok-are_within g c =
    λ old new common exchange within.
    exchange_within c.args.nets.now (subject_view c.args.subject) c.args.text.now.pieces.table.slots c.within_apart.ensures c.one_exchanged_agree.ensures old new common (exchange_view c.args.exchange)
    (none_where _ _ c.in_ok-goes.ensures c.if-goes.true)
    (none_where _ _ c.in_ok-are_within.ensures within)
    exchange
