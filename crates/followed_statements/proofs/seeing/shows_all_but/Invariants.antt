use Rattle.std.proofs.Common.{List, drop}
use Rattle.std.specs.Option.{option_map}
use Rattle.design_model.specs.declared.identifier.StmtId.{StmtId}
use Rattle.def_grammar.specs.Records.{Record}
use Rattle.design_text.specs.Exchanges.{AreExchanges, records_in}
use Rattle.followed_statements.specs.Seen.{ShowAllBut}
use Rattle.followed_statements.proofs.ExchangeLemmas.{HoldsSo}
use Rattle.followed_statements.proofs.seeing.shows_all_but.Given as goal

abbrev pub invariant-loop-place : goal.invariant-loop-place
invariant-loop-place g l =
    let slots = l.text.pieces.table.slots in
    ((between : List (StmtId × Record)) × AreExchanges slots between (drop l.place l.made.exchanges) (records_in l.text))
    × HoldsSo (ShowAllBut (option_map (λ c. c.now) l.component)) slots l.made.exchanges (drop l.place l.made.exchanges) (records_in l.text)
