use Rattle.std.proofs.Common.{List, drop}
use Rattle.design_model.specs.declared.identifier.StmtId.{StmtId}
use Rattle.def_grammar.specs.Records.{Record}
use Rattle.design_text.specs.DesignTexts.{design_of}
use Rattle.design_text.specs.Exchanges.{AreExchanges, records_in}
use Rattle.followed_statements.specs.Following.{AreKeptBy, said}
use Rattle.followed_statements.proofs.following.follow_exchanges.Given as goal

abbrev pub invariant-loop-place : goal.invariant-loop-place
invariant-loop-place g l =
    (old : List (StmtId × Record)) × AreExchanges l.text.pieces.table.slots old (drop l.place l.made.exchanges) (records_in l.text) × AreKeptBy l.library (design_of l.text) (said old) l.kept
