use Rattle.std.proofs.Common.{List, drop}
use Rattle.design_model.specs.declared.identifier.StmtId.{StmtId}
use Rattle.def_grammar.specs.Records.{Record}
use Rattle.design_text.specs.Exchanges.{AreExchanges, records_in}
use Rattle.followed_places.specs.Places.{AreFollowed, said}
use Rattle.edit_session.proofs.BoxTests.{IsAhead}
use Rattle.edit_session.proofs.places.followed.Given as goal

abbrev pub invariant-loop-place : goal.invariant-loop-place
invariant-loop-place g l = record {
  now :
      (old : List (StmtId × Record)) × AreExchanges l.text.pieces.table.slots old (drop l.place l.made.exchanges) (records_in l.text) × AreFollowed l.library old l.places l.kept;
  tests :
      (old : List (StmtId × Record)) → AreExchanges l.text.pieces.table.slots old l.made.exchanges (records_in l.text) → AreFollowed l.library old l.initial.places l.initial.kept
      → (between : List (StmtId × Record)) × AreExchanges l.text.pieces.table.slots between (drop l.place l.made.exchanges) (records_in l.text) × AreFollowed l.library between l.places l.kept
      × IsAhead l.library (said old) (said between) (said (records_in l.text)) l.place l.tests;
}
