use Rattle.std.proofs.Common.{◌∙◌}
use Rattle.def_reader.proofs.RecordSteps.{one_more, one_more_lent, records_are}
use Rattle.def_reader.proofs.records.statements_of.Goals as goal

pub loop-read-preserved : goal.loop-read-preserved
loop-read-preserved g c =
    let l = c.loop-read in
    let i = l.invariant in
    let e = c.in-Some.ensures in
    let items = c.in_ok-push.ensures.items in
    record {
      text = e.same ∙ i.text;
      records = one_more _ _ l.found.items c.push.new.self.items c.in-Some.read c.next.new.self.place l.statements.text.now c.next.new.self.text.now c.next.new.self.pos items e.same i.records e.gives;
      lent = one_more_lent l.found.items c.push.new.self.items c.in-Some.read.statement c.in-Some.read.tokens l.statements.text.now c.args.text.now items i.text i.lent e.tokens e.lent;
    }

pub returns-clause-records : goal.returns-clause-records
returns-clause-records g c =
    let l = c.loop-read in
    records_are c.records_are_read.ensures.located c.args.text.now l.found.items c.requires _ l.invariant.records c.in_default.ensures.gives
