use Rattle.std.proofs.Common.{true, false, ap, is_some}
use Rattle.design_tables.proofs.UpdateLemmas.{new_put, old_put, was_new}
use Rattle.design_tables.proofs.names.NameTable.put_new.Goals as goal

pub returns-in-None-clause-put : goal.returns-in-None-clause-put
returns-in-None-clause-put g c = new_put c.self.inside.names c.insert.new.self c.args.self.now c.self.view_is c.args.name.now c.in_ok-own.own c.in_ok-own.ensures c.one.result c.in_ok-insert.ensures.updates c.args.mark c.in_ok-insert.field-0 c.in_ok-insert.ensures.old (rw c.again.ensures at c.one.ensures) c.in-None.is

pub returns-in-None-clause-fresh : goal.returns-in-None-clause-fresh
returns-in-None-clause-fresh g c = was_new c.self.inside.names c.insert.new.self c.args.self.now c.self.view_is c.args.name.now c.in_ok-own.own c.in_ok-own.ensures c.one.result c.in_ok-insert.ensures.updates c.args.mark c.in_ok-insert.field-0 c.in_ok-insert.ensures.old false (ap is_some c.in-None.is)

pub returns-in_ok-put_back-in-Some-clause-put : goal.returns-in_ok-put_back-in-Some-clause-put
returns-in_ok-put_back-in-Some-clause-put g c = old_put c.self.inside.names c.insert.new.self c.args.self.now c.self.view_is c.args.name.now c.in_ok-own.own c.in_ok-own.ensures c.one.result c.in_ok-insert.ensures.updates c.args.mark c.in_ok-insert.field-0 c.in_ok-insert.ensures.old c.in-Some.stood c.put_back.new.self c.in-Some.is c.in_ok-put_back-in-Some.ensures

pub returns-in_ok-put_back-in-Some-clause-fresh : goal.returns-in_ok-put_back-in-Some-clause-fresh
returns-in_ok-put_back-in-Some-clause-fresh g c = was_new c.self.inside.names c.insert.new.self c.args.self.now c.self.view_is c.args.name.now c.in_ok-own.own c.in_ok-own.ensures c.one.result c.in_ok-insert.ensures.updates c.args.mark c.in_ok-insert.field-0 c.in_ok-insert.ensures.old true (ap is_some c.in-Some.is)
