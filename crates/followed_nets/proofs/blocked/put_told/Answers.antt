use Rattle.followed_nets.proofs.blocked.put_told.Goals as goal

pub returns-clause-out : goal.returns-clause-out
returns-clause-out g c = rw (c.deref.ensures.value, c.in_ok-nets.ensures, c.in_ok-names.ensures) at c.in_ok-put_barred_nets.ensures

pub returns-clause-put : goal.returns-clause-put
returns-clause-put g c = rw (c.deref-2.ensures.value, c.in_ok-nets.ensures, c.in_ok-names.ensures) at c.in_ok-put_barred_nets-2.ensures
