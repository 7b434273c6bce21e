use Rattle.edit_session.proofs.report.know_lines.Goals as goal

pub returns-in_ok-know_nets-clause-known : goal.returns-in_ok-know_nets-clause-known
returns-in_ok-know_nets-clause-known g c = λ design reads.
    let drawing = rw (c.in-Some.is) at c.in_ok-drawn.ensures.nets in
    c.know_nets.ensures.known c.args.library.now design (drawing design reads) (c.know_all_but_nets.ensures.known design reads)

pub returns-in_err-know_nets-clause-known : goal.returns-in_err-know_nets-clause-known
returns-in_err-know_nets-clause-known g c = λ design reads.
    let drawing = rw (c.in-Some.is) at c.in_ok-drawn.ensures.nets in
    c.know_nets.ensures.known c.args.library.now design (drawing design reads) (c.know_all_but_nets.ensures.known design reads)

pub returns-then-are_all-clause-known : goal.returns-then-are_all-clause-known
returns-then-are_all-clause-known g c = c.know_no_nets.ensures c.args.library.now c.requires

pub know_all_but_nets-requires : goal.know_all_but_nets-requires
know_all_but_nets-requires g c = c.know_no_nets.ensures c.args.library.now c.requires

pub know_by_few-requires-clause-known : goal.know_by_few-requires-clause-known
know_by_few-requires-clause-known g c = c.know_no_nets.ensures c.args.library.now c.requires
