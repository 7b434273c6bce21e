use Rattle.edit_session.proofs.session.Session.open_owned.Goals as goal

pub invariant_of-result : goal.invariant_of-result
invariant_of-result g c = (
  c.text_reads.ensures.reads,
  λ design reads. c.none.ensures c.args.library.now design,
  record { places = rw (c.none-2.ensures.places) tt; nets = rw (c.none-2.ensures.nets) tt; measures = rw (c.none-2.ensures.measures) tt },
)
