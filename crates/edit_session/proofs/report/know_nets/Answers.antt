use Rattle.edit_session.proofs.report.know_nets.Goals as goal

pub returns-clause-known : goal.returns-clause-known
returns-clause-known g c = λ library design drawn known. record {
  statements = known.statements;
  places = known.places;
  nets = c.in_ok-on_nets.ensures library design drawn.nets;
  measures = c.in_ok-known.ensures library design drawn;
}
