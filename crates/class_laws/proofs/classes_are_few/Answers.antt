use Rattle.class_laws.proofs.WithOne.{few}
use Rattle.class_laws.proofs.classes_are_few.Goals as goal

pub returns : goal.returns
returns c = few
