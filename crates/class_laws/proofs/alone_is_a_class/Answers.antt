use Rattle.class_laws.proofs.WithOne.{alone}
use Rattle.class_laws.proofs.alone_is_a_class.Goals as goal

pub returns : goal.returns
returns c = alone c.labels_are_classes.ensures
