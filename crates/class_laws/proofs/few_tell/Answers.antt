use Rattle.class_laws.proofs.FewTell.{few_tell}
use Rattle.class_laws.proofs.few_tell.Goals as goal

pub returns : goal.returns
returns c = few_tell c.labels_are_classes.ensures
