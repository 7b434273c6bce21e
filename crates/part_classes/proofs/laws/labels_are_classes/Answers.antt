use Rattle.part_classes.proofs.LabelLaws.{labels_are_classes}
use Rattle.part_classes.proofs.laws.labels_are_classes.Goals as goal

pub returns : goal.returns
returns c = labels_are_classes
