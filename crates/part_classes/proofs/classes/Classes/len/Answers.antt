use Rattle.std.proofs.Common.{◌≡◌, rules, sym, ◌∙◌, length}
use Rattle.part_classes.proofs.ForestLemmas.{length_labels_of}
use Rattle.part_classes.proofs.classes.Classes.len.Goals as goal

pub returns : goal.returns
returns g c = rw (← c.self.view_is) (let e : c.len.result ≡ length c.self.inside.parents.items = search rules in e ∙ sym (length_labels_of c.self.inside.parents.items))
