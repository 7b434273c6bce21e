use Rattle.cell_library.proofs.GroupLemmas.{all_added}
use Rattle.cell_library.proofs.library.Library.add_group.Goals as goal

pub returns : goal.returns
returns g c =
    rw (← c.self.view_is) (all_added c.self.inside.layers c.self.inside.sites c.self.inside.vias c.self.inside.rules c.self.inside.macros _ _ _ _ _ _ c.add_all-5.result c.in_ok-add_all.ensures c.in_ok-add_all-2.ensures c.in_ok-add_all-3.ensures c.in_ok-add_all-4.ensures c.add_all-5.ensures)
