use Rattle.std.proofs.Common.{sym, ap, ◌∙◌}
use Rattle.std.specs.Option.{option_map}
use Rattle.cell_library.specs.Naming.{entry_seen}
use Rattle.cell_library.proofs.NamedLemmas.{at_place, found_at_place}
use Rattle.cell_library.proofs.named.Named.find.Goals as goal

pub returns-in_err-place_of : goal.returns-in_err-place_of
returns-in_err-place_of g c =
    ap (option_map entry_seen) c.from_residual.ensures
    ∙ ap (at_place c.args.self.now) (sym c.in_err-place_of.was ∙ c.place_of.ensures)
    ∙ sym (found_at_place c.args.name.now c.args.self.now)

pub returns : goal.returns
returns g c =
    c.at.ensures.there ∙ ap (at_place c.args.self.now) (sym c.in_ok-place_of.was ∙ c.place_of.ensures)
    ∙ sym (found_at_place c.args.name.now c.args.self.now)
