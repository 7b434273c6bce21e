use Rattle.std.proofs.Common.{◌∙◌, ap, false, [], ◌∷◌, ◌++◌, map}
use Rattle.connection_rules.specs.NetParts.{Net}
use Rattle.net_lists.specs.Building.{bare_net, with_parts}
use Rattle.class_laws.specs.OneMore.{parts_at}
use Rattle.kept_nets.specs.Parts.{part_view}
use Rattle.kept_nets.proofs.listing.classes_with.Goals as goal

pub returns : goal.returns
returns g c =
    let first = part_view c.args.part.now in
    let others = parts_at (map part_view c.args.parts.now) c.args.places.now in
    let begun = c.in_ok-begin_net.ensures.ok ∙ ap (λ l. l ++ bare_net [] false ∷ []) c.new-nets.ensures in
    let net : Net = record { name = []; is_power = false; parts = first ∷ others } in
    let is =
    c.in_ok-put_parts_at.ensures.ok
    ∙ ap (with_parts others) (c.in_ok-put_part.ensures.ok ∙ ap (with_parts (first ∷ [])) begun)
    ∙ c.building_a_net.ensures [] [] false (first ∷ others) in
    record { classes = c.classes_in.ensures.classes net is; least = c.classes_in.ensures.least net is }
