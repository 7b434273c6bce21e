use Rattle.std.proofs.Common.{List, ℕ, ◌≡◌, true}
use Rattle.std.specs.List.{list_any}
use Rattle.std.specs.Option.{option_map}
use Rattle.lefdef_tokens.specs.Views.{word_view}
use Rattle.design_text.specs.DesignTexts.{design_of}
use Rattle.followed_nets.specs.Listed.{is_pin_naming}
use Rattle.followed_nets.proofs.ListedNets.{if_seen, more_of_pin}
use Rattle.followed_nets.proofs.listed.nets_of_pin.Goals as goal

pub returns-clause-only : goal.returns-clause-only
returns-clause-only g c =
    let pin = c.args.pin.now in
    let design = design_of c.args.text.now in
    more_of_pin pin design c.in-Some.listing.items c.add_if.new.nets.items (option_map word_view c.net_by_pin.result) c.in_ok-add_if.ensures.all (rw (c.in-Some.is) at c.in_ok-listing.ensures.only)
    (if_seen word_view (λ (n : List ℕ). list_any (is_pin_naming pin n) design ≡ true) c.net_by_pin.result c.net_by_pin.ensures)
