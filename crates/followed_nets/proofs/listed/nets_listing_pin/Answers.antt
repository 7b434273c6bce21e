use Rattle.std.proofs.Common.{◌≡◌, ℕ, List, map, rules}
use Rattle.std.specs.List.{list_any}
use Rattle.def_reader.specs.StatementViews.{record_view}
use Rattle.net_laws.specs.NetChanges.{is_one_of}
use Rattle.net_laws.specs.NetsTold.{is_of_net}
use Rattle.design_text.specs.DesignTexts.{design_of}
use Rattle.design_text.specs.Listings.{HasPinListing}
use Rattle.followed_nets.proofs.ListedNets.{all_of_pin, are_listing_pin}
use Rattle.followed_nets.proofs.listed.nets_listing_pin.Goals as goal

pub returns-clause-listing : goal.returns-clause-listing
returns-clause-listing g c =
    let pin = c.args.pin.now in
    let design = design_of c.args.text.now in
    let nets = c.in_ok-nets.nets.items in
    let entries = map record_view c.in-Some.entries.items in
    let listed : HasPinListing pin design entries = search rules in
    let names : (net : List ℕ) → is_one_of nets net ≡ list_any (is_of_net net) entries = rw (← c.deref.ensures.value) c.in_ok-nets.ensures.all in
    are_listing_pin pin design entries nets listed names

pub returns-clause-only : goal.returns-clause-only
returns-clause-only g c =
    let pin = c.args.pin.now in
    let design = design_of c.args.text.now in
    let nets = c.in_ok-nets.nets.items in
    let entries = map record_view c.in-Some.entries.items in
    let listed : HasPinListing pin design entries = search rules in
    let names : (net : List ℕ) → is_one_of nets net ≡ list_any (is_of_net net) entries = rw (← c.deref.ensures.value) c.in_ok-nets.ensures.all in
    all_of_pin pin design entries nets listed names
