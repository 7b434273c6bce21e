use Rattle.std.proofs.Common.{ap, sym, subst, ◌∙◌, refl}
use Rattle.std.specs.Option.{option_map}
use Rattle.def_grammar.specs.Records.{read_def}
use Rattle.edit_rules.specs.NetEdits.{disconnect_from, plan_of_entry}
use Rattle.edit_rules.specs.Plans.{Plan}
use Rattle.lefdef_tokens.specs.Views.{pieces_of}
use Rattle.def_reader.specs.EntryViews.{entry_view}
use Rattle.def_splice.specs.NetViews.{entry_seen, entry_with}
use Rattle.def_splice.specs.SpliceViews.{FollowsAll}
use Rattle.def_splice.proofs.NetPlans.{net_makes, terminal_moved, unknown_net}
use Rattle.def_splice.proofs.PlaceLemmas.{design_of}
use Rattle.def_splice.proofs.net.disconnect_splices.Goals as goal

pub returns-in_default-clause-makes : goal.returns-in_default-clause-makes
returns-in_default-clause-makes g c =
    let text = g.L.LookUps.text c.args.lookups.now in
    let read = design_of (read_def text) c.requires.reads in
    let change = disconnect_from c.args.owner.now c.args.pin.now in
    let none = sym (ap (option_map entry_seen) c.in_default.is) ∙ c.with_tokens.ensures.gives ∙ ap entry_with (c.listing_entry.ensures.gives read.0 read.1) in
    unknown_net c.args.library.now text c.args.net.now change read.0 read.1 g.row.A.Denot none

pub in_text-requires-clause-lies : goal.in_text-requires-clause-lies
in_text-requires-clause-lies g c =
    let text = g.L.LookUps.text c.args.lookups.now in
    rw c.len.ensures (c.in-Some.ensures.lies text c.listing_entry.ensures.lies).within

pub returns-clause-makes : goal.returns-clause-makes
returns-clause-makes g c =
    let text = g.L.LookUps.text c.args.lookups.now in
    let read = design_of (read_def text) c.requires.reads in
    let library = c.args.library.now in
    let change = disconnect_from c.args.owner.now c.args.pin.now in
    let x = entry_seen (c.in-Some.entry, c.in-Some.tokens) in
    let found = sym (ap (option_map entry_seen) c.in-Some.is) ∙ c.with_tokens.ensures.gives ∙ ap entry_with (c.listing_entry.ensures.gives read.0 read.1) in
    let own = plan_of_entry library read.0 change (pieces_of c.in-Some.tokens.tokens) (entry_view c.in-Some.entry) in
    let lies = c.in-Some.ensures.lies text c.listing_entry.ensures.lies in
    let follows = c.in_text.ensures.follows text own (sym c.len.ensures) lies (c.entry_disconnected-splice.ensures.firm library read.0) (c.entry_disconnected-splice.ensures.gives library read.0) in
    let moved = (terminal_moved library read.0 c.in-Some.tokens.at (pieces_of c.in-Some.tokens.tokens) (entry_view c.in-Some.entry) c.args.owner.now c.args.pin.now).1 in
    net_makes library text c.args.net.now change read.0 read.1 x found text refl c.in_text.result (subst (λ (q : Plan). FollowsAll {A = g.row.A.Denot} text q c.in_text.result) (sym moved) follows)
