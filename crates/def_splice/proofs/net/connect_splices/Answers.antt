use Rattle.std.proofs.Common.{◌≡◌, ◌≤◌, None, Err, ap, sym, subst, ◌∙◌, refl}
use Rattle.std.specs.Option.{option_map}
use Rattle.def_grammar.specs.Records.{read_def}
use Rattle.edit_model.specs.declared.edit.EditRefusal.TheVariants.{Refused}
use Rattle.std.proofs.lemmas.List.{length-map}
use Rattle.edit_rules.specs.NetEdits.{connect_to, front_of, plan_of_entry, terminals_of}
use Rattle.edit_rules.specs.Plans.{Plan, lowest}
use Rattle.lefdef_tokens.specs.Laws.{moved_token}
use Rattle.lefdef_tokens.specs.Views.{pieces_of}
use Rattle.def_reader.specs.EntryViews.{entry_view}
use Rattle.def_splice.specs.NetViews.{connect_refusals, entry_seen, entry_with}
use Rattle.def_splice.specs.SpliceViews.{FollowsAll}
use Rattle.def_splice.proofs.NetPlans.{connect_within, firm_to_connect, net_makes, net_planned, terminal_moved, unknown_net}
use Rattle.def_splice.proofs.PlaceLemmas.{design_of, if_all}
use Rattle.def_splice.proofs.PlanLemmas.{refused}
use Rattle.def_splice.proofs.TokenLemmas.{pieces_counted}
use Rattle.def_splice.proofs.net.connect_splices.Goals as goal

pub returns-in_default-clause-makes : goal.returns-in_default-clause-makes
returns-in_default-clause-makes g c =
    let read = design_of (read_def (g.L.LookUps.text c.args.lookups.now)) c.requires.reads in
    let change = connect_to c.args.owner.now c.args.pin.now in
    let none = sym (ap (option_map entry_seen) c.in_default.is) ∙ c.with_tokens.ensures.gives ∙ ap entry_with (c.net_entry.ensures.gives read.0 read.1) in
    unknown_net c.args.library.now (g.L.LookUps.text c.args.lookups.now) c.args.net.now change read.0 read.1 g.row.A.Denot none

pub returns-in-Some-connect_refusal-clause-makes : goal.returns-in-Some-connect_refusal-clause-makes
returns-in-Some-connect_refusal-clause-makes g c =
    let read = design_of (read_def (g.L.LookUps.text c.args.lookups.now)) c.requires.reads in
    let text = g.L.LookUps.text c.args.lookups.now in
    let change = connect_to c.args.owner.now c.args.pin.now in
    let x = entry_seen (c.in-Some.entry, c.in-Some.tokens) in
    let found = sym (ap (option_map entry_seen) c.in-Some.is) ∙ c.with_tokens.ensures.gives ∙ ap entry_with (c.net_entry.ensures.gives read.0 read.1) in
    let plan = plan_of_entry c.args.library.now read.0 change x.0 x.1 in
    let code = c.in-Some-connect_refusal.code in
    net_makes c.args.library.now text c.args.net.now change read.0 read.1 x found {A = g.row.A.Denot} text refl (Err (Refused code)) (refused text plan code (sym (c.connect_refusal.ensures read.0 read.1) ∙ c.in-Some-connect_refusal.is))

pub entry_connected-requires-clause-tokens : goal.entry_connected-requires-clause-tokens
entry_connected-requires-clause-tokens g c =
    let read = design_of (read_def (g.L.LookUps.text c.args.lookups.now)) c.requires.reads in
    let change = connect_to c.args.owner.now c.args.pin.now in
    let x = entry_seen (c.in-Some.entry, c.in-Some.tokens) in
    let found = sym (ap (option_map entry_seen) c.in-Some.is) ∙ c.with_tokens.ensures.gives ∙ ap entry_with (c.net_entry.ensures.gives read.0 read.1) in
    let free : lowest (connect_refusals c.args.library.now read.0 c.args.owner.now c.args.pin.now) ≡ None = sym (c.connect_refusal.ensures read.0 read.1) ∙ c.in_default-connect_refusal.is in
    let is = net_planned c.args.library.now (g.L.LookUps.text c.args.lookups.now) c.args.net.now change read.0 read.1 x found in
    let fits = connect_within c.edits_stand_in_order.ensures c.args.library.now (g.L.LookUps.text c.args.lookups.now) read.0 c.args.net.now c.args.owner.now c.args.pin.now x read.1 is free in
    subst (λ n. front_of (terminals_of x.1) ≤ n) (length-map (pieces_of c.in-Some.tokens.tokens) (moved_token c.in-Some.tokens.at) ∙ pieces_counted c.in-Some.tokens.tokens) fits

pub in_text-requires-clause-lies : goal.in_text-requires-clause-lies
in_text-requires-clause-lies g c =
    let text = g.L.LookUps.text c.args.lookups.now in
    rw c.len.ensures (c.in-Some.ensures.lies text c.net_entry.ensures.lies).within

pub returns-clause-makes : goal.returns-clause-makes
returns-clause-makes g c =
    let text = g.L.LookUps.text c.args.lookups.now in
    let read = design_of (read_def text) c.requires.reads in
    let library = c.args.library.now in
    let change = connect_to c.args.owner.now c.args.pin.now in
    let x = entry_seen (c.in-Some.entry, c.in-Some.tokens) in
    let found = sym (ap (option_map entry_seen) c.in-Some.is) ∙ c.with_tokens.ensures.gives ∙ ap entry_with (c.net_entry.ensures.gives read.0 read.1) in
    let free : lowest (connect_refusals library read.0 c.args.owner.now c.args.pin.now) ≡ None = sym (c.connect_refusal.ensures read.0 read.1) ∙ c.in_default-connect_refusal.is in
    let e = entry_view c.in-Some.entry in
    let own = plan_of_entry library read.0 change (pieces_of c.in-Some.tokens.tokens) e in
    let lies = c.in-Some.ensures.lies text c.net_entry.ensures.lies in
    let is = net_planned library text c.args.net.now change read.0 read.1 x found in
    let fits = connect_within c.edits_stand_in_order.ensures library text read.0 c.args.net.now c.args.owner.now c.args.pin.now x read.1 is free in
    let words = length-map (pieces_of c.in-Some.tokens.tokens) (moved_token c.in-Some.tokens.at) ∙ pieces_counted c.in-Some.tokens.tokens in
    let firm = firm_to_connect library read.0 c.args.owner.now c.args.pin.now c.in-Some.tokens.tokens e (subst (λ n. front_of (terminals_of e) ≤ n) words fits) in
    let made = c.made_one-splice.ensures.gives c.in-Some.tokens.tokens.text.now own _ free refl c.entry_connected.ensures.cut in
    let follows = c.in_text.ensures.follows text own (sym c.len.ensures) lies (if_all c.made_one-splice.result firm) made in
    let moved = (terminal_moved library read.0 c.in-Some.tokens.at (pieces_of c.in-Some.tokens.tokens) e c.args.owner.now c.args.pin.now).0 in
    net_makes library text c.args.net.now change read.0 read.1 x found text refl c.in_text.result (subst (λ (q : Plan). FollowsAll {A = g.row.A.Denot} text q c.in_text.result) (sym moved) follows)
