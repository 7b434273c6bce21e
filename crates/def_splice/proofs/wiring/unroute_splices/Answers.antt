use Rattle.std.proofs.Common.{sym, subst}
use Rattle.def_grammar.specs.Located.{entry_at, located}
use Rattle.def_grammar.specs.Records.{read_def}
use Rattle.edit_rules.specs.NetEdits.{section_of_net, unroute_all}
use Rattle.def_splice.specs.WiringPlanViews.{IsWired}
use Rattle.net_wiring.specs.declared.wiring_clauses.EntryClauses.{EntryClauses}
use Rattle.net_wiring.specs.declared.wiring_clauses.EntryClauses.TheVariants as clauses
use Rattle.def_splice.proofs.PlaceLemmas.{design_of}
use Rattle.def_splice.proofs.WiringPlans.{clauses_within, unrouted_makes, wired_some}
use Rattle.def_splice.proofs.wiring.unroute_splices.Goals as goal

pub unrouted_in_text-requires-clause-lies : goal.unrouted_in_text-requires-clause-lies
unrouted_in_text-requires-clause-lies g c = rw c.len-len.ensures c.in-Some.ensures.lies.within

pub unrouted_in_text-requires-clause-some : goal.unrouted_in_text-requires-clause-some
unrouted_in_text-requires-clause-some g c =
    let text = g.L.LookUps.text c.args.lookups.now in
    let read = design_of (read_def text) c.requires.reads in
    let found = entry_at (section_of_net unroute_all c.args.net.now read.0) c.args.net.now (located text read.0) in
    let own = clauses.Net c.in-Net.parts in
    let is = subst (λ (cs : EntryClauses). IsWired found cs c.in-Some.tokens) c.in-Net.is (c.in-Some.ensures.gives read.0 read.1) in
    wired_some text read.0 (section_of_net unroute_all c.args.net.now read.0) c.args.net.now own c.in-Some.tokens is

pub unrouted_in_text-requires-clause-tokens : goal.unrouted_in_text-requires-clause-tokens
unrouted_in_text-requires-clause-tokens g c =
    let text = g.L.LookUps.text c.args.lookups.now in
    let read = design_of (read_def text) c.requires.reads in
    let found = entry_at (section_of_net unroute_all c.args.net.now read.0) c.args.net.now (located text read.0) in
    let own = clauses.Net c.in-Net.parts in
    let is = subst (λ (cs : EntryClauses). IsWired found cs c.in-Some.tokens) c.in-Net.is (c.in-Some.ensures.gives read.0 read.1) in
    clauses_within found own c.in-Some.tokens is

pub returns-in-Net-clause-makes : goal.returns-in-Net-clause-makes
returns-in-Net-clause-makes g c =
    let text = g.L.LookUps.text c.args.lookups.now in
    let read = design_of (read_def text) c.requires.reads in
    let found = entry_at (section_of_net unroute_all c.args.net.now read.0) c.args.net.now (located text read.0) in
    let own = clauses.Net c.in-Net.parts in
    let is = subst (λ (cs : EntryClauses). IsWired found cs c.in-Some.tokens) c.in-Net.is (c.in-Some.ensures.gives read.0 read.1) in
    unrouted_makes c.args.library.now text c.args.net.now read.0 read.1 c.edits_stand_in_order.ensures c.in-Some.tokens own is {A = g.row.A.Denot} c.unrouted_in_text.result (c.unrouted_in_text.ensures.gives text (sym c.len-len.ensures) c.in-Some.ensures.lies)

pub unrouted_in_text-requires-in-SpecialNet-clause-lies : goal.unrouted_in_text-requires-in-SpecialNet-clause-lies
unrouted_in_text-requires-in-SpecialNet-clause-lies g c = rw c.len-len.ensures c.in-Some.ensures.lies.within

pub unrouted_in_text-requires-in-SpecialNet-clause-some : goal.unrouted_in_text-requires-in-SpecialNet-clause-some
unrouted_in_text-requires-in-SpecialNet-clause-some g c =
    let text = g.L.LookUps.text c.args.lookups.now in
    let read = design_of (read_def text) c.requires.reads in
    let found = entry_at (section_of_net unroute_all c.args.net.now read.0) c.args.net.now (located text read.0) in
    let own = clauses.SpecialNet c.in-SpecialNet.parts in
    let is = subst (λ (cs : EntryClauses). IsWired found cs c.in-Some.tokens) c.in-SpecialNet.is (c.in-Some.ensures.gives read.0 read.1) in
    wired_some text read.0 (section_of_net unroute_all c.args.net.now read.0) c.args.net.now own c.in-Some.tokens is

pub unrouted_in_text-requires-in-SpecialNet-clause-tokens : goal.unrouted_in_text-requires-in-SpecialNet-clause-tokens
unrouted_in_text-requires-in-SpecialNet-clause-tokens g c =
    let text = g.L.LookUps.text c.args.lookups.now in
    let read = design_of (read_def text) c.requires.reads in
    let found = entry_at (section_of_net unroute_all c.args.net.now read.0) c.args.net.now (located text read.0) in
    let own = clauses.SpecialNet c.in-SpecialNet.parts in
    let is = subst (λ (cs : EntryClauses). IsWired found cs c.in-Some.tokens) c.in-SpecialNet.is (c.in-Some.ensures.gives read.0 read.1) in
    clauses_within found own c.in-Some.tokens is

pub returns-in-SpecialNet-clause-makes : goal.returns-in-SpecialNet-clause-makes
returns-in-SpecialNet-clause-makes g c =
    let text = g.L.LookUps.text c.args.lookups.now in
    let read = design_of (read_def text) c.requires.reads in
    let found = entry_at (section_of_net unroute_all c.args.net.now read.0) c.args.net.now (located text read.0) in
    let own = clauses.SpecialNet c.in-SpecialNet.parts in
    let is = subst (λ (cs : EntryClauses). IsWired found cs c.in-Some.tokens) c.in-SpecialNet.is (c.in-Some.ensures.gives read.0 read.1) in
    unrouted_makes c.args.library.now text c.args.net.now read.0 read.1 c.edits_stand_in_order.ensures c.in-Some.tokens own is {A = g.row.A.Denot} c.unrouted_in_text-in-SpecialNet.result (c.unrouted_in_text-in-SpecialNet.ensures.gives text (sym c.len-len.ensures) c.in-Some.ensures.lies)
