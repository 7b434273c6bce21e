use Rattle.std.proofs.Common.{sym, subst}
use Rattle.def_grammar.specs.Located.{entry_at, located}
use Rattle.def_grammar.specs.Records.{read_def}
use Rattle.edit_rules.specs.NetEdits.{section_of_net, unroute_all}
use Rattle.def_splice.specs.WiringPlanViews.{IsWired}
use Rattle.net_wiring.specs.declared.wiring_clauses.EntryClauses.{EntryClauses}
use Rattle.net_wiring.specs.declared.wiring_clauses.EntryClauses.TheVariants as clauses
use Rattle.def_splice.proofs.PlaceLemmas.{design_of}
use Rattle.def_splice.proofs.WiringPlans.{clauses_within, routed_makes, wired_some}
use Rattle.def_splice.proofs.wiring.route_splices.Goals as goal

pub routed_in_text-requires-clause-lies : goal.routed_in_text-requires-clause-lies
routed_in_text-requires-clause-lies g c = rw c.len-len.ensures c.in-Some.ensures.lies.within

pub routed_in_text-requires-clause-some : goal.routed_in_text-requires-clause-some
routed_in_text-requires-clause-some g c =
    let text = g.L.LookUps.text c.args.lookups.now in
    let read = design_of (read_def text) c.requires.reads in
    let found = entry_at (section_of_net unroute_all c.args.net.now read.0) c.args.net.now (located text read.0) in
    let own = clauses.Net c.in-Net.parts in
    let is = subst (λ (cs : EntryClauses). IsWired found cs c.in-Some.tokens) c.in-Net.is (c.in-Some.ensures.gives read.0 read.1) in
    wired_some text read.0 (section_of_net unroute_all c.args.net.now read.0) c.args.net.now own c.in-Some.tokens is

pub routed_in_text-requires-clause-tokens : goal.routed_in_text-requires-clause-tokens
routed_in_text-requires-clause-tokens g c =
    let text = g.L.LookUps.text c.args.lookups.now in
    let read = design_of (read_def text) c.requires.reads in
    let found = entry_at (section_of_net unroute_all c.args.net.now read.0) c.args.net.now (located text read.0) in
    let own = clauses.Net c.in-Net.parts in
    let is = subst (λ (cs : EntryClauses). IsWired found cs c.in-Some.tokens) c.in-Net.is (c.in-Some.ensures.gives read.0 read.1) in
    clauses_within found own c.in-Some.tokens is

pub returns-in-Net-clause-makes : goal.returns-in-Net-clause-makes
returns-in-Net-clause-makes g c =
    let text = g.L.LookUps.text c.args.lookups.now in
    let read = design_of (read_def text) c.requires.reads in
    let found = entry_at (section_of_net unroute_all c.args.net.now read.0) c.args.net.now (located text read.0) in
    let own = clauses.Net c.in-Net.parts in
    let is = subst (λ (cs : EntryClauses). IsWired found cs c.in-Some.tokens) c.in-Net.is (c.in-Some.ensures.gives read.0 read.1) in
    routed_makes c.args.library.now text c.args.net.now read.0 read.1 c.edits_stand_in_order.ensures c.in-Some.tokens own is {A = g.row.A.Denot} c.args.wiring.now c.routed_in_text.result (c.routed_in_text.ensures.gives text (sym c.len-len.ensures) c.in-Some.ensures.lies)

pub routed_in_text-requires-in-SpecialNet-clause-lies : goal.routed_in_text-requires-in-SpecialNet-clause-lies
routed_in_text-requires-in-SpecialNet-clause-lies g c = rw c.len-len.ensures c.in-Some.ensures.lies.within

pub routed_in_text-requires-in-SpecialNet-clause-some : goal.routed_in_text-requires-in-SpecialNet-clause-some
routed_in_text-requires-in-SpecialNet-clause-some g c =
    let text = g.L.LookUps.text c.args.lookups.now in
    let read = design_of (read_def text) c.requires.reads in
    let found = entry_at (section_of_net unroute_all c.args.net.now read.0) c.args.net.now (located text read.0) in
    let own = clauses.SpecialNet c.in-SpecialNet.parts in
    let is = subst (λ (cs : EntryClauses). IsWired found cs c.in-Some.tokens) c.in-SpecialNet.is (c.in-Some.ensures.gives read.0 read.1) in
    wired_some text read.0 (section_of_net unroute_all c.args.net.now read.0) c.args.net.now own c.in-Some.tokens is

pub routed_in_text-requires-in-SpecialNet-clause-tokens : goal.routed_in_text-requires-in-SpecialNet-clause-tokens
routed_in_text-requires-in-SpecialNet-clause-tokens g c =
    let text = g.L.LookUps.text c.args.lookups.now in
    let read = design_of (read_def text) c.requires.reads in
    let found = entry_at (section_of_net unroute_all c.args.net.now read.0) c.args.net.now (located text read.0) in
    let own = clauses.SpecialNet c.in-SpecialNet.parts in
    let is = subst (λ (cs : EntryClauses). IsWired found cs c.in-Some.tokens) c.in-SpecialNet.is (c.in-Some.ensures.gives read.0 read.1) in
    clauses_within found own c.in-Some.tokens is

pub returns-in-SpecialNet-clause-makes : goal.returns-in-SpecialNet-clause-makes
returns-in-SpecialNet-clause-makes g c =
    let text = g.L.LookUps.text c.args.lookups.now in
    let read = design_of (read_def text) c.requires.reads in
    let found = entry_at (section_of_net unroute_all c.args.net.now read.0) c.args.net.now (located text read.0) in
    let own = clauses.SpecialNet c.in-SpecialNet.parts in
    let is = subst (λ (cs : EntryClauses). IsWired found cs c.in-Some.tokens) c.in-SpecialNet.is (c.in-Some.ensures.gives read.0 read.1) in
    routed_makes c.args.library.now text c.args.net.now read.0 read.1 c.edits_stand_in_order.ensures c.in-Some.tokens own is {A = g.row.A.Denot} c.args.wiring.now c.routed_in_text-in-SpecialNet.result (c.routed_in_text-in-SpecialNet.ensures.gives text (sym c.len-len.ensures) c.in-Some.ensures.lies)
