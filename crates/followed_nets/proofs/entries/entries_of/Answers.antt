use Rattle.std.proofs.Common.{◌≡◌, ◌∙◌, ◌++◌, List, ap₂, filter, sym}
use Rattle.design_model.specs.declared.mode.Section.TheVariants.{Nets, SpecialNets}
use Rattle.def_grammar.specs.Records.{Record}
use Rattle.net_laws.specs.NetsTold.{is_of_net}
use Rattle.design_text.specs.DesignTexts.{design_of, text_of}
use Rattle.followed_nets.specs.Entries.{entries_view, said_by}
use Rattle.followed_nets.specs.declared.entries.NetEntries.{NetEntries}
use Rattle.followed_nets.proofs.EntryOrder.{nets_first, special_nets_first}
use Rattle.followed_nets.proofs.HeadLemmas.{if_some_so}
use Rattle.followed_nets.proofs.entries.entries_of.Goals as goal

pub returns-then-special_is_first : goal.returns-then-special_is_first
returns-then-special_is_first g c =
    let text = text_of c.args.text.now in
    let design = design_of c.args.text.now in
    let net = c.args.net.now in
    let reads = c.design_is_read.ensures.reads in
    let once = c.named_once.ensures in
    let found = ap₂ (λ (a b : List Record). a ++ b) (c.entry_in-in_special_nets.ensures ∙ once text design reads SpecialNets net) (c.entry_in-in_nets.ensures ∙ once text design reads Nets net) in
    let all = found ∙ special_nets_first once c.tokens_are_slices.ensures c.records_are_read.ensures.located text design reads net (c.special_is_first.ensures.special c.if-special_is_first.true) in
    if_some_so (λ (e : NetEntries). entries_view e ≡ said_by c.entry_in-in_special_nets.result ++ said_by c.entry_in-in_nets.result) (λ (e : NetEntries). filter (is_of_net net) design ≡ entries_view e) c.either.result
    (λ e is. sym (is ∙ all))
    c.either.ensures

pub returns-else-special_is_first : goal.returns-else-special_is_first
returns-else-special_is_first g c =
    let text = text_of c.args.text.now in
    let design = design_of c.args.text.now in
    let net = c.args.net.now in
    let reads = c.design_is_read.ensures.reads in
    let once = c.named_once.ensures in
    let found = ap₂ (λ (a b : List Record). a ++ b) (c.entry_in-in_nets.ensures ∙ once text design reads Nets net) (c.entry_in-in_special_nets.ensures ∙ once text design reads SpecialNets net) in
    let all = found ∙ nets_first once c.tokens_are_slices.ensures c.records_are_read.ensures.located text design reads net (c.special_is_first.ensures.nets c.if-special_is_first.false) in
    if_some_so (λ (e : NetEntries). entries_view e ≡ said_by c.entry_in-in_nets.result ++ said_by c.entry_in-in_special_nets.result) (λ (e : NetEntries). filter (is_of_net net) design ≡ entries_view e) c.either-else-special_is_first.result
    (λ e is. sym (is ∙ all))
    c.either-else-special_is_first.ensures
