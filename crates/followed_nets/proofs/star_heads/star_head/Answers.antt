use Rattle.std.proofs.Common.{◌≡◌}
use Rattle.def_reader.specs.StatementViews.{record_view}
use Rattle.design_text.specs.DesignTexts.{design_of}
use Rattle.followed_nets.specs.Entries.{entries_view, said_by}
use Rattle.followed_nets.specs.Heads.{IsHeadOf}
use Rattle.followed_nets.specs.StarHeads.{IsStarHead}
use Rattle.followed_nets.specs.ToldViews.{head_view}
use Rattle.followed_nets.specs.declared.heads.Head.{Head}
use Rattle.followed_nets.proofs.HeadLemmas.{if_some_so}
use Rattle.followed_nets.proofs.StarHeadLemmas.{of_its_entries, star_of_entries}
use Rattle.followed_nets.proofs.star_heads.star_head.Goals as goal

pub returns-clause-named : goal.returns-clause-named
returns-clause-named g c =
    let design = design_of c.args.text.now in
    let entries = c.in-Some.entries in
    let r = record_view entries.first in
    let rs = said_by entries.second in
    if_some_so (λ (h : Head _). IsHeadOf r (entries_view entries) (head_view h)) (λ (h : Head _). (head_view h).name ≡ c.args.net.now) c.in_ok-found.found
    (λ h is. of_its_entries design c.args.net.now r rs (head_view h) c.in-Some.ensures is)
    c.in_ok-found.ensures

pub returns-clause-head : goal.returns-clause-head
returns-clause-head g c =
    let design = design_of c.args.text.now in
    let entries = c.in-Some.entries in
    let r = record_view entries.first in
    let rs = said_by entries.second in
    if_some_so (λ (h : Head _). IsHeadOf r (entries_view entries) (head_view h)) (λ (h : Head _). IsStarHead design (head_view h)) c.in_ok-found.found
    (λ h is. star_of_entries design c.args.net.now r rs (head_view h) c.in-Some.ensures is)
    c.in_ok-found.ensures
