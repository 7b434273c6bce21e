use Rattle.def_reader.specs.StatementViews.{record_view}
use Rattle.design_text.specs.DesignTexts.{design_of}
use Rattle.followed_nets.specs.Entries.{entries_view, said_by}
use Rattle.followed_nets.specs.Heads.{IsHead, IsHeadOf}
use Rattle.followed_nets.specs.ToldViews.{head_view}
use Rattle.followed_nets.specs.declared.heads.Head.{Head}
use Rattle.followed_nets.proofs.HeadLemmas.{if_some_so, of_entries}
use Rattle.followed_nets.proofs.heads.head_in.Goals as goal

pub returns : goal.returns
returns g c =
    let design = design_of c.args.text.now in
    let entries = c.in-Some.entries in
    if_some_so (λ (h : Head _). IsHeadOf (record_view entries.first) (entries_view entries) (head_view h)) (λ (h : Head _). IsHead design (head_view h)) c.in_ok-found.found
    (λ h is. of_entries design c.args.net.now (record_view entries.first) (said_by entries.second) (head_view h) c.in-Some.ensures is)
    c.in_ok-found.ensures
