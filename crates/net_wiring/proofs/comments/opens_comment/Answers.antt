use Rattle.std.proofs.Common.{◌≡◌, ◌+◌, [], drop, get_or, sym, ap, ◌∙◌, drop_of_length-le}
use Rattle.std.proofs.lemmas.List.{drop_more}
use Rattle.edit_rules.specs.NetEdits.{opens_comment}
use Rattle.net_wiring.specs.WiringViews.{open_view}
use Rattle.net_wiring.proofs.CommentSteps.{opens_here, opens_later, opens_none}
use Rattle.net_wiring.proofs.comments.opens_comment.Goals as goal

pub returns-in_default : goal.returns-in_default
returns-in_default c =
    let l = c.loop-byte in
    let bytes = c.args.bytes.now in
    let step = drop_more bytes l.byte-index 0 c.loop-byte-test.true in
    sym (opens_here l.state (get_or bytes l.byte-index 0) (drop (l.byte-index + 1) bytes) c.in_default.ensures) ∙ sym (ap (opens_comment (open_view l.state)) step) ∙ l.invariant

pub loop-byte-preserved : goal.loop-byte-preserved
loop-byte-preserved c =
    let l = c.loop-byte in
    let bytes = c.args.bytes.now in
    let step = drop_more bytes l.byte-index 0 c.loop-byte-test.true in
    sym (opens_later l.state c.in-Some.later (get_or bytes l.byte-index 0) (drop (l.byte-index + 1) bytes) c.in-Some.ensures) ∙ sym (ap (opens_comment (open_view l.state)) step) ∙ l.invariant

pub returns : goal.returns
returns c =
    let l = c.loop-byte in
    let none : drop l.byte-index c.args.bytes.now ≡ [] = drop_of_length-le c.args.bytes.now {i = l.byte-index} c.loop-byte-test.false in
    sym (opens_none l.state) ∙ sym (ap (opens_comment (open_view l.state)) none) ∙ l.invariant
