use Rattle.std.proofs.Common.{◌≡◌, ◌∙◌, ◌++◌, ◌∷◌, [], List, ap, map}
use Rattle.std.proofs.lemmas.List.{map-append}
use Rattle.def_grammar.specs.Records.{Record}
use Rattle.def_reader.specs.StatementViews.{record_view}
use Rattle.design_text.specs.DesignTexts.{design_of}
use Rattle.followed_nets.specs.Entries.{said_by}
use Rattle.followed_nets.proofs.EntryOwners.{both}
use Rattle.followed_nets.proofs.told_statements.push_entries.Goals as goal

pub returns : goal.returns
returns g c = λ put.
    let first = c.args.entries.first in
    let owned = map record_view c.push_listed_if.new.statements.items in
    let pushed = ap (map record_view) c.in_ok-push.ensures.items ∙ map-append record_view c.push_listed_if.new.statements.items (first ∷ []) in
    both (design_of c.args.text.now) (record_view first) (said_by c.args.entries.second) (map record_view c.args.statements.now.items) (map record_view c.push_listed.new.statements.items) owned (map record_view c.push_if.new.statements.items)
    (c.in_ok-push_listed.ensures c.if-not-branch.false)
    (c.in_ok-push_listed_if.ensures c.if-not-branch-2.false)
    (c.in_ok-push_if.ensures ∙ ap (λ (l : List Record). l ++ said_by c.args.entries.second) pushed)
