use Rattle.std.proofs.Common.{◌≡◌, ◌∙◌, ◌++◌, List, ap, sym}
use Rattle.design_model.specs.declared.identifier.StmtId.{StmtId}
use Rattle.design_text.specs.Exchanges.{exchange_view}
use Rattle.followed_nets.specs.Noted.{telling_under}
use Rattle.followed_nets.proofs.NumberLemmas.{found_so, numbers_before, numbers_then}
use Rattle.followed_nets.proofs.numbers.after_exchange.Goals as goal

pub returns : goal.returns
returns g c = λ old new e are.
    let slots = c.args.text.now.pieces.table.slots in
    let x = exchange_view c.args.exchange in
    let went = c.deref.ensures.value ∙ c.in_ok-went.ensures in
    let came = c.deref-2.ensures.value ∙ c.in_ok-came.ensures in
    let front = telling_under slots e.front in
    let rest = telling_under slots e.rest in
    found_so (λ v. v.items ≡ front ++ (c.deref-2.result.now ++ rest)) _ c.with_exchanged.result
    (λ v is. numbers_then slots old new x v.items e (is ∙ ap (λ (l : List StmtId). front ++ (l ++ rest)) came))
    (c.with_exchanged.ensures front rest (numbers_before slots old new x c.args.numbers.now e are ∙ ap (λ (l : List StmtId). front ++ (l ++ rest)) (sym went)))
