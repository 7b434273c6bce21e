use Rattle.std.proofs.Common.{◌∙◌, List, ap, flat_map}
use Rattle.std.specs.Option.{option_to_list}
use Rattle.design_model.specs.declared.identifier.StmtId.{StmtId}
use Rattle.design_text.specs.Listings.{said_under}
use Rattle.design_text.proofs.EntriesOnce.{as_found}
use Rattle.design_text.proofs.text.DesignText.each_found.Goals as goal

pub returns : goal.returns
returns g c =
    let content = c.args.self.now in
    record {
      ids = c.in-Some.ids.items;
      once = rw c.in-Some.is at c.in-Ok.ensures.once;
      same = rw c.in-Some.is at c.in-Ok.ensures.same;
      says = c.in-Ok-all_found.ensures ∙ ap (λ (l : List StmtId). flat_map (λ (id : StmtId). option_to_list (said_under content id)) l) c.deref.ensures.value ∙ as_found content c.in-Some.ids.items;
    }
