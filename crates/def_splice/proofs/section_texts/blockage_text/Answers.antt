use Rattle.std.proofs.Common.{◌∙◌, rules}
use Rattle.edit_rules.specs.Edits.{lent}
use Rattle.def_splice.proofs.PlaceLemmas.{if_ok}
use Rattle.def_splice.proofs.PutLemmas.{blockage_joined}
use Rattle.def_splice.proofs.section_texts.blockage_text.Goals as goal

pub returns : goal.returns
returns g c =
    let a = c.args in
    let same = blockage_joined c.kind_words.result.0.now c.kind_words.result.1.now c.as_bytes-x1.result.now c.as_bytes-y1.result.now c.as_bytes-x2.result.now c.as_bytes-y2.result.now (lent (λ l. l.now) a.layer) c.kind_words.ensures a.x1 a.y1 a.x2 a.y2 (search rules) (search rules) (search rules) (search rules) in
    if_ok c.joined.result (λ v e. e ∙ same) c.joined.ensures
