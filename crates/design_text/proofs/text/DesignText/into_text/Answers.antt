use Rattle.std.proofs.Common.{◌≡◌, subst}
use Rattle.std.specs.Prelude.{IfOk}
use Rattle.text_pieces.specs.Content.{Content, text_of}
use Rattle.design_text.proofs.text.DesignText.into_text.Goals as goal

pub returns : goal.returns
returns g c = subst (λ (p : Content). IfOk c.joined.result (λ v. v.items ≡ text_of p)) c.into_pieces-pieces.ensures c.joined.ensures
