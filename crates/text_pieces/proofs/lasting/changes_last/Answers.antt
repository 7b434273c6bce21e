use Rattle.text_pieces.proofs.LastingChanges.{lasts, leads_also, leads_other}
use Rattle.text_pieces.proofs.lasting.changes_last.Goals as goal

pub returns : goal.returns
returns c = record {
  leads = leads_other;
  lasts = lasts;
  also = leads_also;
}
