use Rattle.text_pieces.specs.Statements.{modes_of, spans_of, statements_of}
use Rattle.text_pieces.proofs.LastingChanges.{same_numbers, same_under, stands_on, stands_same}
use Rattle.text_pieces.proofs.lasting.contents_stand_still.Goals as goal

pub returns : goal.returns
returns c = record {
  same = stands_same;
  on = stands_on;
  numbers = same_numbers;
  statements = same_under statements_of;
  spans = same_under spans_of;
  modes = same_under modes_of;
}
