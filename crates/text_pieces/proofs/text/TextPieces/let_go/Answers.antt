use Rattle.text_pieces.specs.Tables.{table_of}
use Rattle.text_pieces.proofs.LettingGo.{is_text_left, text_left}
use Rattle.text_pieces.proofs.text.TextPieces.let_go.Goals as goal

pub invariant_of-self : goal.invariant_of-self
invariant_of-self g c =
    let s = c.self.inside in
    is_text_left (table_of s.table) (table_of c.let_go_all.new.self) s.tail.items s.len c.let_go_all.ensures.keeps c.self.invariant

pub returns-clause-text : goal.returns-clause-text
returns-clause-text g c =
    let s = c.self.inside in
    rw (← c.self.view_is) (text_left (table_of s.table) (table_of c.let_go_all.new.self) s.tail.items s.len c.let_go_all.ensures.keeps)
